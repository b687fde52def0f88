-- What acts, and what is answered.
use Rattle.std.specs.Prelude.{◌≡◌, ℕ, ◌+◌, ◌%◌, ◌≤◌, ⊤, true, false, ◌⊎◌, ◌≢◌}
use Rattle.std.specs.Prelude.{List, Some, None, Option}
use Rattle.packet.specs.declared.cv.CvNumber.{CvNumber}
use Rattle.packet.specs.declared.instruction.Instruction.{Instruction}
use Rattle.packet.specs.declared.instruction.Instruction.TheVariants as instruction
use Rattle.state.specs.declared.volatile.Reply.{Reply}
use Rattle.state.specs.declared.volatile.Reply.TheVariants as reply
use Rattle.state.specs.Bits.{bit_of}
use Rattle.state.specs.Packing.{packed, matches}
use Rattle.decoder.specs.declared.effect.Access.{Access}
use Rattle.decoder.specs.declared.records.Mobile.{Mobile}
use Rattle.decoder.specs.declared.role.Role.{Role}
use Rattle.decoder.specs.declared.role.Role.TheVariants as role
use Rattle.decoder.specs.Accesses.{access_of}
use Rattle.decoder.specs.Fresh.{Basic, Extended}
use Rattle.decoder.specs.Alone.{Own, Rules, variable, mobile_rules, basic_rules, extended_rules}
use Rattle.decoder.specs.Going.{GoesAlone}
use Rattle.decoder.specs.LongForms.{Writable}

-- replies are enabled by bit 3 of the 29th of the kind's own variables
abbrev pub RepliesEnabled : {X : Type 0} → Rules X → Own X → Type 0
RepliesEnabled m o = bit_of (variable o.vars (m.offset + 29)) 3 ≡ true

-- a write acts: this very packet waits, and packets write the variable
abbrev pub WriteActs : {X : Type 0} → Rules X → Own X → List ℕ → CvNumber → Type 0
WriteActs m o bs cv = (matches (m.waiting o.rec) (packed bs) ≡ true) × Writable m cv

-- by the own address a long form acts: a verify where the variable is as it says, a write at its
-- repetition. A bit is named by the lowest three bits of its number
abbrev pub LongFormActs : {X : Type 0} → Rules X → Own X → List ℕ → Instruction → Type 0
LongFormActs m o bs (instruction.VerifyByte cv x) = variable o.vars cv.number ≡ x
LongFormActs m o bs (instruction.VerifyBit cv b y) = bit_of (variable o.vars cv.number) (b % 8) ≡ y
LongFormActs m o bs (instruction.WriteByte cv x) = WriteActs m o bs cv
LongFormActs m o bs (instruction.WriteBit cv b y) = WriteActs m o bs cv
LongFormActs m o bs i = ⊥

-- and of a mobile decoder speed that is not ignored, a binary state that is kept, and most others
abbrev pub MobileActs : Own Mobile → List ℕ → Instruction → Type 0
MobileActs o bs instruction.Reset = ⊤
MobileActs o bs instruction.HardReset = ⊤
MobileActs o bs (instruction.AdvancedAddressing on) = ⊤
MobileActs o bs instruction.AcknowledgmentRequest = ⊤
MobileActs o bs (instruction.Consist reversed address) = ⊤
MobileActs o bs (instruction.Speed forward code) = GoesAlone o
MobileActs o bs (instruction.Speed126 forward code) = GoesAlone o
MobileActs o bs (instruction.Functions group bits) = ⊤
MobileActs o bs (instruction.BinaryStateShort on number) = ⊤
MobileActs o bs (instruction.BinaryStateLong on number) = number ≤ 2047
MobileActs o bs (instruction.AccelerationAdjustment value) = ⊤
MobileActs o bs (instruction.DecelerationAdjustment value) = ⊤
MobileActs o bs i = LongFormActs mobile_rules o bs i

-- of a basic decoder an output, of an extended one an aspect
abbrev pub BasicActs : Own Basic → List ℕ → Instruction → Type 0
BasicActs o bs (instruction.Output number on) = ⊤
BasicActs o bs i = LongFormActs basic_rules o bs i

abbrev pub ExtendedActs : Own Extended → List ℕ → Instruction → Type 0
ExtendedActs o bs (instruction.Aspect number) = ⊤
ExtendedActs o bs i = LongFormActs extended_rules o bs i

-- the verify of a byte is answered by the variable's value, all else by an acknowledgment
abbrev pub reply_due : Instruction → Reply
reply_due (instruction.VerifyByte cv x) = reply.Value x
reply_due i = reply.Acknowledgment

-- of a kind of decoder, whose latest reply is `latest`, and of what acts by its own address
module _ {X : Type 0} (m : Rules X) (latest : X → Option Reply) where
  -- what comes to the own address while replies are enabled, and acts, is answered. There is no
  -- other reply: none while they are disabled, none to what comes to all or by the consist address,
  -- speed too, and none to what does not act; so none to a write that names the seventh or the
  -- eighth of the kind's own variables, at its first packet or its second
  pub record RepliesNeedAll (Acts : Own X → List ℕ → Instruction → Type 0) : Type 0 where
    pub answered :
        (o : Own X) (bs : List ℕ) (i : Instruction)
        → RepliesEnabled m o
        → Acts o bs i
        → latest (m.obeys o role.Own bs i).rec ≡ Some (reply_due i)
    pub disabled :
        (o : Own X) (r : Role) (bs : List ℕ) (i : Instruction)
        → bit_of (variable o.vars (m.offset + 29)) 3 ≡ false
        → latest (m.obeys o r bs i).rec ≡ None
    pub not_own :
        (o : Own X) (r : Role) (bs : List ℕ) (i : Instruction)
        → r ≢ role.Own
        → latest (m.obeys o r bs i).rec ≡ None
    pub not_acted :
        (o : Own X) (bs : List ℕ) (i : Instruction)
        → ¬ Acts o bs i
        → latest (m.obeys o role.Own bs i).rec ≡ None
    pub read_only :
        (o : Own X) (r : Role) (bs : List ℕ) (i : Instruction) (a : Access)
        → access_of i ≡ Some a
        → a.writes ≡ true
        → (a.cv.number ≡ m.offset + 7) ⊎ (a.cv.number ≡ m.offset + 8)
        → latest (m.obeys o r bs i).rec ≡ None

-- Long-form instructions: verifying, and writes that wait for their repetition.
use Rattle.std.specs.Prelude.{ℕ, ◌+◌, ◌%◌, Bool, true, false, cond, not, ◌&&◌, ◌||◌, Some, None, Option, ◌==◌}
use Rattle.packet.specs.declared.instruction.Instruction.{Instruction}
use Rattle.packet.specs.declared.instruction.Instruction.TheVariants.{NoOperation, Reset, HardReset, AdvancedAddressing, AcknowledgmentRequest, Consist, Speed, Speed126, Functions, BinaryStateShort, BinaryStateLong, AccelerationAdjustment, DecelerationAdjustment, VerifyByte, WriteByte, VerifyBit, WriteBit, Output, Aspect}
use Rattle.packet.specs.declared.cv.CvNumber.{CvNumber}
use Rattle.state.specs.declared.waiting.WaitingWrite.{WaitingWrite}
use Rattle.state.specs.Bits.{bit_of, with_bit}
use Rattle.state.specs.Packing.{matches}
use Rattle.decoder.specs.declared.effect.Change.{Change}
use Rattle.decoder.specs.declared.effect.Change.TheVariants.{Byte, Bit}
use Rattle.decoder.specs.declared.effect.Access.{Access}
use Rattle.decoder.specs.declared.role.Role.{Role}
use Rattle.decoder.specs.declared.role.Role.TheVariants as role
use Rattle.decoder.specs.declared.effect.Accessed.{Accessed}
use Rattle.decoder.specs.declared.view.NamedVariable.{NamedVariable}

abbrev pub access : CvNumber → Bool → Change → Access
access cv writes c = record { cv = cv; writes = writes; change = c }

abbrev pub access_of : Instruction → Option Access
access_of NoOperation = None
access_of Reset = None
access_of HardReset = None
access_of (AdvancedAddressing on) = None
access_of AcknowledgmentRequest = None
access_of (Consist reversed address) = None
access_of (Speed forward code) = None
access_of (Speed126 forward code) = None
access_of (Functions group bits) = None
access_of (BinaryStateShort on number) = None
access_of (BinaryStateLong on number) = None
access_of (AccelerationAdjustment value) = None
access_of (DecelerationAdjustment value) = None
access_of (VerifyByte cv value) = Some (access cv false (Byte value))
access_of (WriteByte cv value) = Some (access cv true (Byte value))
access_of (VerifyBit cv bit value) = Some (access cv false (Bit bit value))
access_of (WriteBit cv bit value) = Some (access cv true (Bit bit value))
access_of (Output number on) = None
access_of (Aspect number) = None

abbrev pub same_truth : Bool → Bool → Bool
same_truth true b = b
same_truth false b = not b

-- a variable with the value v is as the change says
abbrev pub agrees : Change → ℕ → Bool
agrees (Byte x) v = x == v
agrees (Bit b on) v = same_truth (bit_of v (b % 8)) on

-- what the change makes of it
abbrev pub result : Change → ℕ → ℕ
result (Byte x) v = x
result (Bit b on) v = with_bit v (b % 8) on

-- how many variables stand before the own ones of mobile decoders, and of accessory decoders
abbrev pub mobile_offset : ℕ
mobile_offset = 0

abbrev pub accessory_offset : ℕ
accessory_offset = 512

-- bit 3 of the 29th of the kind's own variables enables replies
abbrev pub reply_variable : ℕ → ℕ
reply_variable offset = offset + 29

-- packets never write the seventh and the eighth of the kind's own variables
abbrev pub barred : ℕ → ℕ → Bool
barred offset n = n == offset + 7 || n == offset + 8

abbrev pub writes_by : Option Access → Bool
writes_by None = false
writes_by (Some a) = a.writes

-- a long-form write
abbrev pub is_write : Instruction → Bool
is_write i = writes_by (access_of i)

-- one that counts: by the own address or to all
abbrev pub writes_in : Role → Instruction → Bool
writes_in role.Everyone i = is_write i
writes_in role.Own i = is_write i
writes_in role.Consist i = false

-- a write waits unless it is the one that waited; every other packet ends the wait
abbrev pub waits_after : Option WaitingWrite → Role → WaitingWrite → Instruction → Option WaitingWrite
waits_after w r p i = cond (writes_in r i && not (matches w p)) (Some p) None

-- a long form, and the variable that it names as it stands
abbrev pub accessed : Option Access → Option NamedVariable → Option Accessed
accessed None v = None
accessed (Some a) None = None
accessed (Some a) (Some v) = Some (record { access = a; value = v.value; read_only = v.read_only })

-- a verify acts if the variable agrees, a write at its repetition, unless the variable is read-only
abbrev pub access_acts : Option WaitingWrite → WaitingWrite → Option Accessed → Bool
access_acts w p None = false
access_acts w p (Some a) =
    cond a.access.writes (matches w p && not a.read_only) (agrees a.access.change a.value)

-- What the rules come to, in the words of the track.
use Rattle.std.specs.Prelude.{◌≡◌, ℕ, ◌+◌, ◌-◌, ◌%◌, ◌<◌, ◌≤◌, Bool, true, false, cond, not, ◌&&◌, ◌⊎◌, List, length, Some, None, Ok, ◌≢◌, nat_le, nat_lt, ◌==◌, slice_index_or}
use Rattle.packet.specs.declared.instruction.FunctionGroup.{FunctionGroup}
use Rattle.packet.specs.declared.instruction.FunctionGroup.TheVariants.{F0ToF4, F5ToF8, F9ToF12, F13ToF20, F21ToF28, F29ToF36, F37ToF44, F45ToF52, F53ToF60, F61ToF68}
use Rattle.packet.specs.declared.instruction.Instruction.{Instruction}
use Rattle.packet.specs.declared.instruction.Instruction.TheVariants.{NoOperation, Reset, HardReset, AdvancedAddressing, AcknowledgmentRequest, Consist, Speed, Speed126, Functions, BinaryStateShort, BinaryStateLong, AccelerationAdjustment, DecelerationAdjustment, VerifyByte, WriteByte, VerifyBit, WriteBit, Output, Aspect}
use Rattle.packet.specs.declared.target.Target.{Target}
use Rattle.packet.specs.declared.target.Target.TheVariants as target
use Rattle.packet.specs.Groups.{lowest_of, width_of}
use Rattle.format.specs.Reading.{packet_of, packet_read}
use Rattle.state.specs.declared.scale.Scale.TheVariants.{Fourteen, TwentyEight, OneTwentySix}
use Rattle.state.specs.declared.step.Step.{Step}
use Rattle.state.specs.Bits.{bit_of, with_bit}
use Rattle.state.specs.Groups.{switched, function_at}
use Rattle.state.specs.Kept.{kept_after, state_at}
use Rattle.state.specs.Packing.{packed, matches}
use Rattle.state.specs.Scales.{top}
use Rattle.state.specs.Speeds.{speed_at}
use Rattle.state.specs.Starting.{mobile_start}
use Rattle.decoder.specs.declared.records.Mobile.{Mobile}
use Rattle.decoder.specs.declared.role.Address.{Address}
use Rattle.decoder.specs.declared.role.Address.TheVariants as address
use Rattle.decoder.specs.declared.role.Role.{Role}
use Rattle.decoder.specs.declared.role.Role.TheVariants as role
use Rattle.decoder.specs.declared.effect.Access.{Access}
use Rattle.decoder.specs.Accesses.{access_of, is_write}
use Rattle.decoder.specs.Fresh.{Basic, Extended}
use Rattle.decoder.specs.Fitted.{mobile_fitted, basic_fitted, extended_fitted}
use Rattle.decoder.specs.Hearing.{own_address, consist_of}
use Rattle.decoder.specs.Mobiles.{is_speed, mobile_noted}
use Rattle.decoder.specs.Alone.{Own, Rules, own, variable, hearing, live, mobile_view, mobile_rules, basic_rules, extended_rules}
use Rattle.decoder.specs.Alone.Event.{heard}
use Rattle.decoder.specs.LongForms.{PacketsWait, WritesTake}
use Rattle.decoder.specs.Beginnings.{PowersUp, Fits}
use Rattle.decoder.specs.Going.{SpeedsInOrder, GoesAsSent, SpeedActs}
use Rattle.decoder.specs.Settings.{Puts, MobileWaitEnds, AccessoryWaitEnds, SettingsLeave}
use Rattle.decoder.specs.Replying.{MobileActs, BasicActs, ExtendedActs, RepliesNeedAll}
use Rattle.decoder.specs.StateZero.{NumberZeroStaysOff}
use Rattle.decoder.specs.Spans.{GroupsAsCalled}

-- of a kind of decoder
pub record KindLaws {X : Type 0} (m : Rules X) : Type 0 where
  -- a packet that it does not hear changes nothing
  pub unheard_keeps : (o : Own X) (bs : List ℕ) → hearing m o (packet_read bs) ≡ None → live m o (heard bs) ≡ o
  -- one that it hears by some address it obeys in that role
  pub heard_obeys : (o : Own X) (t : Target) (r : Role) (bs : List ℕ) (i : Instruction) → packet_read bs ≡ Ok (packet_of t i) → m.hears o t ≡ Some r → live m o (heard bs) ≡ m.obeys o r bs i
  -- a long-form write never changes a variable at its first packet
  pub first_waits : (o : Own X) (r : Role) (bs : List ℕ) (i : Instruction) → is_write i ≡ true → matches (m.waiting o.rec) (packed bs) ≡ false → (m.obeys o r bs i).vars ≡ o.vars
  -- a long form that names the seventh or the eighth of the kind's own variables changes no variable
  pub read_only : (o : Own X) (r : Role) (bs : List ℕ) (i : Instruction) (a : Access) → access_of i ≡ Some a → (a.cv.number ≡ m.offset + 7) ⊎ (a.cv.number ≡ m.offset + 8) → (m.obeys o r bs i).vars ≡ o.vars

-- a reset brings exactly the volatile part to its power-up state; the reply to it is set after that
abbrev pub ResetIsPowerUp : Type 0
ResetIsPowerUp =
    (o : Own Mobile) (r : Role) (bs : List ℕ) → (r ≢ role.Consist)
    → ((mobile_rules.obeys o r bs Reset).vars ≡ o.vars)
    × ((mobile_rules.obeys o r bs Reset).rec.state ≡ mobile_noted mobile_start None (mobile_rules.obeys o r bs Reset).rec.state.reply)

-- a hard reset does that too, and leaves variables 19, 29, 31 and 32 at 0, 2, 16 and 0 and every other as it was
pub record HardResetLeaves (o after : Own Mobile) : Type 0 where
  pub state : after.rec.state ≡ mobile_noted mobile_start None after.rec.state.reply
  pub cv19 : variable after.vars 19 ≡ 0
  pub cv29 : variable after.vars 29 ≡ 2
  pub cv31 : variable after.vars 31 ≡ 16
  pub cv32 : variable after.vars 32 ≡ 0
  pub others : (n : ℕ) → 1 ≤ n → n ≢ 19 → n ≢ 29 → n ≢ 31 → n ≢ 32 → variable after.vars n ≡ variable o.vars n

abbrev pub HardResets : Type 0
HardResets = (o : Own Mobile) (r : Role) (bs : List ℕ) → length o.vars ≡ 1024 → (r ≢ role.Consist) → HardResetLeaves o (mobile_rules.obeys o r bs HardReset)

-- the direction of a speed by the consist address: turned by bit 7 of variable 19
abbrev pub as_turned : Own Mobile → Bool → Bool
as_turned o forward = cond (bit_of (variable o.vars 19) 7) (not forward) forward

-- a decoder that hears some address as that of its consist ignores speed to its own, and nothing changes but that a wait
-- ends and the reply is none; speed by the consist address acts, turned, in the steps that bit 1 of variable 29 chooses
pub record SpeedInConsist : Type 0 where
  pub ignored : (o : Own Mobile) (a : ℕ) (bs : List ℕ) (i : Instruction) → mobile_rules.hears o (target.Short a) ≡ Some role.Consist → is_speed i ≡ true → mobile_rules.obeys o role.Own bs i ≡ own (record { state = mobile_noted o.rec.state None None }) o.vars
  pub in126 : (o : Own Mobile) (bs : List ℕ) (forward : Bool) (code : ℕ) → GoesAsSent (mobile_rules.obeys o role.Consist bs (Speed126 forward code)).rec.state (as_turned o forward) (speed_at OneTwentySix code)
  pub in28 : (o : Own Mobile) (bs : List ℕ) (forward : Bool) (code : ℕ) → bit_of (variable o.vars 29) 1 ≡ true → GoesAsSent (mobile_rules.obeys o role.Consist bs (Speed forward code)).rec.state (as_turned o forward) (speed_at TwentyEight code)
  pub in14 : (o : Own Mobile) (bs : List ℕ) (forward : Bool) (code : ℕ) → bit_of (variable o.vars 29) 1 ≡ false → GoesAsSent (mobile_rules.obeys o role.Consist bs (Speed forward code)).rec.state (as_turned o forward) (speed_at Fourteen code)
  pub light : (o : Own Mobile) (bs : List ℕ) (forward : Bool) (code : ℕ) → length o.rec.state.functions.on ≡ 69 → bit_of (variable o.vars 29) 1 ≡ false → function_at (mobile_rules.obeys o role.Consist bs (Speed forward code)).rec.state.functions.on 0 ≡ Some (bit_of code 4)

-- by the consist address nothing but speed changes, and with it FL in 14 steps
pub record OnlySpeed (o after : Own Mobile) (i : Instruction) : Type 0 where
  pub vars : after.vars ≡ o.vars
  pub states : after.rec.state.states ≡ o.rec.state.states
  pub functions : (k : ℕ) → 1 ≤ k → slice_index_or after.rec.state.functions.on k false ≡ slice_index_or o.rec.state.functions.on k false
  pub others : is_speed i ≡ false → after.rec.state ≡ mobile_noted o.rec.state None None

abbrev pub ByConsistOnlySpeed : Type 0
ByConsistOnlySpeed = (o : Own Mobile) (bs : List ℕ) (i : Instruction) → OnlySpeed o (mobile_rules.obeys o role.Consist bs i) i

-- no decoder holds a step beyond its scale
abbrev pub StepsInScale : Type 0
StepsInScale = (s : Step) → s.number ≤ top s.scale

-- a function that the group names, F1 or above
abbrev pub is_in_group : FunctionGroup → ℕ → Bool
is_in_group g k = nat_le (lowest_of g) k && nat_lt k (lowest_of g + width_of g)

-- the groups name F1 to F68, each of them once
pub record GroupsNameEach : Type 0 where
  pub one : (k : ℕ) → 1 ≤ k → k ≤ 68 → (g : FunctionGroup) × (is_in_group g k ≡ true)
  pub no_other : (g h : FunctionGroup) (k : ℕ) → is_in_group g k ≡ true → is_in_group h k ≡ true → g ≡ h
  pub no_more : (g : FunctionGroup) (k : ℕ) → is_in_group g k ≡ true → (1 ≤ k) × (k ≤ 68)

-- after a group is switched each function from F1 on is as its bit says if the group names it, else as it was
abbrev pub GroupsSwitchTheirOwn : Type 0
GroupsSwitchTheirOwn =
    (fs : List Bool) (g : FunctionGroup) (bits k : ℕ) (light : Bool)
    → length fs ≡ 69
    → 1 ≤ k
    → slice_index_or (switched fs g bits light) k false ≡ cond (is_in_group g k) (bit_of bits (k - lowest_of g)) (slice_index_or fs k false)

-- FL is switched by group one alone, and only where `light` says so
abbrev pub is_group_one : FunctionGroup → Bool
is_group_one F0ToF4 = true
is_group_one F5ToF8 = false
is_group_one F9ToF12 = false
is_group_one F13ToF20 = false
is_group_one F21ToF28 = false
is_group_one F29ToF36 = false
is_group_one F37ToF44 = false
is_group_one F45ToF52 = false
is_group_one F53ToF60 = false
is_group_one F61ToF68 = false

abbrev pub LightByGroupOne : Type 0
LightByGroupOne =
    (fs : List Bool) (g : FunctionGroup) (bits : ℕ) (light : Bool)
    → length fs ≡ 69
    → slice_index_or (switched fs g bits light) 0 false ≡ cond (is_group_one g && light) (bit_of bits 4) (slice_index_or fs 0 false)

-- the instructions that may change functions: a group, a reset, and speed in 14 steps, which changes FL
abbrev pub touches_functions : Instruction → Bool
touches_functions NoOperation = false
touches_functions Reset = true
touches_functions HardReset = true
touches_functions (AdvancedAddressing on) = false
touches_functions AcknowledgmentRequest = false
touches_functions (Consist reversed address) = false
touches_functions (Speed forward code) = true
touches_functions (Speed126 forward code) = false
touches_functions (Functions group bits) = true
touches_functions (BinaryStateShort on number) = false
touches_functions (BinaryStateLong on number) = false
touches_functions (AccelerationAdjustment value) = false
touches_functions (DecelerationAdjustment value) = false
touches_functions (VerifyByte cv value) = false
touches_functions (WriteByte cv value) = false
touches_functions (VerifyBit cv bit value) = false
touches_functions (WriteBit cv bit value) = false
touches_functions (Output number on) = false
touches_functions (Aspect number) = false

abbrev pub OthersKeepFunctions : Type 0
OthersKeepFunctions =
    (o : Own Mobile) (r : Role) (bs : List ℕ) (i : Instruction)
    → touches_functions i ≡ false
    → (mobile_rules.obeys o r bs i).rec.state.functions ≡ o.rec.state.functions

-- the target of packets to an address, and the addresses of mobile decoders
abbrev pub target_at : Address → Target
target_at (address.Short a) = target.Short a
target_at (address.Long a) = target.Long a

abbrev pub is_mobile_address : Address → Bool
is_mobile_address (address.Short a) = nat_le 1 a && nat_le a 127
is_mobile_address (address.Long a) = nat_le a 10239

-- a decoder that was fitted at an address hears the packets to it, by its own address
pub record HearsItsOwn : Type 0 where
  pub mobile : (a : Address) → is_mobile_address a ≡ true → mobile_rules.hears (mobile_fitted a) (target_at a) ≡ Some role.Own
  pub basic : (a : ℕ) → basic_rules.hears (basic_fitted a) (target.Basic a) ≡ Some role.Own
  pub extended : (a : ℕ) → extended_rules.hears (extended_fitted a) (target.Extended a) ≡ Some role.Own

-- whatever its variables hold, a mobile decoder has no other address than these
abbrev pub HasAnAddress : Type 0
HasAnAddress = (config short high low : ℕ) (a : Address) → low < 256 → own_address config short high low ≡ Some a → is_mobile_address a ≡ true

-- it hears no packet to nobody and none to accessory decoders, and these hear only packets to their kind
pub record HearsItsKind : Type 0 where
  pub mobile : (o : Own Mobile) (a : ℕ) → (mobile_rules.hears o target.Idle ≡ None) × (mobile_rules.hears o (target.Basic a) ≡ None) × (mobile_rules.hears o (target.Extended a) ≡ None)
  pub basic : (o : Own Basic) (t : Target) (r : Role) → basic_rules.hears o t ≡ Some r → (a : ℕ) × (t ≡ target.Basic a)
  pub extended : (o : Own Extended) (t : Target) (r : Role) → extended_rules.hears o t ≡ Some r → (a : ℕ) × (t ≡ target.Extended a)

-- the binary states that are kept are 1 to 2047; after one of them is switched it is as told, and every other as it was
pub record StatesSwitchOne : Type 0 where
  pub kept : (bits : List ℕ) (n : ℕ) → 1 ≤ n → n ≤ 2047 → (on : Bool) × (state_at bits n ≡ Some on)
  pub none : (bits : List ℕ) → state_at bits 0 ≡ None
  pub beyond : (bits : List ℕ) (n : ℕ) → 2048 ≤ n → state_at bits n ≡ None
  pub same : (bits : List ℕ) (n : ℕ) (on : Bool) → length bits ≡ 256 → 1 ≤ n → n ≤ 2047 → state_at (kept_after bits n on) n ≡ Some on
  pub others : (bits : List ℕ) (n m : ℕ) (on : Bool) → length bits ≡ 256 → m ≢ n → state_at (kept_after bits n on) m ≡ state_at bits m

-- all binary states that are kept, or those from 1 to 127, are as told after they are switched together, and the others
-- as they were
pub record StatesSwitchTogether : Type 0 where
  pub all : (o : Own Mobile) (r : Role) (bs : List ℕ) (n : ℕ) (on : Bool) → r ≢ role.Consist → 1 ≤ n → n ≤ 2047 → state_at (mobile_rules.obeys o r bs (BinaryStateLong on 0)).rec.state.states.bits n ≡ Some on
  pub low : (o : Own Mobile) (r : Role) (bs : List ℕ) (n : ℕ) (on : Bool) → r ≢ role.Consist → 1 ≤ n → n ≤ 127 → state_at (mobile_rules.obeys o r bs (BinaryStateShort on 0)).rec.state.states.bits n ≡ Some on
  pub high : (o : Own Mobile) (r : Role) (bs : List ℕ) (n : ℕ) (on : Bool) → 128 ≤ n → state_at (mobile_rules.obeys o r bs (BinaryStateShort on 0)).rec.state.states.bits n ≡ state_at o.rec.state.states.bits n

-- the functions that are told are F0, which is FL, to F68, each as it stands
pub record FunctionsTold : Type 0 where
  pub told : (fs : List Bool) (n : ℕ) → n ≤ 68 → function_at fs n ≡ Some (slice_index_or fs n false)
  pub beyond : (fs : List Bool) (n : ℕ) → 69 ≤ n → function_at fs n ≡ None

-- every decoder hears what is sent to all of its kind, and as such, but an accessory decoder that is at the broadcast address
-- itself, which hears it as its own. An accessory decoder hears nothing but that and its own address
pub record HearsAll : Type 0 where
  pub mobile : (o : Own Mobile) → mobile_rules.hears o target.Broadcast ≡ Some role.Everyone
  pub basic : (o : Own Basic) → o.rec.address ≢ 511 → basic_rules.hears o (target.Basic 511) ≡ Some role.Everyone
  pub extended : (o : Own Extended) → o.rec.address ≢ 2047 → extended_rules.hears o (target.Extended 2047) ≡ Some role.Everyone
  pub basic_others : (o : Own Basic) (a : ℕ) → a ≢ o.rec.address → a ≢ 511 → basic_rules.hears o (target.Basic a) ≡ None
  pub extended_others : (o : Own Extended) (a : ℕ) → a ≢ o.rec.address → a ≢ 2047 → extended_rules.hears o (target.Extended a) ≡ None

-- instructions that put something into a variable of their own: 19 gets the consist address, with bit 7 where it is
-- reversed, 23 and 24 the adjustments, and bit 5 of 29 says whether the long address counts
pub record InstructionsPut : Type 0 where
  pub consist : (o : Own Mobile) (r : Role) (bs : List ℕ) (reversed : Bool) (a : ℕ) → length o.vars ≡ 1024 → r ≢ role.Consist → Puts o (mobile_rules.obeys o r bs (Consist reversed a)) 19 (cond reversed 128 0 + a % 128)
  pub acceleration : (o : Own Mobile) (r : Role) (bs : List ℕ) (x : ℕ) → length o.vars ≡ 1024 → r ≢ role.Consist → Puts o (mobile_rules.obeys o r bs (AccelerationAdjustment x)) 23 x
  pub deceleration : (o : Own Mobile) (r : Role) (bs : List ℕ) (x : ℕ) → length o.vars ≡ 1024 → r ≢ role.Consist → Puts o (mobile_rules.obeys o r bs (DecelerationAdjustment x)) 24 x
  pub advanced : (o : Own Mobile) (r : Role) (bs : List ℕ) (on : Bool) → length o.vars ≡ 1024 → r ≢ role.Consist → Puts o (mobile_rules.obeys o r bs (AdvancedAddressing on)) 29 (with_bit (variable o.vars 29) 5 on)

-- the instructions that may change variables of a mobile decoder: a hard reset, those with a variable of their own, and a
-- write
abbrev pub touches_variables : Instruction → Bool
touches_variables NoOperation = false
touches_variables Reset = false
touches_variables HardReset = true
touches_variables (AdvancedAddressing on) = true
touches_variables AcknowledgmentRequest = false
touches_variables (Consist reversed address) = true
touches_variables (Speed forward code) = false
touches_variables (Speed126 forward code) = false
touches_variables (Functions group bits) = false
touches_variables (BinaryStateShort on number) = false
touches_variables (BinaryStateLong on number) = false
touches_variables (AccelerationAdjustment value) = true
touches_variables (DecelerationAdjustment value) = true
touches_variables (VerifyByte cv value) = false
touches_variables (WriteByte cv value) = true
touches_variables (VerifyBit cv bit value) = false
touches_variables (WriteBit cv bit value) = true
touches_variables (Output number on) = false
touches_variables (Aspect number) = false

-- no other changes one, and of an accessory decoder none but a write does
pub record OthersKeepVariables : Type 0 where
  pub mobile : (o : Own Mobile) (r : Role) (bs : List ℕ) (i : Instruction) → touches_variables i ≡ false → (mobile_rules.obeys o r bs i).vars ≡ o.vars
  pub basic : (o : Own Basic) (r : Role) (bs : List ℕ) (i : Instruction) → is_write i ≡ false → (basic_rules.obeys o r bs i).vars ≡ o.vars
  pub extended : (o : Own Extended) (r : Role) (bs : List ℕ) (i : Instruction) → is_write i ≡ false → (extended_rules.obeys o r bs i).vars ≡ o.vars

-- no instruction but speed and a reset changes the speed or the direction, and none but a binary state and a reset the
-- binary states
pub record OthersKeep : Type 0 where
  pub speed : (o : Own Mobile) (r : Role) (bs : List ℕ) (i : Instruction) → is_speed i ≡ false → i ≢ Reset → i ≢ HardReset → (mobile_rules.obeys o r bs i).rec.state.speed ≡ o.rec.state.speed
  pub forward : (o : Own Mobile) (r : Role) (bs : List ℕ) (i : Instruction) → is_speed i ≡ false → i ≢ Reset → i ≢ HardReset → (mobile_rules.obeys o r bs i).rec.state.forward ≡ o.rec.state.forward
  pub states : (o : Own Mobile) (r : Role) (bs : List ℕ) (i : Instruction) → ((on : Bool) (n : ℕ) → (i ≢ BinaryStateShort on n) × (i ≢ BinaryStateLong on n)) → i ≢ Reset → i ≢ HardReset → (mobile_rules.obeys o r bs i).rec.state.states ≡ o.rec.state.states

-- a basic decoder switches the output that is named and no other, an extended one takes the aspect; no other instruction
-- changes what they show, and none their address
pub record AccessoriesShow : Type 0 where
  pub output : (o : Own Basic) (r : Role) (bs : List ℕ) (n k : ℕ) (on : Bool) → length o.rec.state.shown ≡ 8 → k < 8 → slice_index_or (basic_rules.obeys o r bs (Output n on)).rec.state.shown k false ≡ cond (n % 8 == k) on (slice_index_or o.rec.state.shown k false)
  pub aspect : (o : Own Extended) (r : Role) (bs : List ℕ) (n : ℕ) → (extended_rules.obeys o r bs (Aspect n)).rec.state.shown ≡ n
  pub basic_others : (o : Own Basic) (r : Role) (bs : List ℕ) (i : Instruction) → ((n : ℕ) (on : Bool) → i ≢ Output n on) → (basic_rules.obeys o r bs i).rec.state.shown ≡ o.rec.state.shown
  pub extended_others : (o : Own Extended) (r : Role) (bs : List ℕ) (i : Instruction) → ((n : ℕ) → i ≢ Aspect n) → (extended_rules.obeys o r bs i).rec.state.shown ≡ o.rec.state.shown
  pub basic_address : (o : Own Basic) (r : Role) (bs : List ℕ) (i : Instruction) → (basic_rules.obeys o r bs i).rec.address ≡ o.rec.address
  pub extended_address : (o : Own Extended) (r : Role) (bs : List ℕ) (i : Instruction) → (extended_rules.obeys o r bs i).rec.address ≡ o.rec.address

-- a packet that a mobile decoder hears as its own is to the address that its variables hold, and each packet to that it hears
-- so; one that it hears as its consist's is to the short address of its consist, and each packet to that it hears so unless
-- that is its own; and only a broadcast it hears as sent to all. An accessory decoder hears as its own what is sent to the
-- address that it holds
pub record HearsAsAddressed : Type 0 where
  pub own : (o : Own Mobile) (t : Target) → mobile_rules.hears o t ≡ Some role.Own → (a : Address) × ((mobile_view o.vars None).own ≡ Some a) × (t ≡ target_at a)
  pub at_own : (o : Own Mobile) (a : Address) → (mobile_view o.vars None).own ≡ Some a → mobile_rules.hears o (target_at a) ≡ Some role.Own
  pub consist : (o : Own Mobile) (t : Target) → mobile_rules.hears o t ≡ Some role.Consist → (a : ℕ) × (consist_of (mobile_view o.vars None) ≡ Some a) × (t ≡ target.Short a)
  pub at_consist : (o : Own Mobile) (a : ℕ) → consist_of (mobile_view o.vars None) ≡ Some a → (mobile_view o.vars None).own ≢ Some (address.Short a) → mobile_rules.hears o (target.Short a) ≡ Some role.Consist
  pub everyone : (o : Own Mobile) (t : Target) → mobile_rules.hears o t ≡ Some role.Everyone → t ≡ target.Broadcast
  pub basic : (o : Own Basic) → basic_rules.hears o (target.Basic o.rec.address) ≡ Some role.Own
  pub extended : (o : Own Extended) → extended_rules.hears o (target.Extended o.rec.address) ≡ Some role.Own

-- by the own address or to all a group of functions switches those, and a binary state by its number that one
pub record SwitchesAct : Type 0 where
  pub group : (o : Own Mobile) (r : Role) (bs : List ℕ) (g : FunctionGroup) (bits : ℕ) → r ≢ role.Consist → (mobile_rules.obeys o r bs (Functions g bits)).rec.state.functions.on ≡ switched o.rec.state.functions.on g bits (bit_of (variable o.vars 29) 1)
  pub short_state : (o : Own Mobile) (r : Role) (bs : List ℕ) (n : ℕ) (on : Bool) → r ≢ role.Consist → 1 ≤ n → (mobile_rules.obeys o r bs (BinaryStateShort on n)).rec.state.states.bits ≡ kept_after o.rec.state.states.bits n on
  pub long_state : (o : Own Mobile) (r : Role) (bs : List ℕ) (n : ℕ) (on : Bool) → r ≢ role.Consist → 1 ≤ n → (mobile_rules.obeys o r bs (BinaryStateLong on n)).rec.state.states.bits ≡ kept_after o.rec.state.states.bits n on

pub record Laws : Type 0 where
  pub mobiles : KindLaws mobile_rules
  pub basics : KindLaws basic_rules
  pub extendeds : KindLaws extended_rules
  pub mobile_replies : RepliesNeedAll mobile_rules (λ x. x.state.reply) MobileActs
  pub basic_replies : RepliesNeedAll basic_rules (λ x. x.state.reply) BasicActs
  pub extended_replies : RepliesNeedAll extended_rules (λ x. x.state.reply) ExtendedActs
  pub resets : ResetIsPowerUp
  pub hard_resets : HardResets
  pub consists : ByConsistOnlySpeed
  pub speeds : SpeedInConsist
  pub scales : StepsInScale
  pub group_names : GroupsNameEach
  pub groups : GroupsSwitchTheirOwn
  pub light : LightByGroupOne
  pub functions : OthersKeepFunctions
  pub own : HearsItsOwn
  pub addresses : HasAnAddress
  pub kinds : HearsItsKind
  pub states : StatesSwitchOne
  pub states_together : StatesSwitchTogether
  pub functions_told : FunctionsTold
  pub speed_codes : SpeedsInOrder
  pub speed_acts : SpeedActs
  pub broadcasts : HearsAll
  pub puts : InstructionsPut
  pub mobile_writes : WritesTake mobile_rules
  pub basic_writes : WritesTake basic_rules
  pub extended_writes : WritesTake extended_rules
  pub power_up : PowersUp
  pub fits : Fits
  pub others_keep : OthersKeep
  pub accessories : AccessoriesShow
  pub packets_wait : PacketsWait
  pub switches_act : SwitchesAct
  pub others_keep_variables : OthersKeepVariables
  pub as_addressed : HearsAsAddressed
  pub mobile_settings : SettingsLeave mobile_rules MobileWaitEnds
  pub basic_settings : SettingsLeave basic_rules AccessoryWaitEnds
  pub extended_settings : SettingsLeave extended_rules AccessoryWaitEnds
  pub state_zero : NumberZeroStaysOff
  pub group_spans : GroupsAsCalled

-- What a mobile decoder does at an instruction that it hears.
use Rattle.std.specs.Prelude.{ℕ, ◌+◌, ◌%◌, Bool, true, false, cond, not, ◌&&◌, Some, None, Option, ◌==◌, nat_lt}
use Rattle.std.proofs.Common.{lit≤}
use Rattle.packet.specs.declared.cv.CvNumber.{CvNumber}
use Rattle.packet.specs.declared.instruction.Instruction.{Instruction}
use Rattle.packet.specs.declared.instruction.Instruction.TheVariants.{NoOperation, Reset, HardReset, AdvancedAddressing, AcknowledgmentRequest, Consist, Speed, Speed126, Functions, BinaryStateShort, BinaryStateLong, AccelerationAdjustment, DecelerationAdjustment, VerifyByte, WriteByte, VerifyBit, WriteBit, Output, Aspect}
use Rattle.state.specs.declared.scale.Scale.{Scale}
use Rattle.state.specs.declared.scale.Scale.TheVariants.{Fourteen, TwentyEight, OneTwentySix}
use Rattle.state.specs.declared.volatile.MobileState.{MobileState}
use Rattle.state.specs.declared.volatile.Reply.{Reply}
use Rattle.state.specs.declared.waiting.WaitingWrite.{WaitingWrite}
use Rattle.state.specs.declared.functions.Functions as functions
use Rattle.state.specs.declared.states.BinaryStates as binary_states
use Rattle.state.specs.Bits.{bit_of, with_bit}
use Rattle.state.specs.Speeds.{speed_at}
use Rattle.state.specs.Groups.{switched, lit}
use Rattle.state.specs.Kept.{all_states, low_states, kept_after}
use Rattle.state.specs.Starting.{mobile_start}
use Rattle.decoder.specs.declared.effect.Effect.{Effect}
use Rattle.decoder.specs.declared.effect.Effect.TheVariants as effect
use Rattle.decoder.specs.declared.heard.Heard.{Heard}
use Rattle.decoder.specs.declared.role.Role.{Role}
use Rattle.decoder.specs.declared.role.Role.TheVariants as role
use Rattle.decoder.specs.declared.effect.Accessed.{Accessed}
use Rattle.decoder.specs.declared.view.MobileView.{MobileView}
use Rattle.decoder.specs.Accesses.{result, waits_after, access_acts, access_of, accessed}
use Rattle.decoder.specs.Hearing.{in_consist}
use Rattle.decoder.specs.Replies.{is_own, reply_after}

-- speed to the own address is ignored while another address, that of a consist, stands
abbrev pub speed_acts : MobileView → Role → Bool
speed_acts v r = not (is_own r && in_consist v)

-- by the own address or to all
abbrev pub fully_acts : MobileState → MobileView → Role → WaitingWrite → Instruction → Bool
fully_acts s v r p NoOperation = false
fully_acts s v r p Reset = true
fully_acts s v r p HardReset = true
fully_acts s v r p (AdvancedAddressing on) = true
fully_acts s v r p AcknowledgmentRequest = true
fully_acts s v r p (Consist reversed address) = true
fully_acts s v r p (Speed forward code) = speed_acts v r
fully_acts s v r p (Speed126 forward code) = speed_acts v r
fully_acts s v r p (Functions group bits) = true
fully_acts s v r p (BinaryStateShort on number) = true
fully_acts s v r p (BinaryStateLong on number) = not (nat_lt 2047 number)
fully_acts s v r p (AccelerationAdjustment value) = true
fully_acts s v r p (DecelerationAdjustment value) = true
fully_acts s v r p (VerifyByte cv value) = access_acts s.waiting p (accessed (access_of (VerifyByte cv value)) v.named)
fully_acts s v r p (WriteByte cv value) = access_acts s.waiting p (accessed (access_of (WriteByte cv value)) v.named)
fully_acts s v r p (VerifyBit cv bit value) = access_acts s.waiting p (accessed (access_of (VerifyBit cv bit value)) v.named)
fully_acts s v r p (WriteBit cv bit value) = access_acts s.waiting p (accessed (access_of (WriteBit cv bit value)) v.named)
fully_acts s v r p (Output number on) = false
fully_acts s v r p (Aspect number) = false

-- by the consist address only speed acts
abbrev pub is_speed : Instruction → Bool
is_speed NoOperation = false
is_speed Reset = false
is_speed HardReset = false
is_speed (AdvancedAddressing on) = false
is_speed AcknowledgmentRequest = false
is_speed (Consist reversed address) = false
is_speed (Speed forward code) = true
is_speed (Speed126 forward code) = true
is_speed (Functions group bits) = false
is_speed (BinaryStateShort on number) = false
is_speed (BinaryStateLong on number) = false
is_speed (AccelerationAdjustment value) = false
is_speed (DecelerationAdjustment value) = false
is_speed (VerifyByte cv value) = false
is_speed (WriteByte cv value) = false
is_speed (VerifyBit cv bit value) = false
is_speed (WriteBit cv bit value) = false
is_speed (Output number on) = false
is_speed (Aspect number) = false

abbrev pub mobile_acts : MobileState → MobileView → Role → WaitingWrite → Instruction → Bool
mobile_acts s v role.Everyone p i = fully_acts s v role.Everyone p i
mobile_acts s v role.Own p i = fully_acts s v role.Own p i
mobile_acts s v role.Consist p i = is_speed i

-- by the consist address the direction is turned where bit 7 of variable 19 is set
abbrev pub directed : MobileView → Role → Bool → Bool
directed v role.Everyone forward = forward
directed v role.Own forward = forward
directed v role.Consist forward = cond (bit_of v.consist 7) (not forward) forward

-- a speed in some scale
abbrev pub sped : MobileState → Scale → Bool → ℕ → MobileState
sped s scale forward code =
    record {
      forward = forward;
      speed = speed_at scale code;
      functions = s.functions;
      states = s.states;
      waiting = s.waiting;
      reply = s.reply;
    }

abbrev pub with_functions : MobileState → functions.Functions → MobileState
with_functions s f =
    record { forward = s.forward; speed = s.speed; functions = f; states = s.states; waiting = s.waiting; reply = s.reply }

abbrev pub with_states : MobileState → binary_states.BinaryStates → MobileState
with_states s b =
    record { forward = s.forward; speed = s.speed; functions = s.functions; states = b; waiting = s.waiting; reply = s.reply }

-- a speed in 28 or 14 steps, by bit 1 of variable 29; in 14 steps FL becomes bit 4 of the code
abbrev pub sped_short : MobileState → MobileView → Bool → ℕ → MobileState
sped_short s v forward code =
    cond (bit_of v.config 1) (sped s TwentyEight forward code)
    (with_functions (sped s Fourteen forward code) (record { on = lit s.functions.on code }))

-- what an instruction that acts makes of the volatile part
abbrev pub mobile_changed : MobileState → MobileView → Role → Instruction → MobileState
mobile_changed s v r NoOperation = s
mobile_changed s v r Reset = mobile_start
mobile_changed s v r HardReset = mobile_start
mobile_changed s v r (AdvancedAddressing on) = s
mobile_changed s v r AcknowledgmentRequest = s
mobile_changed s v r (Consist reversed address) = s
mobile_changed s v r (Speed forward code) = sped_short s v (directed v r forward) code
mobile_changed s v r (Speed126 forward code) = sped s OneTwentySix (directed v r forward) code
mobile_changed s v r (Functions group bits) = with_functions s (record { on = switched s.functions.on group bits (bit_of v.config 1) })
mobile_changed s v r (BinaryStateShort on number) = with_states s (record { bits = cond (number == 0) (low_states s.states.bits on) (kept_after s.states.bits number on) })
mobile_changed s v r (BinaryStateLong on number) = with_states s (record { bits = cond (number == 0) (all_states on) (kept_after s.states.bits number on) })
mobile_changed s v r (AccelerationAdjustment value) = s
mobile_changed s v r (DecelerationAdjustment value) = s
mobile_changed s v r (VerifyByte cv value) = s
mobile_changed s v r (WriteByte cv value) = s
mobile_changed s v r (VerifyBit cv bit value) = s
mobile_changed s v r (WriteBit cv bit value) = s
mobile_changed s v r (Output number on) = s
mobile_changed s v r (Aspect number) = s

-- what a long form that acts does to its variable
abbrev pub access_effect : Option Accessed → Option Effect
access_effect None = None
access_effect (Some a) = cond a.access.writes (Some (effect.Put a.access.cv (result a.access.change a.value))) None

-- the variables that an instruction names by itself
abbrev pub consist_address : CvNumber
consist_address = record { number = 19; least = lit≤ tt; most = lit≤ tt }

abbrev pub acceleration_adjustment : CvNumber
acceleration_adjustment = record { number = 23; least = lit≤ tt; most = lit≤ tt }

abbrev pub deceleration_adjustment : CvNumber
deceleration_adjustment = record { number = 24; least = lit≤ tt; most = lit≤ tt }

abbrev pub configuration : CvNumber
configuration = record { number = 29; least = lit≤ tt; most = lit≤ tt }

-- and what an instruction that acts does to the variables
abbrev pub mobile_effect : MobileView → Instruction → Option Effect
mobile_effect v NoOperation = None
mobile_effect v Reset = None
mobile_effect v HardReset = Some effect.HardReset
mobile_effect v (AdvancedAddressing on) = Some (effect.Put configuration (with_bit v.config 5 on))
mobile_effect v AcknowledgmentRequest = None
mobile_effect v (Consist reversed address) = Some (effect.Put consist_address (cond reversed 128 0 + address % 128))
mobile_effect v (Speed forward code) = None
mobile_effect v (Speed126 forward code) = None
mobile_effect v (Functions group bits) = None
mobile_effect v (BinaryStateShort on number) = None
mobile_effect v (BinaryStateLong on number) = None
mobile_effect v (AccelerationAdjustment value) = Some (effect.Put acceleration_adjustment value)
mobile_effect v (DecelerationAdjustment value) = Some (effect.Put deceleration_adjustment value)
mobile_effect v (VerifyByte cv value) = access_effect (accessed (access_of (VerifyByte cv value)) v.named)
mobile_effect v (WriteByte cv value) = access_effect (accessed (access_of (WriteByte cv value)) v.named)
mobile_effect v (VerifyBit cv bit value) = access_effect (accessed (access_of (VerifyBit cv bit value)) v.named)
mobile_effect v (WriteBit cv bit value) = access_effect (accessed (access_of (WriteBit cv bit value)) v.named)
mobile_effect v (Output number on) = None
mobile_effect v (Aspect number) = None

-- with what waits and the reply
abbrev pub mobile_noted : MobileState → Option WaitingWrite → Option Reply → MobileState
mobile_noted s w r =
    record { forward = s.forward; speed = s.speed; functions = s.functions; states = s.states; waiting = w; reply = r }

-- a packet that is heard in a role: the volatile part afterwards, and what becomes of the variables
abbrev pub mobile_after : MobileState → MobileView → Heard → MobileState
mobile_after s v h =
    mobile_noted (cond (mobile_acts s v h.role h.packet h.instruction) (mobile_changed s v h.role h.instruction) s) (waits_after s.waiting h.role h.packet h.instruction)
    (reply_after v.config (accessed (access_of h.instruction) v.named) h.role (mobile_acts s v h.role h.packet h.instruction))

abbrev pub mobile_plan : MobileState → MobileView → Heard → Option Effect
mobile_plan s v h = cond (mobile_acts s v h.role h.packet h.instruction) (mobile_effect v h.instruction) None

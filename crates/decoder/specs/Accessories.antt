-- What makes the two kinds of accessory decoders, and what one does at an instruction that it hears.
use Rattle.std.specs.Prelude.{ℕ, ◌%◌, Bool, cond, ◌||◌, List, Some, None, Option, is_some, slice_set}
use Rattle.std.specs.Option.{option_map, unwrap_or}
use Rattle.packet.specs.declared.instruction.Instruction.{Instruction}
use Rattle.packet.specs.declared.instruction.Instruction.TheVariants.{NoOperation, Reset, HardReset, AdvancedAddressing, AcknowledgmentRequest, Consist, Speed, Speed126, Functions, BinaryStateShort, BinaryStateLong, AccelerationAdjustment, DecelerationAdjustment, VerifyByte, WriteByte, VerifyBit, WriteBit, Output, Aspect}
use Rattle.packet.specs.declared.target.Target.{Target}
use Rattle.state.specs.declared.volatile.AccessoryState.{AccessoryState}
use Rattle.state.specs.Starting.{basic_start, extended_start}
use Rattle.decoder.specs.declared.effect.Effect.{Effect}
use Rattle.decoder.specs.declared.heard.Heard.{Heard}
use Rattle.decoder.specs.declared.role.Role.{Role}
use Rattle.decoder.specs.declared.view.AccessoryView.{AccessoryView}
use Rattle.decoder.specs.Accesses.{access_of, accessed, waits_after, access_acts}
use Rattle.decoder.specs.Hearing.{basic_role, extended_role}
use Rattle.decoder.specs.Mobiles.{access_effect}
use Rattle.decoder.specs.Replies.{reply_after}

-- the output that an instruction switches
abbrev pub output_of : Instruction → Option (ℕ × Bool)
output_of NoOperation = None
output_of Reset = None
output_of HardReset = None
output_of (AdvancedAddressing on) = None
output_of AcknowledgmentRequest = None
output_of (Consist reversed address) = None
output_of (Speed forward code) = None
output_of (Speed126 forward code) = None
output_of (Functions group bits) = None
output_of (BinaryStateShort on number) = None
output_of (BinaryStateLong on number) = None
output_of (AccelerationAdjustment value) = None
output_of (DecelerationAdjustment value) = None
output_of (VerifyByte cv value) = None
output_of (WriteByte cv value) = None
output_of (VerifyBit cv bit value) = None
output_of (WriteBit cv bit value) = None
output_of (Output number on) = Some (number % 8, on)
output_of (Aspect number) = None

-- the aspect that an instruction asks for
abbrev pub aspect_of : Instruction → Option ℕ
aspect_of NoOperation = None
aspect_of Reset = None
aspect_of HardReset = None
aspect_of (AdvancedAddressing on) = None
aspect_of AcknowledgmentRequest = None
aspect_of (Consist reversed address) = None
aspect_of (Speed forward code) = None
aspect_of (Speed126 forward code) = None
aspect_of (Functions group bits) = None
aspect_of (BinaryStateShort on number) = None
aspect_of (BinaryStateLong on number) = None
aspect_of (AccelerationAdjustment value) = None
aspect_of (DecelerationAdjustment value) = None
aspect_of (VerifyByte cv value) = None
aspect_of (WriteByte cv value) = None
aspect_of (VerifyBit cv bit value) = None
aspect_of (WriteBit cv bit value) = None
aspect_of (Output number on) = None
aspect_of (Aspect number) = Some number

-- what makes a kind of accessory decoders
pub record AccessoryKind (S : Type 0) : Type 0 where
  -- as the power comes up
  pub start : AccessoryState S
  -- by which address a decoder of that address hears a packet to the target
  pub role : ℕ → Target → Option Role
  -- what is shown after an instruction of the kind's own
  pub after : S → Instruction → Option S

abbrev pub basic_kind : AccessoryKind (List Bool)
basic_kind = record { start = basic_start; role = basic_role; after = λ os i. option_map (λ o. slice_set os o.0 o.1) (output_of i) }

abbrev pub extended_kind : AccessoryKind ℕ
extended_kind = record { start = extended_start; role = extended_role; after = λ a i. aspect_of i }

module _ {S : Type 0} (k : AccessoryKind S) where
  -- an instruction of the kind's own acts, and a long form by its rules
  abbrev pub accessory_acts : AccessoryState S → AccessoryView → Heard → Bool
  accessory_acts s v h = is_some (k.after s.shown h.instruction) || access_acts s.waiting h.packet (accessed (access_of h.instruction) v.named)

  -- a packet that is heard in a role: the volatile part afterwards
  abbrev pub accessory_after : AccessoryState S → AccessoryView → Heard → AccessoryState S
  accessory_after s v h =
      record {
        shown = unwrap_or (k.after s.shown h.instruction) s.shown;
        waiting = waits_after s.waiting h.role h.packet h.instruction;
        reply = reply_after v.config (accessed (access_of h.instruction) v.named) h.role (accessory_acts s v h);
      }

  -- and what becomes of the variables
  abbrev pub accessory_plan : AccessoryState S → AccessoryView → Heard → Option Effect
  accessory_plan s v h = cond (accessory_acts s v h) (access_effect (accessed (access_of h.instruction) v.named)) None

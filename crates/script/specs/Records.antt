-- What each record of a block gives each decoder, by the decoder's own events.
use Rattle.std.specs.Prelude.{◌≡◌, ℕ, suc, Bool, true, false, cond, not, ◌&&◌, List, [], ◌∷◌, map}
use Rattle.std.specs.Prelude.{length, take, drop, replicate, count_by, flat_map, slice_get, is_some}
use Rattle.std.specs.Prelude.{is_ok, Some, None, Ok, Err, Option}
use Rattle.std.specs.Borrow.{Bor}
use Rattle.std.specs.List.{list_any, range_with_len}
use Rattle.fault.specs.declared.refusal.Refusal.{Refusal}
use Rattle.packet.specs.declared.instruction.Instruction.{Instruction}
use Rattle.packet.specs.declared.target.Target.{Target}
use Rattle.format.specs.Reading.{packet_of, packet_read}
use Rattle.block.specs.declared.summary.Survey.{Survey}
use Rattle.block.specs.Contents.{Thing}
use Rattle.block.specs.Contents.Thing.{fill, power_up, packet}
use Rattle.block.specs.Summing.{surveyed}
use Rattle.decoder.specs.Alone.{Own, Rules, Event, mobile_rules, basic_rules, extended_rules}
use Rattle.decoder.specs.Alone.Event.{heard, powered, setting}
use Rattle.script.specs.declared.call.Call.TheVariants.{Take}
use Rattle.script.specs.Decoders.{Decoder, lives, hears}
use Rattle.script.specs.Decoders.Decoder.{mobile, basic, extended}
use Rattle.script.specs.Calls.{given, after_call}
use Rattle.script.specs.Promises.{in_records}

-- the own events that a decoder has of the record in the place k: those of the records up to it,
-- without those of the records before it
abbrev pub events_at : Decoder → List (ℕ × Thing) → ℕ → List Event
events_at d rs k = drop (length (in_records d (take k rs))) (in_records d (take (suc k) rs))

-- the decoder as those before that record leave it
abbrev pub before : Decoder → List (ℕ × Thing) → ℕ → Decoder
before d rs k = lives d (in_records d (take k rs))

-- the places of the records
abbrev pub places : List (ℕ × Thing) → List ℕ
places rs = range_with_len 0 (length rs)

-- ---- what is heard

abbrev pub is_packet : Event → Bool
is_packet (heard p) = true
is_packet powered = false
is_packet (setting cv x) = false

-- whether some decoder's own events have the packet in the place k
abbrev pub some_has : List Decoder → List (ℕ × Thing) → ℕ → Bool
some_has ds rs k = list_any (λ d. list_any is_packet (events_at d rs k)) ds

-- whether a record is a packet that is accepted
abbrev pub is_accepted : Option (ℕ × Thing) → Bool
is_accepted None = false
is_accepted (Some (o, fill)) = false
is_accepted (Some (o, power_up)) = false
is_accepted (Some (o, packet p)) = is_ok (packet_read p)

-- how many of the packets some decoder's own events have, and how many of those that are accepted
-- no decoder's
abbrev pub heard_among : List Decoder → List (ℕ × Thing) → ℕ
heard_among ds rs = count_by (some_has ds rs) (places rs)

abbrev pub unheard_among : List Decoder → List (ℕ × Thing) → ℕ
unheard_among ds rs =
    count_by (λ k. is_accepted (slice_get rs k) && not (some_has ds rs k)) (places rs)

-- ---- what each decoder meets

abbrev pub is_power_up : Event → Bool
is_power_up (heard p) = false
is_power_up powered = true
is_power_up (setting cv x) = false

-- of a kind of decoder, made of its record and its variables: it hears a packet exactly where that
-- is accepted and the rules of the kind have a role for it
pub record HearsByRole {X : Type 0} (m : Rules X) (made : Own X → Decoder) : Type 0 where
  pub accepted :
      (o : Own X) (bs : List ℕ) (t : Target) (i : Instruction)
      → packet_read bs ≡ Ok (packet_of t i)
      → hears (made o) bs ≡ is_some (m.hears o t)
  pub refused :
      (o : Own X) (bs : List ℕ) (e : Refusal) → packet_read bs ≡ Err e → hears (made o) bs ≡ false

pub record RecordsMet : Type 0 where
  pub mobiles : HearsByRole mobile_rules mobile
  pub basics : HearsByRole basic_rules basic
  pub extendeds : HearsByRole extended_rules extended
  -- a decoder's own events of a block are those of its records, in their order
  pub in_order :
      (d : Decoder) (b : List ℕ)
      → in_records d (given b) ≡ flat_map (events_at d (given b)) (places (given b))
  -- of a power-up every decoder has one, and of a packet that packet where it then hears it
  pub of_power_up :
      (d : Decoder) (b : List ℕ) (k o : ℕ)
      → slice_get (given b) k ≡ Some (o, power_up)
      → events_at d (given b) k ≡ powered ∷ []
  pub of_packet :
      (d : Decoder) (b : List ℕ) (k o : ℕ) (p : List ℕ)
      → slice_get (given b) k ≡ Some (o, packet p)
      → events_at d (given b) k ≡ cond (hears (before d (given b) k) p) (heard p ∷ []) []
  -- so the power comes up for it as often as a survey of the block counts
  pub power_ups :
      (d : Decoder) (b : List ℕ) (s : Survey)
      → surveyed b ≡ Ok s
      → count_by is_power_up (in_records d (given b)) ≡ s.power_ups
  -- and a block without packets does nothing else to any decoder
  pub without_packets :
      (ds : List Decoder) (b : Bor (List ℕ)) (s : Survey)
      → surveyed b.now ≡ Ok s
      → s.packets ≡ 0
      → after_call ds (Take b) ≡ map (λ d. lives d (replicate s.power_ups powered)) ds

-- Each decoder meets each record of a block in its place. Assumes nothing.
use Rattle.std.proofs.Common.{◌≡◌, ℕ, suc, ◌+◌, Bool, true, false, cond, List, [], ◌∷◌, ◌++◌, map}
use Rattle.std.proofs.Common.{length, replicate, is_some, Some, None, Option, Ok, sym, refl, ap}
use Rattle.std.proofs.Common.{ap₂, ◌∙◌, arith}
use Rattle.std.proofs.lemmas.List.Sums.{sum_by-append}
use Rattle.std.specs.Borrow.{Bor}
use Rattle.std.specs.List.{count_by}
use Rattle.fault.specs.declared.refusal.Refusal.TheVariants.{BlockLength}
use Rattle.fault.specs.Places.{fault_at}
use Rattle.packet.specs.declared.instruction.Instruction.{Instruction}
use Rattle.block.specs.declared.summary.Survey.{Survey}
use Rattle.block.specs.Contents.{Thing, is_block_length}
use Rattle.block.specs.Contents.Thing.{fill, power_up, packet}
use Rattle.block.specs.Reading.{reading, carried}
use Rattle.block.specs.Summing.{packet_count, power_up_count, summed, surveyed}
use Rattle.decoder.specs.declared.role.Role.{Role}
use Rattle.decoder.specs.Alone.{Rules, Event, in_role, hearing}
use Rattle.decoder.specs.Alone.{mobile_rules, basic_rules, extended_rules}
use Rattle.decoder.specs.Alone.Event.{heard, powered}
use Rattle.script.specs.Decoders.{Decoder, lives, hears}
use Rattle.script.specs.Decoders.Decoder.{mobile, basic, extended}
use Rattle.script.specs.Calls.{meets, met, given, after_records}
use Rattle.script.specs.Promises.{in_records}
use Rattle.script.specs.Records.{is_power_up, HearsByRole, RecordsMet}
use Rattle.script.proofs.Lives.{lives_none, lives_more}
use Rattle.script.proofs.Counted.{good, given_all}
use Rattle.script.proofs.Placed.{in_order, of_record, deaf}

-- ---- who hears

in_role_is :
    {X : Type 0} (m : Rules X) (r : Option Role) (i : Instruction)
    → is_some (in_role m r i) ≡ is_some r
in_role_is m None i = refl
in_role_is m (Some r) i = refl

mobiles : HearsByRole mobile_rules mobile
unfolding hears
mobiles = record {
  accepted = λ o bs t i e.
      ap (λ r. is_some (hearing mobile_rules o r)) e
      ∙ in_role_is mobile_rules (mobile_rules.hears o t) i;
  refused = λ o. deaf (mobile o);
}

basics : HearsByRole basic_rules basic
unfolding hears
basics = record {
  accepted = λ o bs t i e.
      ap (λ r. is_some (hearing basic_rules o r)) e
      ∙ in_role_is basic_rules (basic_rules.hears o t) i;
  refused = λ o. deaf (basic o);
}

extendeds : HearsByRole extended_rules extended
unfolding hears
extendeds = record {
  accepted = λ o bs t i e.
      ap (λ r. is_some (hearing extended_rules o r)) e
      ∙ in_role_is extended_rules (extended_rules.hears o t) i;
  refused = λ o. deaf (extended o);
}

-- ---- power-ups

abbrev Records : Type 0
Records = List (ℕ × Thing)

abbrev power_ups_in : List Event → ℕ
power_ups_in es = count_by is_power_up es

one_more : (es fs : List Event) → power_ups_in (es ++ fs) ≡ power_ups_in es + power_ups_in fs
one_more es fs = sum_by-append (λ e. cond (is_power_up e) 1 0) es fs

no_power_up : (p : List ℕ) (b : Bool) → power_ups_in (cond b (heard p ∷ []) []) ≡ 0
no_power_up p true = refl
no_power_up p false = refl

powered_in : (d : Decoder) (rs : Records) → power_ups_in (in_records d rs) ≡ power_up_count rs
powered_in d [] = refl
powered_in d ((o, fill) ∷ rs) = powered_in (met fill d) rs
powered_in d ((o, power_up) ∷ rs) =
    let now = met power_up d in
    omega (arith, one_more (powered ∷ []) (in_records now rs), powered_in now rs)
powered_in d ((o, packet p) ∷ rs) =
    let now = met (packet p) d in
    let all = one_more (meets d (packet p)) (in_records now rs) in
    omega (arith, all, no_power_up p (hears d p), powered_in now rs)

-- ---- no packets

map_id : (f : Decoder → Decoder) → ((d : Decoder) → f d ≡ d) → (ds : List Decoder) → map f ds ≡ ds
map_id f same [] = refl
map_id f same (d ∷ ds) = ap₂ (λ x xs. x ∷ xs) (same d) (map_id f same ds)

map_in_turn :
    (f g h : Decoder → Decoder)
    → ((d : Decoder) → g (f d) ≡ h d)
    → (ds : List Decoder)
    → map g (map f ds) ≡ map h ds
map_in_turn f g h same [] = refl
map_in_turn f g h same (d ∷ ds) = ap₂ (λ x xs. x ∷ xs) (same d) (map_in_turn f g h same ds)

abbrev powered_often : ℕ → Decoder → Decoder
powered_often n d = lives d (replicate n powered)

powered_only :
    (ds : List Decoder) (rs : Records)
    → packet_count rs ≡ 0
    → after_records ds rs ≡ map (powered_often (power_up_count rs)) ds
powered_only ds [] e = sym (map_id (powered_often 0) lives_none ds)
powered_only ds ((o, fill) ∷ rs) e =
    powered_only (map (met fill) ds) rs e
    ∙ ap (map (powered_often (power_up_count rs))) (map_id (met fill) lives_none ds)
powered_only ds ((o, power_up) ∷ rs) e =
    let n = power_up_count rs in
    let again = λ (d : Decoder). sym (lives_more d (powered ∷ []) (replicate n powered)) in
    powered_only (map (met power_up) ds) rs e
    ∙ map_in_turn (met power_up) (powered_often n) (powered_often (suc n)) again ds
powered_only ds ((o, packet p) ∷ rs) e = absurd (omega (arith, e))

-- ---- a block

-- what is given of a block that a survey does not refuse, and what the survey counts
surveyed_is :
    (b : List ℕ) (s : Survey)
    → surveyed b ≡ Ok s
    → (given b ≡ carried (reading b)) × (s ≡ summed (length b) (reading b))
surveyed_is b s e =
    let whole = summed (length b) (reading b) in
    let is = good (is_block_length (length b)) whole s (fault_at BlockLength 0) e in
    (given_all b is.0, is.1)

pub laws : RecordsMet
laws = record {
  mobiles = mobiles;
  basics = basics;
  extendeds = extendeds;
  in_order = λ d b. in_order d (given b);
  of_power_up = λ d b k o at. of_record d (given b) k (o, power_up) at;
  of_packet = λ d b k o p at. of_record d (given b) k (o, packet p) at;
  power_ups = power_ups;
  without_packets = without_packets;
}
  where
    power_ups :
        (d : Decoder) (b : List ℕ) (s : Survey)
        → surveyed b ≡ Ok s
        → power_ups_in (in_records d (given b)) ≡ s.power_ups
    power_ups d b s e =
        let is = surveyed_is b s e in
        ap (λ rs. power_ups_in (in_records d rs)) is.0
        ∙ powered_in d (carried (reading b))
        ∙ ap (λ (z : Survey). z.power_ups) (sym is.1)

    without_packets :
        (ds : List Decoder) (b : Bor (List ℕ)) (s : Survey)
        → surveyed b.now ≡ Ok s
        → s.packets ≡ 0
        → after_records ds (given b.now) ≡ map (powered_often s.power_ups) ds
    without_packets ds b s e none =
        let is = surveyed_is b.now s e in
        let no_packet = ap (λ (z : Survey). z.packets) (sym is.1) ∙ none in
        ap (after_records ds) is.0
        ∙ powered_only ds (carried (reading b.now)) no_packet
        ∙ ap (λ (z : Survey). map (powered_often z.power_ups) ds) (sym is.1)

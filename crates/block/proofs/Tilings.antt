-- What a reading tells of its block.
use Rattle.std.proofs.Common.{◌≡◌, ℕ, zero, suc, ◌+◌, ◌<◌, ◌≤◌, true, List, [], ◌∷◌, length, get_or, take, drop, Some, None, Ok, Err, Result, sym, refl, ap, ◌∙◌, subst, inl, inr, ⊎_elim, arith, length-drop}
use Rattle.std.proofs.lemmas.List.{drop_more}
use Rattle.std.proofs.lemmas.Bool.{cases_lt, cond-true, eq-eqb}
use Rattle.std.specs.List.{AllByRecursion}
use Rattle.fault.specs.declared.fault.Fault.{Fault}
use Rattle.block.specs.Contents.{Thing, is_block_length, first_nonzero_from, fill_unless, thing_of, placed}
use Rattle.block.specs.Contents.Thing.{fill, power_up, packet}
use Rattle.block.specs.Reading.{Reading, reading, reading_from, carried, end_of, fault_of}
use Rattle.block.specs.Reading.Reading.{filled, broken}
use Rattle.block.specs.declared.summary.Survey.{Survey}
use Rattle.block.specs.Summing.{summed, surveyed, packet_count, power_up_count}
use Rattle.block.specs.Tiling.{Stands, Tiles, ZeroFrom, Unknown, CutOff, SpoiltFill, EndsBy, SurveyTiles, SurveyEnds, FillIsNothing}
use Rattle.block.proofs.Fills.{Looked, looked, zero_from, nonzero_none}
use Rattle.block.proofs.Shapes.{Whole, NoKind, Short, Spoilt, Shape, shape}
use Rattle.block.proofs.Steps.{onward, reads_on, reads_end}

abbrev pub Sound : List ℕ → ℕ → Reading → Type 0
Sound b o r = Tiles b o (carried r) (end_of (length b) r) × EndsBy b (end_of (length b) r) (fault_of r)

module _ (b : List ℕ) (o : ℕ) (lt : o < length b) where
  front : drop o b ≡ get_or b o 0 ∷ drop (o + 1) b
  front = drop_more b o 0 lt

  stands_power_up : get_or b o 0 ≡ 16 → Stands b o power_up
  stands_power_up h = record { kind = tt; bytes = ap (take 1) front ∙ ap (λ k. k ∷ []) h }

  stands_packet : (p : List ℕ) → Whole (get_or b o 0) (drop (o + 1) b) p → Stands b o (packet p)
  stands_packet p w = record { kind = (w.low, w.high); bytes = ap (take (suc (length p))) front ∙ ap (λ k. k ∷ take (length p) (drop (o + 1) b)) w.kind ∙ ap (λ l. length p ∷ l) (sym w.body) }

  sound_fill : get_or b o 0 ≡ 0 → first_nonzero_from b (o + 1) ≡ None → Sound b o (filled o)
  sound_fill here none =
      let rest : ZeroFrom b (o + 1) (length b) = subst (Looked b (o + 1)) none (looked b (o + 1)) in
      (refl, inr (lt, zero_from b o (length b) here rest))

  spoilt : (e : Fault) → Spoilt o (get_or b o 0) (drop (o + 1) b) e → SpoiltFill b o e
  spoilt e s =
      let l : Looked b (o + 1) (Some s.at) = subst (Looked b (o + 1)) s.first (looked b (o + 1)) in
      let off : s.at ≡ e.offset = ap (λ (f : Fault). f.offset) (sym s.is) in
      record {
        is = ap (λ (f : Fault). f.refusal) s.is;
        after = subst (λ z. o < z) off (omega arith);
        inside = subst (λ z. z < length b) off l.1;
        zeros = subst (λ z. ZeroFrom b o z) off (zero_from b o s.at s.zero l.2);
        nonzero = subst (λ z. get_or b z 0 ≡ 0 → ⊥) off l.3;
      }

  cut_off : (e : Fault) → Short o (get_or b o 0) (drop (o + 1) b) e → CutOff b o e
  cut_off e s = record { is = s.is; inside = lt; low = s.low; high = s.high; short = omega (arith, s.short, length-drop (o + 1) b) }

  unknown : (e : Fault) → NoKind o (get_or b o 0) e → Unknown b o e
  unknown e n = record { is = n.is; inside = lt; not_fill = n.not_fill; not_power_up = n.not_power_up; not_packet = n.not_packet }

  sound_broken : (e : Fault) → Shape o (get_or b o 0) (drop (o + 1) b) (Err e) → Sound b o (broken o e)
  sound_broken e s = (refl, ⊎_elim (λ n. inl (unknown e n)) (⊎_elim (λ c. inr (inl (cut_off e c))) (λ f. inr (inr (spoilt e f)))) s)

  sound_on : (r : Result Thing Fault) → Shape o (get_or b o 0) (drop (o + 1) b) r → ((k : ℕ) → o < k → k ≤ length b → Sound b k (reading_from b k)) → Sound b o (onward b o (placed b o r))
  sound_on (Ok fill) s later = sound_fill s.0 s.1
  sound_on (Ok power_up) s later =
      let next = later (o + 1) (omega arith) (omega arith) in
      ((refl, stands_power_up s, next.0), next.1)
  sound_on (Ok (packet p)) s later =
      let next = later (o + 1 + length p) (omega arith) (omega (arith, s.inside, length-drop (o + 1) b)) in
      let e : o + 1 + length p ≡ o + suc (length p) = omega arith in
      ((refl, stands_packet p s, subst (λ k. Tiles b k (carried (reading_from b (o + 1 + length p))) (end_of (length b) (reading_from b (o + 1 + length p)))) e next.0), next.1)
  sound_on (Err e) s later = sound_broken e s

sound_from : (n : ℕ) (b : List ℕ) (o : ℕ) → length b ≤ o + n → o ≤ length b → Sound b o (reading_from b o)
sound_from zero b o h low = subst (Sound b o) (sym (reads_end b o (omega arith))) (omega arith, inl refl)
sound_from (suc n) b o h low =
    ⊎_elim
    (λ lt. subst (Sound b o) (sym (reads_on b o lt)) (sound_on b o lt (thing_of o (get_or b o 0) (drop (o + 1) b)) (shape o (get_or b o 0) (drop (o + 1) b)) (λ k past in'. sound_from n b k (omega arith) in')))
    (λ past. subst (Sound b o) (sym (reads_end b o past)) (omega arith, inl refl))
    (cases_lt o (length b))

pub sound : (b : List ℕ) → Sound b 0 (reading b)
sound b = sound_from (length b) b 0 (omega arith) (omega arith)

fill_reads : (b : List ℕ) → 0 < length b → get_or b 0 0 ≡ 0 → AllByRecursion (λ x. x ≡ 0) (drop 1 b) → reading b ≡ filled 0
fill_reads b lt here rest =
    let is : thing_of 0 (get_or b 0 0) (drop 1 b) ≡ Ok fill = cond-true _ _ _ (eq-eqb (get_or b 0 0) 0 here) ∙ ap fill_unless (nonzero_none 1 (drop 1 b) rest) in
    reads_on b 0 lt ∙ ap (λ r. onward b 0 (placed b 0 r)) is

pub fill_carries_none : (b : List ℕ) → AllByRecursion (λ x. x ≡ 0) b → (carried (reading b) ≡ []) × (fault_of (reading b) ≡ None)
fill_carries_none [] h = let e = reads_end [] 0 (omega arith) in (ap carried e, ap fault_of e)
fill_carries_none (x ∷ xs) h = let e = fill_reads (x ∷ xs) (omega arith) h.0 h.1 in (ap carried e, ap fault_of e)

fill_counts_none : (b : List ℕ) (s : Survey) → s ≡ summed (length b) (reading b) → FillIsNothing b (Ok s)
fill_counts_none b s e h =
    let n = fill_carries_none b h in
    let p : s.packets ≡ 0 = ap (λ (t : Survey). t.packets) e ∙ ap packet_count n.0 in
    let u : s.power_ups ≡ 0 = ap (λ (t : Survey). t.power_ups) e ∙ ap power_up_count n.0 in
    let f : s.fault ≡ None = ap (λ (t : Survey). t.fault) e ∙ n.1 in
    (n.0, n.1, (p, u, f))

-- ---- what `survey` ensures

abbrev Surveys : List ℕ → Result Survey Fault → Type 0
Surveys b r = record { is : r ≡ surveyed b; tiles : SurveyTiles b r; ends : SurveyEnds b r; nothing : FillIsNothing b r }

-- of a block whose reading s sums up
pub survey_tells : (b : List ℕ) (s : Survey) → is_block_length (length b) ≡ true → s ≡ summed (length b) (reading b) → Surveys b (Ok s)
survey_tells b s good e =
    record {
      is = ap Ok e ∙ sym (cond-true _ _ _ good);
      tiles = subst (λ t. SurveyTiles b (Ok t)) (sym e) (sound b).0;
      ends = subst (λ t. SurveyEnds b (Ok t)) (sym e) (sound b).1;
      nothing = fill_counts_none b s e;
    }

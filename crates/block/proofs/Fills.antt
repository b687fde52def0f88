-- The look for a byte that is not zero.
use Rattle.std.proofs.Common.{◌≡◌, ℕ, zero, suc, ◌+◌, ◌<◌, ◌≤◌, cond, eqb, List, [], ◌∷◌, length, get_or, Some, None, Option, Bool, true, false, not, option_map, position, sym, refl, ap, add-zero, ◌∙◌, subst, ⊎_elim, arith}
use Rattle.std.proofs.lemmas.List.{at_drop_more, at_drop_all}
use Rattle.std.proofs.lemmas.Bool.{cond-true, cond_both, eq-eqb, eqb-true, eqb-false, cases_lt}
use Rattle.std.proofs.lemmas.Iterator.Adapters.{position_from-zero}
use Rattle.std.specs.List.{AllByRecursion, position_from}
use Rattle.block.specs.Contents.{first_nonzero, first_nonzero_from}
use Rattle.block.specs.Tiling.{ZeroFrom}

pub nonzero_end : (b : List ℕ) (o : ℕ) → length b ≤ o → first_nonzero_from b o ≡ None
unfolding first_nonzero
nonzero_end b o h = at_drop_all (first_nonzero o) b o h

pub nonzero_on : (b : List ℕ) (o : ℕ) → o < length b → first_nonzero_from b o ≡ cond (eqb (get_or b o 0) 0) (first_nonzero_from b (o + 1)) (Some o)
unfolding first_nonzero
nonzero_on b o h = at_drop_more (first_nonzero o) b o 0 h

-- what the look from o on tells of the block
abbrev pub Looked : List ℕ → ℕ → Option ℕ → Type 0
Looked b o None = ZeroFrom b o (length b)
Looked b o (Some z) = (o ≤ z) × (z < length b) × ZeroFrom b o z × (get_or b z 0 ≡ 0 → ⊥)

pub zero_from : (b : List ℕ) (o e : ℕ) → get_or b o 0 ≡ 0 → ZeroFrom b (o + 1) e → ZeroFrom b o e
zero_from b o e here later k low high =
    ⊎_elim
    (λ past. later k (omega arith) high)
    (λ at. let same : o ≡ k = omega arith in subst (λ i. get_or b i 0 ≡ 0) same here)
    (cases_lt o k)

looked_on : (b : List ℕ) (o : ℕ) (r : Option ℕ) → get_or b o 0 ≡ 0 → Looked b (o + 1) r → Looked b o r
looked_on b o None here later = zero_from b o (length b) here later
looked_on b o (Some z) here later = (omega arith, later.1, zero_from b o z here later.2, later.3)

looked_from : (n : ℕ) (b : List ℕ) (o : ℕ) → length b ≤ o + n → Looked b o (first_nonzero_from b o)
looked_from zero b o h = subst (Looked b o) (sym (nonzero_end b o (omega arith))) (λ k low high. absurd (omega arith))
looked_from (suc n) b o h =
    ⊎_elim
    (λ lt. subst (Looked b o) (sym (nonzero_on b o lt)) (cond_both (eqb (get_or b o 0) 0) _ _ (Looked b o) (λ e. looked_on b o _ (eqb-true (get_or b o 0) 0 e) (looked_from n b (o + 1) (omega arith))) (λ e. (omega arith, lt, λ k low high. absurd (omega arith), eqb-false (get_or b o 0) 0 e))))
    (λ past. subst (Looked b o) (sym (nonzero_end b o past)) (λ k low high. absurd (omega arith)))
    (cases_lt o (length b))

pub looked : (b : List ℕ) (o : ℕ) → Looked b o (first_nonzero_from b o)
looked b o = looked_from (length b) b o (omega arith)

-- in zero bytes it finds none
pub nonzero_none : (o : ℕ) (xs : List ℕ) → AllByRecursion (λ x. x ≡ 0) xs → first_nonzero o xs ≡ None
unfolding first_nonzero
nonzero_none o [] h = refl
nonzero_none o (x ∷ xs) h = cond-true _ _ _ (eq-eqb x 0 h.0) ∙ nonzero_none (o + 1) xs h.1

-- `position` finds it
nonzero_found : (o k : ℕ) (xs : List ℕ) → option_map (λ i. o + i) (position_from (λ x. not (eqb x 0)) k xs) ≡ first_nonzero (o + k) xs
unfolding first_nonzero
nonzero_found o k [] = refl
nonzero_found o k (x ∷ xs) = go (eqb x 0) (nonzero_found o (k + 1) xs)
  where
    next : o + (k + 1) ≡ o + k + 1
    next = omega arith

    go : (z : Bool) → option_map (λ i. o + i) (position_from (λ x. not (eqb x 0)) (k + 1) xs) ≡ first_nonzero (o + (k + 1)) xs → option_map (λ i. o + i) (cond (not z) (Some k) (position_from (λ x. not (eqb x 0)) (k + 1) xs)) ≡ cond z (first_nonzero (o + k + 1) xs) (Some (o + k))
    go true e = e ∙ ap (λ n. first_nonzero n xs) next
    go false e = refl

pub nonzero_position : (o : ℕ) (xs : List ℕ) → option_map (λ i. o + i) (position (λ x. not (eqb x 0)) xs) ≡ first_nonzero o xs
nonzero_position o xs = rw position_from-zero (nonzero_found o 0 xs ∙ ap (λ n. first_nonzero n xs) (add-zero o))

-- Whether some decoder hears, by how many of each kind do.
use Rattle.std.proofs.Common.{◌≡◌, ℕ, zero, suc, ◌+◌, ◌<◌, Bool, true, false, cond, ◌||◌, ltb, List, [], ◌∷◌, ◌++◌, map, sym, refl, ap, ◌∙◌, subst, ap₂, add-one, arith}
use Rattle.std.specs.List.{range_with_len}
use Rattle.std.proofs.lemmas.List.FromFn.{map-range_with_len_more}
use Rattle.std.proofs.lemmas.Bool.{lt-ltb}
use Rattle.bank.specs.Kinds.{count_below}
use Rattle.script.specs.Decoders.{Decoder, hears}
use Rattle.script.specs.Calls.{some_hears}

pub count_cong : (h i : ℕ → Bool) (n : ℕ) → ((s : ℕ) → s < n → h s ≡ i s) → count_below h n ≡ count_below i n
unfolding count_below
count_cong h i zero e = refl
count_cong h i (suc n) e = ap₂ (λ c b. c + cond b 1 0) (count_cong h i n (λ s l. e s (omega arith))) (e n (omega arith))

pub or_false : (b : Bool) → (b || false) ≡ b
or_false true = refl
or_false false = refl

-- one more
some_more : (c : ℕ) (b : Bool) → ltb 0 (c + cond b 1 0) ≡ (ltb 0 c || b)
some_more c true = lt-ltb 0 (c + 1) (omega arith) ∙ sym (or_true (ltb 0 c))
  where
    or_true : (b : Bool) → (b || true) ≡ true
    or_true true = refl
    or_true false = refl
some_more c false = let e : c + 0 ≡ c = omega arith in ap (ltb 0) e ∙ sym (or_false (ltb 0 c))

regroup : (a b c x y z : Bool) → ((a || (b || c)) || (x || (y || z))) ≡ ((a || x) || ((b || y) || (c || z)))
regroup true b c x y z = refl
regroup false true c true y z = refl
regroup false true c false y z = refl
regroup false false true true y z = refl
regroup false false true false true z = refl
regroup false false true false false z = refl
regroup false false false x y z = refl

some_last : (ds : List Decoder) (d : Decoder) (p : List ℕ) → some_hears (ds ++ d ∷ []) p ≡ (some_hears ds p || hears d p)
some_last [] d p = or_false (hears d p)
some_last (e ∷ ds) d p = ap (λ b. hears e p || b) (some_last ds d p) ∙ assoc (hears e p) (some_hears ds p) (hears d p)
  where
    assoc : (a b c : Bool) → (a || (b || c)) ≡ ((a || b) || c)
    assoc true b c = refl
    assoc false b c = refl

-- where each decoder hears if it is among the hits of its kind
pub some_hear : (at : ℕ → Decoder) (p : List ℕ) (f g h : ℕ → Bool) (n : ℕ) → ((s : ℕ) → s < n → hears (at s) p ≡ (f s || (g s || h s))) → some_hears (map at (range_with_len 0 n)) p ≡ (ltb 0 (count_below f n) || (ltb 0 (count_below g n) || ltb 0 (count_below h n)))
unfolding count_below
some_hear at p f g h zero each = refl
some_hear at p f g h (suc n) each =
    let e : map at (range_with_len 0 (suc n)) ≡ map at (range_with_len 0 n) ++ at n ∷ [] = subst (λ k. map at (range_with_len 0 k) ≡ map at (range_with_len 0 n) ++ at n ∷ []) (add-one n) (map-range_with_len_more at 0 n n (omega arith)) in
    ap (λ ds. some_hears ds p) e
    ∙ some_last (map at (range_with_len 0 n)) (at n) p
    ∙ ap₂ ◌||◌ (some_hear at p f g h n (λ s l. each s (omega arith))) (each n (omega arith))
    ∙ regroup (ltb 0 (count_below f n)) (ltb 0 (count_below g n)) (ltb 0 (count_below h n)) (f n) (g n) (h n)
    ∙ sym (ap₂ ◌||◌ (some_more (count_below f n) (f n)) (ap₂ ◌||◌ (some_more (count_below g n) (g n)) (some_more (count_below h n) (h n))))

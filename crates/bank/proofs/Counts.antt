-- How many numbers below a bound pass a test.
use Rattle.std.proofs.Common.{◌≡◌, ℕ, zero, suc, ◌+◌, ◌<◌, ◌≤◌, Bool, true, false, cond, ◌≢◌, List, [], ◌∷◌, length, get_or, take, sym, refl, ap, ◌∙◌, subst, ap₂, ⊎_elim, add-one, arith}
use Rattle.std.specs.Prelude.{count_by}
use Rattle.std.proofs.lemmas.List.{take_all}
use Rattle.std.proofs.lemmas.List.Sums.{count_by_more_yes, count_by_more_no}
use mir.Val.{bool_byte}
use Rattle.std.proofs.lemmas.Bool.{cases_eq, cases_order, cases_Bool}
use Rattle.bank.specs.Kinds.{count_below}
use Rattle.bank.specs.Banks.{passes}

module _ (h : ℕ → Bool) where
  pub count_none : count_below h 0 ≡ 0
  unfolding count_below
  count_none = refl

  pub count_more : (s : ℕ) → count_below h (s + 1) ≡ count_below h s + cond (h s) 1 0
  unfolding count_below
  count_more s = rw add-one refl

  pub count_hit : (s : ℕ) → h s ≡ true → count_below h (s + 1) ≡ count_below h s + 1
  count_hit s e = count_more s ∙ ap (λ b. count_below h s + cond b 1 0) e

  pub count_miss : (s : ℕ) → h s ≡ false → count_below h (s + 1) ≡ count_below h s
  count_miss s e = let k = count_more s ∙ ap (λ b. count_below h s + cond b 1 0) e in omega arith

  pub count_mono : (s t : ℕ) → s ≤ t → count_below h s ≤ count_below h t
  unfolding count_below
  count_mono s zero l = let e : s ≡ 0 = omega arith in rw e (omega arith)
  count_mono s (suc t) l =
      ⊎_elim (λ e. rw e (omega arith)) (λ ne. let m = count_mono s t (omega arith) in omega arith) (cases_eq s (suc t))

  pub count_most : (s : ℕ) → count_below h s ≤ s
  unfolding count_below
  count_most zero = omega arith
  count_most (suc s) = let m = count_most s in ⊎_elim (λ e. rw e (omega arith)) (λ e. rw e (omega arith)) (cases_Bool (h s))

  pub count_less : (s t : ℕ) → s < t → h s ≡ true → count_below h s < count_below h t
  count_less s t l e = let m = count_mono (s + 1) t (omega arith) in omega (arith, count_hit s e)

  -- no number from s on and below t passes
  pub count_skip : (s t : ℕ) → s ≤ t → ((k : ℕ) → s ≤ k → k < t → h k ≡ false) → count_below h t ≡ count_below h s
  count_skip s zero l none = let e : s ≡ 0 = omega arith in rw e refl
  count_skip s (suc t) l none =
      ⊎_elim (λ e. rw e refl) (λ ne. subst (λ n. count_below h n ≡ count_below h s) (add-one t) (count_miss t (none t (omega arith) (omega arith)) ∙ count_skip s t (omega arith) (λ k a b. none k a (omega arith)))) (cases_eq s (suc t))

  pub count_apart : (s t : ℕ) → s ≢ t → h s ≡ true → h t ≡ true → count_below h s ≢ count_below h t
  count_apart s t ne e f same =
      ⊎_elim ne (⊎_elim (λ l. let m = count_less s t l e in omega arith) (λ l. let m = count_less t s l f in omega arith)) (cases_order s t)

  -- where no more pass below t than below s, none passes between
  pub none_between : (s t : ℕ) → count_below h t ≡ count_below h s → (k : ℕ) → s ≤ k → k < t → h k ≡ false
  none_between s t e k a b = ⊎_elim (λ y. let m = count_mono s k a in let l = count_less k t b y in absurd (omega arith)) (λ n. n) (cases_Bool (h k))

-- a test as the number that it counts for
pub as_cond : (b : Bool) → bool_byte b ≡ cond b 1 0
as_cond true = refl
as_cond false = refl

-- one more number, counted by what its test came to
pub byte_more : (q : ℕ → Bool) (s : ℕ) {k j : ℕ} {b : Bool} → j ≡ bool_byte b → b ≡ q s → k ≡ count_below q s → k + j ≡ count_below q (s + 1)
byte_more q s {k} {j} {b} e f i = ap₂ ◌+◌ i (e ∙ as_cond b ∙ ap (λ b. cond b 1 0) f) ∙ sym (count_more q s)

pub passes_at : {X : Type 0} (p : X → Bool) (xs : List X) (k : ℕ) (x : X) → k < length xs → passes p xs k ≡ p (get_or xs k x)
passes_at p [] k x l = absurd (omega arith)
passes_at p (y ∷ ys) zero x l = refl
passes_at p (y ∷ ys) (suc k) x l = passes_at p ys k x (omega arith)

-- the numbers that pass, as the elements of a list at their places
pub count_taken : {A : Type 0} (p : A → Bool) (xs : List A) (d : A) (s : ℕ) → s ≤ length xs → count_below (λ k. p (get_or xs k d)) s ≡ count_by p (take s xs)
count_taken p xs d zero l = count_none _
count_taken p xs d (suc s) l =
    let before = count_taken p xs d s (omega arith) in
    subst (λ n. count_below (λ k. p (get_or xs k d)) n ≡ count_by p (take n xs)) (add-one s) (⊎_elim
    (λ h. count_hit _ s h ∙ ap (λ n. n + 1) before ∙ sym (count_by_more_yes p xs s d (omega arith) h))
    (λ h. count_miss _ s h ∙ before ∙ sym (count_by_more_no p xs s d (omega arith) h))
    (cases_Bool (p (get_or xs s d))))

pub count_list : {A : Type 0} (p : A → Bool) (xs : List A) (d : A) → count_below (λ k. p (get_or xs k d)) (length xs) ≡ count_by p xs
count_list p xs d = count_taken p xs d (length xs) (omega arith) ∙ ap (count_by p) (take_all (length xs) xs (omega arith))

-- A number within a kind, and the slot that has it.
use Rattle.std.proofs.Common.{◌≡◌, ℕ, zero, suc, ◌+◌, ◌<◌, ◌≤◌, true, cond, List, [], ◌∷◌, ◌++◌, map, length, set, Some, None, sym, refl, ap, ◌∙◌, arith}
use Rattle.std.proofs.lemmas.Option.{none-some}
use Rattle.std.proofs.lemmas.Bool.{cond-true}
use Rattle.std.specs.List.{slice_get}
use Rattle.bank.specs.declared.kind.Kind.{Kind}
use Rattle.bank.specs.Kinds.{same_kind, is_kind, count_below}
use Rattle.script.specs.Decoders.{Decoder, kind_of, of_kind, changed}
use Rattle.bank.proofs.Counts.{count_none}
use Rattle.script.proofs.Names.{both}

module _ {X : Type 0} (kind : X → Kind) (k : Kind) where
  count-cons : (x : X) (xs : List X) (s : ℕ) → count_below (is_kind (map kind (x ∷ xs)) k) (suc s) ≡ cond (same_kind k (kind x)) 1 0 + count_below (is_kind (map kind xs) k) s
  unfolding count_below is_kind
  count-cons x xs zero = omega arith
  count-cons x xs (suc s) = let i = count-cons x xs s in omega arith

  first_is : (x : X) (xs : List X) → is_kind (map kind (x ∷ xs)) k 0 ≡ true → same_kind k (kind x) ≡ true
  unfolding is_kind
  first_is x xs h = h

  later_is : (x : X) (xs : List X) (s : ℕ) → is_kind (map kind (x ∷ xs)) k (suc s) ≡ true → is_kind (map kind xs) k s ≡ true
  unfolding is_kind
  later_is x xs s h = h

  pub slot_found : (xs : List X) (s j : ℕ) → s < length xs → is_kind (map kind xs) k s ≡ true → count_below (is_kind (map kind xs) k) s ≡ j → of_kind kind k j xs ≡ slice_get xs s
  slot_found [] s j l h e = absurd (omega arith)
  slot_found (x ∷ xs) zero zero l h e = cond-true _ _ _ (first_is x xs h)
  slot_found (x ∷ xs) zero (suc j) l h e = let z = count_none (is_kind (map kind (x ∷ xs)) k) in absurd (omega arith)
  slot_found (x ∷ xs) (suc s) zero l h e =
      both (λ b. cond b 1 0 + count_below (is_kind (map kind xs) k) s ≡ zero → cond b (Some x) (of_kind kind k zero xs) ≡ slice_get xs s) (same_kind k (kind x))
      (λ _ q. absurd (omega arith))
      (λ _ q. slot_found xs s zero (omega arith) (later_is x xs s h) (omega arith))
      (sym (count-cons x xs s) ∙ e)
  slot_found (x ∷ xs) (suc s) (suc j) l h e =
      both (λ b. cond b 1 0 + count_below (is_kind (map kind xs) k) s ≡ suc j → cond b (of_kind kind k j xs) (of_kind kind k (suc j) xs) ≡ slice_get xs s) (same_kind k (kind x))
      (λ _ q. slot_found xs s j (omega arith) (later_is x xs s h) (omega arith))
      (λ _ q. slot_found xs s (suc j) (omega arith) (later_is x xs s h) (omega arith))
      (sym (count-cons x xs s) ∙ e)

  pub slot_missing : (xs : List X) (j : ℕ) → count_below (is_kind (map kind xs) k) (length (map kind xs)) ≤ j → of_kind kind k j xs ≡ None
  slot_missing [] j l = refl
  slot_missing (x ∷ xs) zero l =
      both (λ b. cond b 1 0 + count_below (is_kind (map kind xs) k) (length (map kind xs)) ≤ zero → cond b (Some x) (of_kind kind k zero xs) ≡ None) (same_kind k (kind x))
      (λ _ q. absurd (omega arith))
      (λ _ q. slot_missing xs zero (omega arith))
      (omega (arith, count-cons x xs (length (map kind xs))))
  slot_missing (x ∷ xs) (suc j) l =
      both (λ b. cond b 1 0 + count_below (is_kind (map kind xs) k) (length (map kind xs)) ≤ suc j → cond b (of_kind kind k j xs) (of_kind kind k (suc j) xs) ≡ None) (same_kind k (kind x))
      (λ _ q. slot_missing xs j (omega arith))
      (λ _ q. slot_missing xs (suc j) (omega arith))
      (omega (arith, count-cons x xs (length (map kind xs))))

  -- one more of the kind at the end
  pub slot_last : (x : X) → same_kind k (kind x) ≡ true → (xs : List X) (j : ℕ) → count_below (is_kind (map kind xs) k) (length (map kind xs)) ≡ j → of_kind kind k j (xs ++ x ∷ []) ≡ Some x
  slot_last x is [] zero e = cond-true _ _ _ is
  slot_last x is [] (suc j) e = let z = count_none (is_kind (map kind []) k) in absurd (omega arith)
  slot_last x is (y ∷ xs) zero e =
      both (λ b. cond b 1 0 + count_below (is_kind (map kind xs) k) (length (map kind xs)) ≡ zero → cond b (Some y) (of_kind kind k zero (xs ++ x ∷ [])) ≡ Some x) (same_kind k (kind y))
      (λ _ q. absurd (omega arith))
      (λ _ q. slot_last x is xs zero (omega arith))
      (sym (count-cons y xs (length (map kind xs))) ∙ e)
  slot_last x is (y ∷ xs) (suc j) e =
      both (λ b. cond b 1 0 + count_below (is_kind (map kind xs) k) (length (map kind xs)) ≡ suc j → cond b (of_kind kind k j (xs ++ x ∷ [])) (of_kind kind k (suc j) (xs ++ x ∷ [])) ≡ Some x) (same_kind k (kind y))
      (λ _ q. slot_last x is xs j (omega arith))
      (λ _ q. slot_last x is xs (suc j) (omega arith))
      (sym (count-cons y xs (length (map kind xs))) ∙ e)

-- a change of the decoder in the slot s
module _ (g : Decoder → Decoder) (k : Kind) where
  pub changed_at : (ds : List Decoder) (d : Decoder) (s j : ℕ) → s < length ds → is_kind (map kind_of ds) k s ≡ true → count_below (is_kind (map kind_of ds) k) s ≡ j → slice_get ds s ≡ Some d → changed g k j ds ≡ set ds s (g d)
  changed_at [] d s j l h e at = absurd (omega arith)
  changed_at (x ∷ xs) d zero zero l h e at = let is : x ≡ d = cc in cond-true _ _ _ (first_is kind_of k x xs h) ∙ ap (λ d. g d ∷ xs) is
  changed_at (x ∷ xs) d zero (suc j) l h e at = let z = count_none (is_kind (map kind_of (x ∷ xs)) k) in absurd (omega arith)
  changed_at (x ∷ xs) d (suc s) zero l h e at =
      both (λ b. cond b 1 0 + count_below (is_kind (map kind_of xs) k) s ≡ zero → cond b (g x ∷ xs) (x ∷ changed g k zero xs) ≡ x ∷ set xs s (g d)) (same_kind k (kind_of x))
      (λ _ q. absurd (omega arith))
      (λ _ q. ap (λ xs. x ∷ xs) (changed_at xs d s zero (omega arith) (later_is kind_of k x xs s h) (omega arith) at))
      (sym (count-cons kind_of k x xs s) ∙ e)
  changed_at (x ∷ xs) d (suc s) (suc j) l h e at =
      both (λ b. cond b 1 0 + count_below (is_kind (map kind_of xs) k) s ≡ suc j → cond b (x ∷ changed g k j xs) (x ∷ changed g k (suc j) xs) ≡ x ∷ set xs s (g d)) (same_kind k (kind_of x))
      (λ _ q. ap (λ xs. x ∷ xs) (changed_at xs d s j (omega arith) (later_is kind_of k x xs s h) (omega arith) at))
      (λ _ q. ap (λ xs. x ∷ xs) (changed_at xs d s (suc j) (omega arith) (later_is kind_of k x xs s h) (omega arith) at))
      (sym (count-cons kind_of k x xs s) ∙ e)

  -- there is none
  pub changed_missing : (ds : List Decoder) (j : ℕ) → of_kind kind_of k j ds ≡ None → changed g k j ds ≡ ds
  changed_missing [] j e = refl
  changed_missing (x ∷ xs) zero e =
      both (λ b. cond b (Some x) (of_kind kind_of k zero xs) ≡ None → cond b (g x ∷ xs) (x ∷ changed g k zero xs) ≡ x ∷ xs) (same_kind k (kind_of x))
      (λ _ q. absurd (none-some x (sym q)))
      (λ _ q. ap (λ xs. x ∷ xs) (changed_missing xs zero q)) e
  changed_missing (x ∷ xs) (suc j) e =
      both (λ b. cond b (of_kind kind_of k j xs) (of_kind kind_of k (suc j) xs) ≡ None → cond b (x ∷ changed g k j xs) (x ∷ changed g k (suc j) xs) ≡ x ∷ xs) (same_kind k (kind_of x))
      (λ _ q. ap (λ xs. x ∷ xs) (changed_missing xs j q))
      (λ _ q. ap (λ xs. x ∷ xs) (changed_missing xs (suc j) q)) e

-- where the change leaves each as it is
pub changed_same : (g : Decoder → Decoder) → ((d : Decoder) → g d ≡ d) → (k : Kind) (j : ℕ) (ds : List Decoder) → changed g k j ds ≡ ds
changed_same g same k j [] = refl
changed_same g same k zero (d ∷ ds) = both (λ b. cond b (g d ∷ ds) (d ∷ changed g k zero ds) ≡ d ∷ ds) (same_kind k (kind_of d)) (λ _. ap (λ d. d ∷ ds) (same d)) (λ _. ap (λ ds. d ∷ ds) (changed_same g same k zero ds))
changed_same g same k (suc j) (d ∷ ds) = both (λ b. cond b (d ∷ changed g k j ds) (d ∷ changed g k (suc j) ds) ≡ d ∷ ds) (same_kind k (kind_of d)) (λ _. ap (λ ds. d ∷ ds) (changed_same g same k j ds)) (λ _. ap (λ ds. d ∷ ds) (changed_same g same k (suc j) ds))

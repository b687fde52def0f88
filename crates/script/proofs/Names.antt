-- The one of a kind that has a number.
use Rattle.std.proofs.Common.{◌≡◌, ℕ, zero, suc, Bool, true, false, cond, ◌≢◌, List, [], ◌∷◌, ◌++◌, map, Some, option_map, sym, refl, ap, ◌∙◌, ⊎_elim, true≢false}
use Rattle.std.proofs.lemmas.Option.{none-some}
use Rattle.std.proofs.lemmas.Bool.{cases_Bool, cases_eq, eq-eqb, ne_eqb}
use Rattle.bank.specs.declared.kind.Kind.{Kind}
use Rattle.bank.specs.declared.kind.Kind.TheVariants.{Mobile, Basic, Extended}
use Rattle.bank.specs.Kinds.{same_kind}
use Rattle.script.specs.declared.name.DecoderName.{DecoderName}
use Rattle.script.specs.Decoders.{Decoder, kind_of, of_kind, changed}
use Rattle.script.specs.Promises.{is_named}

-- a fact of a test, by what it comes to
pub both : (P : Bool → Type 0) (b : Bool) → (b ≡ true → P true) → (b ≡ false → P false) → P b
both P true t f = t refl
both P false t f = f refl

module _ {X Y : Type 0} (f : X → Y) (kx : X → Kind) (ky : Y → Kind) (same : (x : X) → ky (f x) ≡ kx x) (k : Kind) where
  pub of_kind-map : (j : ℕ) (xs : List X) → of_kind ky k j (map f xs) ≡ option_map f (of_kind kx k j xs)
  of_kind-map j [] = refl
  of_kind-map zero (x ∷ xs) =
      ap (λ b. cond (same_kind k b) (Some (f x)) (of_kind ky k zero (map f xs))) (same x)
      ∙ both (λ b. cond b (Some (f x)) (of_kind ky k zero (map f xs)) ≡ option_map f (cond b (Some x) (of_kind kx k zero xs))) (same_kind k (kx x)) (λ e. refl) (λ e. of_kind-map zero xs)
  of_kind-map (suc j) (x ∷ xs) =
      ap (λ b. cond (same_kind k b) (of_kind ky k j (map f xs)) (of_kind ky k (suc j) (map f xs))) (same x)
      ∙ both (λ b. cond b (of_kind ky k j (map f xs)) (of_kind ky k (suc j) (map f xs)) ≡ option_map f (cond b (of_kind kx k j xs) (of_kind kx k (suc j) xs))) (same_kind k (kx x)) (λ e. of_kind-map j xs) (λ e. of_kind-map (suc j) xs)

-- what stands behind does not count
module _ {X : Type 0} (kind : X → Kind) (k : Kind) (x : X) (ys : List X) where
  pub of_kind_more : (j : ℕ) (xs : List X) → of_kind kind k j xs ≡ Some x → of_kind kind k j (xs ++ ys) ≡ Some x
  of_kind_more j [] e = absurd (none-some x e)
  of_kind_more zero (y ∷ xs) e =
      both (λ b. cond b (Some y) (of_kind kind k zero xs) ≡ Some x → cond b (Some y) (of_kind kind k zero (xs ++ ys)) ≡ Some x) (same_kind k (kind y)) (λ _ e. e) (λ _. of_kind_more zero xs) e
  of_kind_more (suc j) (y ∷ xs) e =
      both (λ b. cond b (of_kind kind k j xs) (of_kind kind k (suc j) xs) ≡ Some x → cond b (of_kind kind k j (xs ++ ys)) (of_kind kind k (suc j) (xs ++ ys)) ≡ Some x) (same_kind k (kind y)) (λ _. of_kind_more j xs) (λ _. of_kind_more (suc j) xs) e

-- ---- kinds

pub same_is : (a b : Kind) → same_kind a b ≡ true → a ≡ b
same_is Mobile Mobile e = refl
same_is Mobile Basic e = absurd (true≢false (sym e))
same_is Mobile Extended e = absurd (true≢false (sym e))
same_is Basic Mobile e = absurd (true≢false (sym e))
same_is Basic Basic e = refl
same_is Basic Extended e = absurd (true≢false (sym e))
same_is Extended Mobile e = absurd (true≢false (sym e))
same_is Extended Basic e = absurd (true≢false (sym e))
same_is Extended Extended e = refl

pub same_self : (a : Kind) → same_kind a a ≡ true
same_self Mobile = refl
same_self Basic = refl
same_self Extended = refl

-- ---- a change of one decoder

module _ (g : Decoder → Decoder) (keeps : (d : Decoder) → kind_of (g d) ≡ kind_of d) where
  -- it is seen under its name
  pub changed_here : (k : Kind) (j : ℕ) (ds : List Decoder) → of_kind kind_of k j (changed g k j ds) ≡ option_map g (of_kind kind_of k j ds)
  changed_here k j [] = refl
  changed_here k zero (d ∷ ds) =
      both (λ b. of_kind kind_of k zero (cond b (g d ∷ ds) (d ∷ changed g k zero ds)) ≡ option_map g (cond b (Some d) (of_kind kind_of k zero ds))) (same_kind k (kind_of d))
      (λ e. rw (keeps d, e) refl)
      (λ e. rw e (changed_here k zero ds))
  changed_here k (suc j) (d ∷ ds) =
      both (λ b. of_kind kind_of k (suc j) (cond b (d ∷ changed g k j ds) (d ∷ changed g k (suc j) ds)) ≡ option_map g (cond b (of_kind kind_of k j ds) (of_kind kind_of k (suc j) ds))) (same_kind k (kind_of d))
      (λ e. rw e (changed_here k j ds))
      (λ e. rw e (changed_here k (suc j) ds))

  -- and not under another number
  other_number : (k : Kind) (i j : ℕ) (ds : List Decoder) → i ≢ j → of_kind kind_of k j (changed g k i ds) ≡ of_kind kind_of k j ds
  other_number k i j [] ne = refl
  other_number k zero zero (d ∷ ds) ne = absurd (ne refl)
  other_number k zero (suc j) (d ∷ ds) ne =
      both (λ b. of_kind kind_of k (suc j) (cond b (g d ∷ ds) (d ∷ changed g k zero ds)) ≡ cond b (of_kind kind_of k j ds) (of_kind kind_of k (suc j) ds)) (same_kind k (kind_of d))
      (λ e. rw (keeps d, e) refl)
      (λ e. rw e (other_number k zero (suc j) ds ne))
  other_number k (suc i) zero (d ∷ ds) ne =
      both (λ b. of_kind kind_of k zero (cond b (d ∷ changed g k i ds) (d ∷ changed g k (suc i) ds)) ≡ cond b (Some d) (of_kind kind_of k zero ds)) (same_kind k (kind_of d))
      (λ e. rw e refl)
      (λ e. rw e (other_number k (suc i) zero ds ne))
  other_number k (suc i) (suc j) (d ∷ ds) ne =
      both (λ b. of_kind kind_of k (suc j) (cond b (d ∷ changed g k i ds) (d ∷ changed g k (suc i) ds)) ≡ cond b (of_kind kind_of k j ds) (of_kind kind_of k (suc j) ds)) (same_kind k (kind_of d))
      (λ e. rw e (other_number k i j ds (λ q. ne (ap suc q))))
      (λ e. rw e (other_number k (suc i) (suc j) ds ne))

  -- nor under another kind
  module _ (k m : Kind) (apart : same_kind m k ≡ false) where
    not_both : (d : Decoder) → same_kind k (kind_of d) ≡ true → same_kind m (kind_of d) ≡ false
    not_both d e = rw (← same_is k (kind_of d) e) apart

    pub other_kind : (i j : ℕ) (ds : List Decoder) → of_kind kind_of m j (changed g k i ds) ≡ of_kind kind_of m j ds
    other_kind i j [] = refl
    other_kind zero zero (d ∷ ds) =
        both (λ b. of_kind kind_of m zero (cond b (g d ∷ ds) (d ∷ changed g k zero ds)) ≡ cond (same_kind m (kind_of d)) (Some d) (of_kind kind_of m zero ds)) (same_kind k (kind_of d))
        (λ e. rw (keeps d, not_both d e) refl)
        (λ e. ap (cond (same_kind m (kind_of d)) (Some d)) (other_kind zero zero ds))
    other_kind zero (suc j) (d ∷ ds) =
        both (λ b. of_kind kind_of m (suc j) (cond b (g d ∷ ds) (d ∷ changed g k zero ds)) ≡ cond (same_kind m (kind_of d)) (of_kind kind_of m j ds) (of_kind kind_of m (suc j) ds)) (same_kind k (kind_of d))
        (λ e. rw (keeps d) refl)
        (λ e. rw (other_kind zero j ds, other_kind zero (suc j) ds) refl)
    other_kind (suc i) zero (d ∷ ds) =
        both (λ b. of_kind kind_of m zero (cond b (d ∷ changed g k i ds) (d ∷ changed g k (suc i) ds)) ≡ cond (same_kind m (kind_of d)) (Some d) (of_kind kind_of m zero ds)) (same_kind k (kind_of d))
        (λ e. rw (other_kind i zero ds) refl)
        (λ e. rw (other_kind (suc i) zero ds) refl)
    other_kind (suc i) (suc j) (d ∷ ds) =
        both (λ b. of_kind kind_of m (suc j) (cond b (d ∷ changed g k i ds) (d ∷ changed g k (suc i) ds)) ≡ cond (same_kind m (kind_of d)) (of_kind kind_of m j ds) (of_kind kind_of m (suc j) ds)) (same_kind k (kind_of d))
        (λ e. rw (other_kind i j ds, other_kind i (suc j) ds) refl)
        (λ e. rw (other_kind (suc i) j ds, other_kind (suc i) (suc j) ds) refl)

  -- under the name n after a change under the name m
  pub changed_under : (n m : DecoderName) (ds : List Decoder) → of_kind kind_of n.kind n.number (changed g m.kind m.number ds) ≡ cond (is_named n m) (option_map g (of_kind kind_of n.kind n.number ds)) (of_kind kind_of n.kind n.number ds)
  changed_under n m ds = ⊎_elim same apart (cases_Bool (same_kind n.kind m.kind))
    where
      same : same_kind n.kind m.kind ≡ true → of_kind kind_of n.kind n.number (changed g m.kind m.number ds) ≡ cond (is_named n m) (option_map g (of_kind kind_of n.kind n.number ds)) (of_kind kind_of n.kind n.number ds)
      same e =
          ⊎_elim
          (λ q. rw (e, eq-eqb n.number m.number q) (rw (← same_is n.kind m.kind e, ← q) (changed_here n.kind n.number ds)))
          (λ ne. rw (e, ne_eqb n.number m.number ne) (rw (← same_is n.kind m.kind e) (other_number n.kind m.number n.number ds (λ q. ne (sym q)))))
          (cases_eq n.number m.number)

      apart : same_kind n.kind m.kind ≡ false → of_kind kind_of n.kind n.number (changed g m.kind m.number ds) ≡ cond (is_named n m) (option_map g (of_kind kind_of n.kind n.number ds)) (of_kind kind_of n.kind n.number ds)
      apart e = rw e (other_kind m.kind n.kind e m.number n.number ds)

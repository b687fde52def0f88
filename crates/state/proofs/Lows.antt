-- The lowest bits of a byte, one by one. Assumes nothing.
use denote.Param.Members.{Mut, Called}
use Rattle.std.proofs.Common.{◌≡◌, ℕ, zero, suc, ◌+◌, ◌≤◌, ◌<◌, false, List, length, get_or, refl, ap, ◌∙◌, subst, ⊎_elim, arith}
use Rattle.std.specs.Array.{IsFromFnResultFrom}
use Rattle.std.proofs.lemmas.Bool.{cases_eq}
use Rattle.state.specs.Bits.{bit_of}
use Rattle.state.specs.Groups.{bits_from, low_bits}

length-bits_from : (b n x : ℕ) → length (bits_from b n x) ≡ n
length-bits_from b zero x = refl
length-bits_from b (suc n) x = ap suc (length-bits_from (suc b) n x)

bit_from : (b n x j : ℕ) → j < n → get_or (bits_from b n x) j false ≡ bit_of x (b + j)
bit_from b zero x j h = absurd (omega arith)
bit_from b (suc n) x zero h = let e : b ≡ b + 0 = omega arith in ap (bit_of x) e
bit_from b (suc n) x (suc j) h = let e : suc b + j ≡ b + suc j = omega arith in bit_from (suc b) n x j (omega arith) ∙ ap (bit_of x) e

pub length-low_bits : (n x : ℕ) → length (low_bits n x) ≡ n
length-low_bits n x = length-bits_from 0 n x

pub low_bit : (n x j : ℕ) → j < n → get_or (low_bits n x) j false ≡ bit_of x j
low_bit n x j h = let e : 0 + j ≡ j = omega arith in bit_from 0 n x j h ∙ ap (bit_of x) e

-- what a closure that stays as it was gives at each number
module _ {F B : Type 0} (g : Mut F (ℕ × Unit {0}) B) (value : ℕ → B) (f : F) (h : (i : ℕ) (y : B) (f' : F) → Called g f (i, tt) y f' → (y ≡ value i) × (f' ≡ f)) where
  pub given_at : (ys : List B) (d : B) (q : F) (i n j : ℕ) → q ≡ f → IsFromFnResultFrom g q ys i n → i ≤ j → j < i + n → get_or ys j d ≡ value j
  given_at ys d q i zero j e r l m = absurd (omega arith)
  given_at ys d q i (suc n) j e r l m =
      let one = h i r.1 r.0 (subst (λ (u : F). Called g u (i, tt) r.1 r.0) e r.3) in
      ⊎_elim
      (λ (k : i ≡ j). subst (λ (v : ℕ). get_or ys v d ≡ value v) k (r.2.1 d ∙ one.0))
      (λ k. given_at ys d r.0 (i + 1) n j one.1 r.4 (omega arith) (omega arith))
      (cases_eq i j)

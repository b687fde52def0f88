-- A byte with one bit set, which antt computes at each byte and each bit. Assumes nothing.
use Rattle.std.proofs.Common.{◌≡◌, ℕ, zero, suc, ◌-◌, ◌*◌, ◌%◌, ◌^◌, ◌<◌, Bool, true, false, ◌&&◌, eqb, refl}
use lib.Bits.{bit_and, bit_or}
use Rattle.std.proofs.lemmas.Bool.Decides.{Decides-below_and, Decides-eqb}
use Rattle.state.specs.Bits.{with_bit}

abbrev up_to : (ℕ → Bool) → ℕ → Bool
up_to f zero = true
up_to f (suc n) = f n && up_to f n

-- the two functions agree below n and m
agree : (f g : ℕ → ℕ → ℕ) (n m : ℕ) → up_to (λ k. up_to (λ x. eqb (f k x) (g k x)) m) n ≡ true → (k x : ℕ) → k < n → x < m → f k x ≡ g k x
agree f g n m e k x h j =
    (Decides-below_and (λ k. up_to (λ x. eqb (f k x) (g k x)) m) (λ k. (x : ℕ) → x < m → f k x ≡ g k x) (up_to (λ k. up_to (λ x. eqb (f k x) (g k x)) m))
    (λ k. Decides-below_and (λ x. eqb (f k x) (g k x)) (λ x. f k x ≡ g k x) (up_to (λ x. eqb (f k x) (g k x))) (λ x. Decides-eqb (f k x) (g k x)) refl (λ _. refl) m)
    refl (λ _. refl) n).0 e k h x j

pub or_bit : (k x : ℕ) → k < 8 → x < 256 → bit_or x (1 * 2 ^ k % 256) ≡ with_bit x k true
or_bit = agree (λ k x. bit_or x (1 * 2 ^ k % 256)) (λ k x. with_bit x k true) 8 256 refl

pub and_bit : (k x : ℕ) → k < 8 → x < 256 → bit_and x (255 - 1 * 2 ^ k % 256) ≡ with_bit x k false
and_bit = agree (λ k x. bit_and x (255 - 1 * 2 ^ k % 256)) (λ k x. with_bit x k false) 8 256 refl

-- One bit of a number is set, and the others stay. Assumes nothing.
use Rattle.std.proofs.Common.{◌≡◌, ℕ, ◌+◌, ◌-◌, ◌*◌, ◌/◌, ◌%◌, ◌^◌, ◌<◌, Bool, true, false, cond, eqb, sym, ap, ◌∙◌, ⊎_elim, arith}
use Rattle.std.proofs.lemmas.Nat.{pow_pos, shr-shr, shr_high, mod_low, mod_below, field_of, mod-pow-add}
use Rattle.std.proofs.lemmas.Bool.{cases_order, eq-eqb, ne_eqb}
use Rattle.state.specs.Bits.{bit_of, with_bit}

module _ (x k : ℕ) (on : Bool) where
  digit : cond on 1 0 < 2
  digit = elim on as (λ v. cond v 1 0 < 2) [ true ↦ omega arith | false ↦ omega arith ]

  top : with_bit x k on / 2 ^ k ≡ x / 2 ^ k / 2 * 2 + cond on 1 0
  top = shr_high _ k (x % 2 ^ k) (mod_below x (2 ^ k) (pow_pos k))

  low : with_bit x k on % 2 ^ k ≡ x % 2 ^ k
  low = mod_low _ k (x % 2 ^ k) (mod_below x (2 ^ k) (pow_pos k))

  above : (j : ℕ) → with_bit x k on / 2 ^ (1 + j + k) ≡ x / 2 ^ (1 + j + k)
  above j =
      let e : 1 + j + k ≡ k + (1 + j) = omega arith in
      let h : (x / 2 ^ k / 2 * 2 + cond on 1 0) / 2 ≡ x / 2 ^ k / 2 = omega (arith, digit) in
      let d : (n : ℕ) → n / 2 ^ (1 + j + k) ≡ n / 2 ^ k / 2 / 2 ^ j = λ n. ap (λ m. n / 2 ^ m) e ∙ sym (shr-shr n k (1 + j)) ∙ sym (shr-shr (n / 2 ^ k) 1 j) in
      d (with_bit x k on) ∙ ap (λ n. n / 2 / 2 ^ j) top ∙ ap (λ n. n / 2 ^ j) h ∙ sym (d x)

last : (n j : ℕ) → n % 2 ^ (j + 1) % 2 ≡ n % 2
last n j = let e = mod-pow-add n j 1 in omega arith

below : (x b j : ℕ) (on : Bool) → with_bit x (j + 1 + b) on / 2 ^ b % 2 ≡ x / 2 ^ b % 2
below x b j on =
    let d : (n : ℕ) → n / 2 ^ b % 2 ≡ n % 2 ^ (j + 1 + b) / 2 ^ b % 2 = λ n. sym (last (n / 2 ^ b) j) ∙ ap (λ m. m % 2) (sym (field_of n (j + 1) b)) in
    d (with_bit x (j + 1 + b) on) ∙ ap (λ n. n / 2 ^ b % 2) (low x (j + 1 + b) on) ∙ sym (d x)

bit_one : (q : ℕ) (on : Bool) → eqb ((q * 2 + cond on 1 0) % 2) 1 ≡ on
bit_one q true = let e : (q * 2 + 1) % 2 ≡ 1 = omega arith in rw e
bit_one q false = let e : (q * 2 + 0) % 2 ≡ 0 = omega arith in rw e

pub bit_put : (x k b : ℕ) (on : Bool) → bit_of (with_bit x k on) b ≡ cond (eqb k b) on (bit_of x b)
bit_put x k b on = ⊎_elim same (⊎_elim less more) (cases_order k b)
  where
    same : k ≡ b → bit_of (with_bit x k on) b ≡ cond (eqb k b) on (bit_of x b)
    same e = rw (eq-eqb k b e, ← e) (ap (λ n. eqb (n % 2) 1) (top x k on) ∙ bit_one (x / 2 ^ k / 2) on)

    less : k < b → bit_of (with_bit x k on) b ≡ cond (eqb k b) on (bit_of x b)
    less h =
        let e : b ≡ 1 + (b - k - 1) + k = omega arith in
        rw (ne_eqb k b (omega arith)) (ap (λ m. bit_of (with_bit x k on) m) e ∙ ap (λ n. eqb (n % 2) 1) (above x k on (b - k - 1)) ∙ ap (λ m. bit_of x m) (sym e))

    more : b < k → bit_of (with_bit x k on) b ≡ cond (eqb k b) on (bit_of x b)
    more h =
        let e : k ≡ (k - b - 1) + 1 + b = omega arith in
        rw (ne_eqb k b (omega arith)) (ap (λ m. bit_of (with_bit x m on) b) e ∙ ap (λ n. eqb n 1) (below x b (k - b - 1) on))

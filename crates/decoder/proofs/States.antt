-- The binary states, one by one. Assumes nothing.
use Rattle.std.proofs.Common.{◌≡◌, ℕ, zero, suc, ◌+◌, ◌-◌, ◌/◌, ◌%◌, ◌<◌, ◌≤◌, Bool, true, false, ◌≢◌, ◌⊎◌, inl, inr, List, length, get_or, set, take, drop, replicate, Some, None, refl, sym, ap, ◌∙◌, ⊎_elim, arith, get_or-set_same, get_or-set_other, length-set}
use Rattle.std.proofs.lemmas.List.{get_or-replicate, get_or_append_left, get_or-append_right, get_or-take, get_or-drop, length-take-le, length-replicate}
use Rattle.std.proofs.lemmas.Bool.{cond-true, cond-false, eq-eqb, ne_eqb, cases_eq, cases_lt}
use Rattle.std.proofs.lemmas.Bool.Decides.{nat_tests}
use Rattle.state.specs.Bits.{bit_of, with_bit}
use Rattle.state.specs.Kept.{all_states, low_states, kept_after, state_at}
use Rattle.state.proofs.Bitwise.{bit_put}
use Rattle.packet.specs.declared.instruction.Instruction.TheVariants.{BinaryStateShort, BinaryStateLong}
use Rattle.decoder.specs.declared.records.Mobile.{Mobile}
use Rattle.decoder.specs.declared.role.Role.{Role}
use Rattle.decoder.specs.declared.role.Role.TheVariants as role
use Rattle.decoder.specs.Alone.{Own, mobile_rules}
use Rattle.decoder.specs.Laws.{StatesSwitchOne, StatesSwitchTogether}

-- the bit of a state that is kept
bit_at : (bits : List ℕ) (n : ℕ) → 1 ≤ n → n ≤ 2047 → state_at bits n ≡ Some (bit_of (get_or bits (n / 8) 0) (n % 8))
bit_at bits n low high = grind (arith, nat_tests)

pub switched_at :
    (bits : List ℕ) (n : ℕ) (on : Bool)
    → 1 ≤ n
    → n ≤ 2047
    → kept_after bits n on ≡ set bits (n / 8) (with_bit (get_or bits (n / 8) 0) (n % 8) on)
switched_at bits n on low high = grind (arith, nat_tests)

pub not_switched :
    (bits : List ℕ) (n : ℕ) (on : Bool) → (n < 1) ⊎ (2047 < n) → kept_after bits n on ≡ bits
not_switched bits n on h = ⊎_elim (λ l. grind (arith, nat_tests)) (λ l. grind (arith, nat_tests)) h

none_at : (bits : List ℕ) (n : ℕ) → (n < 1) ⊎ (2047 < n) → state_at bits n ≡ None
none_at bits n h = ⊎_elim (λ l. grind (arith, nat_tests)) (λ l. grind (arith, nat_tests)) h

same_at : (bits : List ℕ) (n : ℕ) (on : Bool) → length bits ≡ 256 → 1 ≤ n → n ≤ 2047 → state_at (kept_after bits n on) n ≡ Some on
same_at bits n on l low high =
    let x = get_or bits (n / 8) 0 in
    let here : get_or (set bits (n / 8) (with_bit x (n % 8) on)) (n / 8) 0 ≡ with_bit x (n % 8) on = get_or-set_same bits (n / 8) (with_bit x (n % 8) on) 0 (omega arith) in
    ap (λ ys. state_at ys n) (switched_at bits n on low high) ∙ bit_at _ n low high ∙ ap (λ y. Some (bit_of y (n % 8))) here
    ∙ ap Some (bit_put x (n % 8) (n % 8) on ∙ cond-true _ _ _ (eq-eqb (n % 8) (n % 8) refl))

-- another state, of the same byte or of another
other_bit : (bits : List ℕ) (n m : ℕ) (on : Bool) → length bits ≡ 256 → n ≤ 2047 → m ≢ n → bit_of (get_or (set bits (n / 8) (with_bit (get_or bits (n / 8) 0) (n % 8) on)) (m / 8) 0) (m % 8) ≡ bit_of (get_or bits (m / 8) 0) (m % 8)
other_bit bits n m on l high ne = ⊎_elim same apart (cases_eq (m / 8) (n / 8))
  where
    x : ℕ
    x = get_or bits (n / 8) 0

    y : ℕ
    y = with_bit x (n % 8) on

    same : m / 8 ≡ n / 8 → bit_of (get_or (set bits (n / 8) y) (m / 8) 0) (m % 8) ≡ bit_of (get_or bits (m / 8) 0) (m % 8)
    same e =
        let k : n % 8 ≢ m % 8 = λ f. ne (omega arith) in
        ap (λ i. bit_of (get_or (set bits (n / 8) y) i 0) (m % 8)) e
        ∙ ap (λ v. bit_of v (m % 8)) (get_or-set_same bits (n / 8) y 0 (omega arith))
        ∙ bit_put x (n % 8) (m % 8) on ∙ cond-false _ _ _ (ne_eqb (n % 8) (m % 8) k)
        ∙ ap (λ i. bit_of (get_or bits i 0) (m % 8)) (sym e)

    apart : (m / 8 ≡ n / 8 → ⊥) → bit_of (get_or (set bits (n / 8) y) (m / 8) 0) (m % 8) ≡ bit_of (get_or bits (m / 8) 0) (m % 8)
    apart e = ap (λ v. bit_of v (m % 8)) (get_or-set_other bits (n / 8) (m / 8) y 0 e)

others_at : (bits : List ℕ) (n m : ℕ) (on : Bool) → length bits ≡ 256 → m ≢ n → state_at (kept_after bits n on) m ≡ state_at bits m
others_at bits n m on l ne = ⊎_elim (λ out. ap (λ ys. state_at ys m) (not_switched bits n on out)) within (range n)
  where
    range : (k : ℕ) → ((k < 1) ⊎ (2047 < k)) ⊎ ((1 ≤ k) × (k ≤ 2047))
    range k = ⊎_elim (λ a. inl (inl a)) (λ a. ⊎_elim (λ b. inl (inr b)) (λ b. inr (a, b)) (cases_lt 2047 k)) (cases_lt k 1)

    within : (1 ≤ n) × (n ≤ 2047) → state_at (kept_after bits n on) m ≡ state_at bits m
    within h =
        ⊎_elim
        (λ out. none_at (kept_after bits n on) m out ∙ sym (none_at bits m out))
        (λ k. ap (λ ys. state_at ys m) (switched_at bits n on h.0 h.1) ∙ bit_at _ m k.0 k.1 ∙ ap Some (other_bit bits n m on l h.1 ne) ∙ sym (bit_at bits m k.0 k.1))
        (range m)

pub states_switch_one : StatesSwitchOne
states_switch_one = record {
  kept = λ bits n low high. (bit_of (get_or bits (n / 8) 0) (n % 8), bit_at bits n low high);
  none = λ bits. refl;
  beyond = λ bits n h. none_at bits n (inr (omega arith));
  same = same_at;
  others = others_at;
}

-- the lowest eight bits of 255, and of 254 but the lowest
bit_of_255 : (k : ℕ) → k < 8 → bit_of 255 k ≡ true
bit_of_255 zero h = refl
bit_of_255 (suc zero) h = refl
bit_of_255 (suc (suc zero)) h = refl
bit_of_255 (suc (suc (suc zero))) h = refl
bit_of_255 (suc (suc (suc (suc zero)))) h = refl
bit_of_255 (suc (suc (suc (suc (suc zero))))) h = refl
bit_of_255 (suc (suc (suc (suc (suc (suc zero)))))) h = refl
bit_of_255 (suc (suc (suc (suc (suc (suc (suc zero))))))) h = refl
bit_of_255 (suc (suc (suc (suc (suc (suc (suc (suc k)))))))) h = absurd (omega arith)

bit_of_254 : (k : ℕ) → 1 ≤ k → k < 8 → bit_of 254 k ≡ true
bit_of_254 zero l h = absurd (omega arith)
bit_of_254 (suc zero) l h = refl
bit_of_254 (suc (suc zero)) l h = refl
bit_of_254 (suc (suc (suc zero))) l h = refl
bit_of_254 (suc (suc (suc (suc zero)))) l h = refl
bit_of_254 (suc (suc (suc (suc (suc zero))))) l h = refl
bit_of_254 (suc (suc (suc (suc (suc (suc zero)))))) l h = refl
bit_of_254 (suc (suc (suc (suc (suc (suc (suc zero))))))) l h = refl
bit_of_254 (suc (suc (suc (suc (suc (suc (suc (suc k)))))))) l h = absurd (omega arith)

bit_of_0 : (k : ℕ) → k < 8 → bit_of 0 k ≡ false
bit_of_0 zero h = refl
bit_of_0 (suc zero) h = refl
bit_of_0 (suc (suc zero)) h = refl
bit_of_0 (suc (suc (suc zero))) h = refl
bit_of_0 (suc (suc (suc (suc zero)))) h = refl
bit_of_0 (suc (suc (suc (suc (suc zero))))) h = refl
bit_of_0 (suc (suc (suc (suc (suc (suc zero)))))) h = refl
bit_of_0 (suc (suc (suc (suc (suc (suc (suc zero))))))) h = refl
bit_of_0 (suc (suc (suc (suc (suc (suc (suc (suc k)))))))) h = absurd (omega arith)

-- all of them
pub together : (on : Bool) (n : ℕ) → 1 ≤ n → n ≤ 2047 → state_at (all_states on) n ≡ Some on
together false n low high =
    bit_at (replicate 256 0) n low high
    ∙ ap (λ y. Some (bit_of y (n % 8))) (get_or-replicate 256 (n / 8) 0 0 (omega arith))
    ∙ ap Some (bit_of_0 (n % 8) (omega arith))
together true n low high = bit_at (set (replicate 256 255) 0 254) n low high ∙ ap Some (⊎_elim first later (cases_eq (n / 8) 0))
  where
    first : n / 8 ≡ 0 → bit_of (get_or (set (replicate 256 255) 0 254) (n / 8) 0) (n % 8) ≡ true
    first e = ap (λ i. bit_of (get_or (set (replicate 256 255) 0 254) i 0) (n % 8)) e ∙ bit_of_254 (n % 8) (omega arith) (omega arith)

    later : (n / 8 ≡ 0 → ⊥) → bit_of (get_or (set (replicate 256 255) 0 254) (n / 8) 0) (n % 8) ≡ true
    later e =
        ap (λ y. bit_of y (n % 8)) (get_or-set_other (replicate 256 255) 0 (n / 8) 254 0 e ∙ get_or-replicate 256 (n / 8) 255 0 (omega arith))
        ∙ bit_of_255 (n % 8) (omega arith)

all_long : (on : Bool) → length (all_states on) ≡ 256
all_long true = length-set {A = ℕ} (replicate 256 255) 0 254 ∙ length-replicate {A = ℕ} 256 255
all_long false = length-replicate {A = ℕ} 256 0

sixteen : (on : Bool) → length (take 16 (all_states on)) ≡ 16
sixteen on = length-take-le 16 (all_states on) (omega (arith, all_long on))

low_at : (bits : List ℕ) (on : Bool) (n : ℕ) → 1 ≤ n → n ≤ 127 → state_at (low_states bits on) n ≡ Some on
low_at bits on n low high =
    bit_at (low_states bits on) n low (omega arith)
    ∙ ap (λ y. Some (bit_of y (n % 8))) (get_or_append_left (take 16 (all_states on)) (drop 16 bits) 0 (n / 8) (omega (arith, sixteen on)) ∙ get_or-take 16 (all_states on) (n / 8) 0 (omega arith))
    ∙ sym (bit_at (all_states on) n low (omega arith))
    ∙ together on n low (omega arith)

high_at : (bits : List ℕ) (on : Bool) (n : ℕ) → 128 ≤ n → state_at (low_states bits on) n ≡ state_at bits n
high_at bits on n h = ⊎_elim (λ out. none_at (low_states bits on) n (inr out) ∙ sym (none_at bits n (inr out))) kept (cases_lt 2047 n)
  where
    kept : n ≤ 2047 → state_at (low_states bits on) n ≡ state_at bits n
    kept high =
        let e : 16 + (n / 8 - 16) ≡ n / 8 = omega arith in
        bit_at (low_states bits on) n (omega arith) high
        ∙ ap (λ y. Some (bit_of y (n % 8))) (
        get_or-append_right (take 16 (all_states on)) (drop 16 bits) 16 (n / 8) 0 (sixteen on) (omega arith)
        ∙ get_or-drop 16 bits (n / 8 - 16) 0
        ∙ ap (λ i. get_or bits i 0) e
        )
        ∙ sym (bit_at bits n (omega arith) high)

pub states_switch_together : StatesSwitchTogether
states_switch_together = record { all = all; low = low; high = high }
  where
    all : (o : Own Mobile) (r : Role) (bs : List ℕ) (n : ℕ) (on : Bool) → r ≢ role.Consist → 1 ≤ n → n ≤ 2047 → state_at (mobile_rules.obeys o r bs (BinaryStateLong on 0)).rec.state.states.bits n ≡ Some on
    all o role.Everyone bs n on ne l h = together on n l h
    all o role.Own bs n on ne l h = together on n l h
    all o role.Consist bs n on ne l h = absurd (ne refl)

    low : (o : Own Mobile) (r : Role) (bs : List ℕ) (n : ℕ) (on : Bool) → r ≢ role.Consist → 1 ≤ n → n ≤ 127 → state_at (mobile_rules.obeys o r bs (BinaryStateShort on 0)).rec.state.states.bits n ≡ Some on
    low o role.Everyone bs n on ne l h = low_at o.rec.state.states.bits on n l h
    low o role.Own bs n on ne l h = low_at o.rec.state.states.bits on n l h
    low o role.Consist bs n on ne l h = absurd (ne refl)

    high : (o : Own Mobile) (r : Role) (bs : List ℕ) (n : ℕ) (on : Bool) → 128 ≤ n → state_at (mobile_rules.obeys o r bs (BinaryStateShort on 0)).rec.state.states.bits n ≡ state_at o.rec.state.states.bits n
    high o role.Everyone bs n on h = high_at o.rec.state.states.bits on n h
    high o role.Own bs n on h = high_at o.rec.state.states.bits on n h
    high o role.Consist bs n on h = refl

-- What is read is written back to its own bytes: the instruction. Assumes nothing.
use Rattle.std.proofs.Common.{◌≡◌, ℕ, ◌%◌, ◌<◌, ◌≤◌, List, [], ◌∷◌, Ok, sym, ◌∙◌, ⊎_elim, arith}
use Rattle.std.proofs.lemmas.Bool.{cases_eq, cases_lt}
use Rattle.std.proofs.lemmas.Bool.Decides.{nat_tests}
use Rattle.std.specs.List.{AllByRecursion}
use Rattle.packet.specs.declared.instruction.Instruction.{Instruction}
use Rattle.format.specs.Reading.{mobile, cv_access, basic, extended}
use Rattle.format.specs.Writing.{Form, form_of, cv_body, mobile_body, basic_body, extended_body, output_bits}

pub access_forth : (bs : List ℕ) → AllByRecursion (λ b. b < 256) bs → (i : Instruction) → cv_access bs ≡ Ok i → (cv_body (form_of i) ≡ Ok bs)
unfolding cv_access
access_forth (b ∷ c ∷ d ∷ f ∷ bs) h i e = grind (arith, nat_tests)
access_forth _ h i e = grind (arith, nat_tests)

-- the long form says the same to every decoder
pub cv_mobile : (f : Form) (bs : List ℕ) → cv_body f ≡ Ok bs → mobile_body f ≡ Ok bs
cv_mobile f bs e = grind (arith, nat_tests)

-- of three bytes are the long binary state and the long form
mobile_access : (b c d : ℕ) (i : Instruction) → (b ≡ 0xc0 → ⊥) → mobile (b ∷ c ∷ d ∷ []) ≡ Ok i → cv_access (b ∷ c ∷ d ∷ []) ≡ Ok i
unfolding mobile cv_access
mobile_access b c d i n e = grind (arith, nat_tests)

long_state : (b c d : ℕ) → AllByRecursion (λ x. x < 256) (b ∷ c ∷ d ∷ []) → (i : Instruction) → b ≡ 0xc0 → mobile (b ∷ c ∷ d ∷ []) ≡ Ok i → mobile_body (form_of i) ≡ Ok (b ∷ c ∷ d ∷ [])
unfolding mobile
long_state b c d h i q e = grind (arith, nat_tests)

-- of two bytes: consist and speed in 126 steps, then functions, binary state and adjustments
two_low : (b c : ℕ) → AllByRecursion (λ x. x < 256) (b ∷ c ∷ []) → (i : Instruction) → b < 0x40 → mobile (b ∷ c ∷ []) ≡ Ok i → mobile_body (form_of i) ≡ Ok (b ∷ c ∷ [])
unfolding mobile
two_low b c h i l e = grind (arith, nat_tests)

two_high : (b c : ℕ) → AllByRecursion (λ x. x < 256) (b ∷ c ∷ []) → (i : Instruction) → 0x40 ≤ b → mobile (b ∷ c ∷ []) ≡ Ok i → mobile_body (form_of i) ≡ Ok (b ∷ c ∷ [])
unfolding mobile
two_high b c h i l e = grind (arith, nat_tests)

one_low : (b : ℕ) (i : Instruction) → b < 0x40 → mobile (b ∷ []) ≡ Ok i → mobile_body (form_of i) ≡ Ok (b ∷ [])
unfolding mobile
one_low b i l e = grind (arith, nat_tests)

one_high : (b : ℕ) (i : Instruction) → 0x40 ≤ b → mobile (b ∷ []) ≡ Ok i → mobile_body (form_of i) ≡ Ok (b ∷ [])
unfolding mobile
one_high b i l e = grind (arith, nat_tests)

pub mobile_forth : (bs : List ℕ) → AllByRecursion (λ b. b < 256) bs → (i : Instruction) → mobile bs ≡ Ok i → mobile_body (form_of i) ≡ Ok bs
unfolding mobile
mobile_forth (b ∷ []) h i e = ⊎_elim (λ l. one_low b i l e) (λ l. one_high b i l e) (cases_lt b 0x40)
mobile_forth (b ∷ c ∷ []) h i e = ⊎_elim (λ l. two_low b c h i l e) (λ l. two_high b c h i l e) (cases_lt b 0x40)
mobile_forth (b ∷ c ∷ d ∷ []) h i e =
    ⊎_elim (λ q. long_state b c d h i q e) (λ n. cv_mobile (form_of i) _ (access_forth _ h i (mobile_access b c d i n e))) (cases_eq b 0xc0)
mobile_forth _ h i e = grind (arith, nat_tests)

cv_basic : (f : Form) (bs : List ℕ) → cv_body f ≡ Ok bs → (basic_body f ≡ Ok bs) × (output_bits f ≡ 0)
cv_basic f bs e = grind (arith, nat_tests)

cv_extended : (f : Form) (bs : List ℕ) → cv_body f ≡ Ok bs → extended_body f ≡ Ok bs
cv_extended f bs e = grind (arith, nat_tests)

basic_access : (head b : ℕ) (bs : List ℕ) (i : Instruction) → basic head (b ∷ bs) ≡ Ok i → (head % 16 ≡ 0) × (cv_access (b ∷ bs) ≡ Ok i)
basic_access head b bs i e = grind (arith, nat_tests)

pub basic_forth : (head : ℕ) (bs : List ℕ) → AllByRecursion (λ b. b < 256) bs → (i : Instruction) → basic head bs ≡ Ok i → (basic_body (form_of i) ≡ Ok bs) × (output_bits (form_of i) ≡ head % 16)
basic_forth head [] h i e = grind (arith, nat_tests)
basic_forth head (b ∷ bs) h i e =
    let p = basic_access head b bs i e in
    let q = cv_basic (form_of i) (b ∷ bs) (access_forth (b ∷ bs) h i p.1) in
    (q.0, q.1 ∙ sym p.0)

aspect_forth : (b : ℕ) (bs : List ℕ) (i : Instruction) → b < 0x20 → extended (b ∷ bs) ≡ Ok i → extended_body (form_of i) ≡ Ok (b ∷ bs)
unfolding extended
aspect_forth b bs i l e = grind (arith, nat_tests)

extended_access : (b : ℕ) (bs : List ℕ) (i : Instruction) → 0x20 ≤ b → extended (b ∷ bs) ≡ Ok i → cv_access (b ∷ bs) ≡ Ok i
unfolding extended
extended_access b bs i l e = grind (arith, nat_tests)

pub extended_forth : (bs : List ℕ) → AllByRecursion (λ b. b < 256) bs → (i : Instruction) → extended bs ≡ Ok i → extended_body (form_of i) ≡ Ok bs
unfolding extended
extended_forth [] h i e = grind (arith, nat_tests)
extended_forth (b ∷ bs) h i e =
    ⊎_elim (λ l. aspect_forth b bs i l e)
    (λ l. cv_extended (form_of i) (b ∷ bs) (access_forth (b ∷ bs) h i (extended_access b bs i l e)))
    (cases_lt b 0x20)

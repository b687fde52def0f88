-- Which group names a function. Assumes nothing.
use Rattle.std.proofs.Common.{◌≡◌, ℕ, ◌≤◌, true, cond, ltb, sym, ◌∙◌, ⊎_elim, arith}
use Rattle.std.proofs.lemmas.Bool.{cases_lt}
use Rattle.std.proofs.lemmas.Bool.Decides.{nat_tests}
use Rattle.packet.specs.declared.instruction.FunctionGroup.{FunctionGroup}
use Rattle.packet.specs.declared.instruction.FunctionGroup.TheVariants.{F0ToF4, F5ToF8, F9ToF12, F13ToF20, F21ToF28, F29ToF36, F37ToF44, F45ToF52, F53ToF60, F61ToF68}
use Rattle.decoder.specs.Laws.{is_in_group, GroupsNameEach}

-- the group of a function
abbrev group_at : ℕ → FunctionGroup
group_at k =
    cond (ltb k 5) F0ToF4 (cond (ltb k 9) F5ToF8 (cond (ltb k 13) F9ToF12 (cond (ltb k 21) F13ToF20 (cond (ltb k 29) F21ToF28
    (cond (ltb k 37) F29ToF36 (cond (ltb k 45) F37ToF44 (cond (ltb k 53) F45ToF52 (cond (ltb k 61) F53ToF60 F61ToF68))))))))

is_at : (g : FunctionGroup) (k : ℕ) → is_in_group g k ≡ true → group_at k ≡ g
is_at F0ToF4 k e = grind (arith, nat_tests)
is_at F5ToF8 k e = grind (arith, nat_tests)
is_at F9ToF12 k e = grind (arith, nat_tests)
is_at F13ToF20 k e = grind (arith, nat_tests)
is_at F21ToF28 k e = grind (arith, nat_tests)
is_at F29ToF36 k e = grind (arith, nat_tests)
is_at F37ToF44 k e = grind (arith, nat_tests)
is_at F45ToF52 k e = grind (arith, nat_tests)
is_at F53ToF60 k e = grind (arith, nat_tests)
is_at F61ToF68 k e = grind (arith, nat_tests)

no_more : (g : FunctionGroup) (k : ℕ) → is_in_group g k ≡ true → (1 ≤ k) × (k ≤ 68)
no_more F0ToF4 k e = (grind (arith, nat_tests), grind (arith, nat_tests))
no_more F5ToF8 k e = (grind (arith, nat_tests), grind (arith, nat_tests))
no_more F9ToF12 k e = (grind (arith, nat_tests), grind (arith, nat_tests))
no_more F13ToF20 k e = (grind (arith, nat_tests), grind (arith, nat_tests))
no_more F21ToF28 k e = (grind (arith, nat_tests), grind (arith, nat_tests))
no_more F29ToF36 k e = (grind (arith, nat_tests), grind (arith, nat_tests))
no_more F37ToF44 k e = (grind (arith, nat_tests), grind (arith, nat_tests))
no_more F45ToF52 k e = (grind (arith, nat_tests), grind (arith, nat_tests))
no_more F53ToF60 k e = (grind (arith, nat_tests), grind (arith, nat_tests))
no_more F61ToF68 k e = (grind (arith, nat_tests), grind (arith, nat_tests))

one : (k : ℕ) → 1 ≤ k → k ≤ 68 → (g : FunctionGroup) × (is_in_group g k ≡ true)
one k low high =
    ⊎_elim (λ l. (F0ToF4, grind (arith, nat_tests))) (λ h5. ⊎_elim (λ l. (F5ToF8, grind (arith, nat_tests))) (λ h9. ⊎_elim (λ l. (F9ToF12, grind (arith, nat_tests))) (λ h13. ⊎_elim (λ l. (F13ToF20, grind (arith, nat_tests)))
    (λ h21. ⊎_elim (λ l. (F21ToF28, grind (arith, nat_tests))) (λ h29. ⊎_elim (λ l. (F29ToF36, grind (arith, nat_tests))) (λ h37. ⊎_elim (λ l. (F37ToF44, grind (arith, nat_tests))) (λ h45. ⊎_elim (λ l. (F45ToF52, grind (arith, nat_tests)))
    (λ h53. ⊎_elim (λ l. (F53ToF60, grind (arith, nat_tests))) (λ h61. (F61ToF68, grind (arith, nat_tests))) (cases_lt k 61)) (cases_lt k 53)) (cases_lt k 45)) (cases_lt k 37)) (cases_lt k 29)) (cases_lt k 21)) (cases_lt k 13)) (cases_lt k 9)) (cases_lt k 5)

pub groups_name_each : GroupsNameEach
groups_name_each = record { one = one; no_other = λ g h k e f. sym (is_at g k e) ∙ is_at h k f; no_more = no_more }

-- What switches. Assumes nothing.
use Rattle.std.proofs.Common.{◌≡◌, ℕ, ◌≤◌, Bool, cond, eqb, ◌≢◌, List, refl, arith}
use Rattle.std.proofs.lemmas.Bool.{cond-false, ne_eqb}
use Rattle.std.proofs.lemmas.Bool.Decides.{nat_tests}
use Rattle.packet.specs.declared.instruction.FunctionGroup.{FunctionGroup}
use Rattle.packet.specs.declared.instruction.Instruction.TheVariants.{Functions, BinaryStateShort, BinaryStateLong}
use Rattle.state.specs.Bits.{bit_of}
use Rattle.state.specs.Groups.{switched}
use Rattle.state.specs.Kept.{low_states, kept_after}
use Rattle.decoder.specs.declared.records.Mobile.{Mobile}
use Rattle.decoder.specs.declared.role.Role.{Role}
use Rattle.decoder.specs.declared.role.Role.TheVariants as role
use Rattle.decoder.specs.Alone.{Own, variable, mobile_rules}
use Rattle.decoder.specs.Laws.{SwitchesAct}

one_of : {A : Type 0} (n : ℕ) (x y : A) → 1 ≤ n → cond (eqb n 0) x y ≡ y
one_of n x y h = cond-false _ _ _ (ne_eqb n 0 (λ e. omega arith))

group : (o : Own Mobile) (r : Role) (bs : List ℕ) (g : FunctionGroup) (bits : ℕ) → r ≢ role.Consist → (mobile_rules.obeys o r bs (Functions g bits)).rec.state.functions.on ≡ switched o.rec.state.functions.on g bits (bit_of (variable o.vars 29) 1)
group o role.Everyone bs g bits ne = refl
group o role.Own bs g bits ne = refl
group o role.Consist bs g bits ne = absurd (ne refl)

short_state : (o : Own Mobile) (r : Role) (bs : List ℕ) (n : ℕ) (on : Bool) → r ≢ role.Consist → 1 ≤ n → (mobile_rules.obeys o r bs (BinaryStateShort on n)).rec.state.states.bits ≡ kept_after o.rec.state.states.bits n on
short_state o role.Everyone bs n on ne h = one_of n (low_states o.rec.state.states.bits on) _ h
short_state o role.Own bs n on ne h = one_of n (low_states o.rec.state.states.bits on) _ h
short_state o role.Consist bs n on ne h = absurd (ne refl)

long_state : (o : Own Mobile) (r : Role) (bs : List ℕ) (n : ℕ) (on : Bool) → r ≢ role.Consist → 1 ≤ n → (mobile_rules.obeys o r bs (BinaryStateLong on n)).rec.state.states.bits ≡ kept_after o.rec.state.states.bits n on
long_state o role.Everyone bs n on ne h = grind (arith, nat_tests)
long_state o role.Own bs n on ne h = grind (arith, nat_tests)
long_state o role.Consist bs n on ne h = absurd (ne refl)

pub switches_act : SwitchesAct
switches_act = record { group = group; short_state = short_state; long_state = long_state }

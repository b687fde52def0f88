-- An answer whose refusal is about no place. Assumes nothing.
use Rattle.std.proofs.Common.{◌≡◌, Ok, Err, Result, refl}
use Rattle.std.specs.Option.{option_map}
use Rattle.std.specs.Result.{result_err, result_map_both}
use Rattle.fault.specs.declared.fault.Fault.{Fault}
use Rattle.fault.specs.declared.refusal.Refusal.{Refusal}
use Rattle.fault.specs.Places.{nowhere}

abbrev pub placeless : {X : Type 0} → Result X Refusal → Result X Fault
placeless r = result_map_both (λ x. x) nowhere r

module _ {X : Type 0} where
  pub accepted : (r : Result X Refusal) (x : X) → placeless r ≡ Ok x → r ≡ Ok x
  accepted (Ok y) x e = cc
  accepted (Err d) x e = cc

  pub refused :
      (r : Result X Refusal) → result_err (placeless r) ≡ option_map nowhere (result_err r)
  refused (Ok y) = refl
  refused (Err d) = refl

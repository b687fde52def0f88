-- A run in its two parts: all fittings, and all calls.
use Rattle.std.specs.Prelude.{◌≡◌, ℕ, true, List, map, length, take, drop, Result}
use Rattle.fault.specs.declared.fault.Fault.{Fault}
use Rattle.bank.specs.declared.kind.Kind.{Kind}
use Rattle.script.specs.declared.fit.Fit.{Fit}
use Rattle.script.specs.declared.call.Call.{Call}
use Rattle.script.specs.declared.answer.Answer.{Answer}
use Rattle.script.specs.Boards.{Lent, is_lent, decoders, Rest}
use Rattle.script.specs.Fittings.{fit_kind, fitted, accepted, fit_answers}
use Rattle.script.specs.Calls.{after_all, answers_to}

-- after the first i fittings
pub record FittedTo (i : ℕ) (fits : List Fit) (l : Lent) (ks : List Kind) (l' : Lent) (places places' : List (Result ℕ Fault)) : Type 0 where
  pub kinds : ks ≡ map fit_kind (accepted l (take i fits))
  pub decoders_are : decoders ks l' ≡ map fitted (accepted l (take i fits))
  pub enough : is_lent ks l' ≡ true
  pub rest : Rest ks l l'
  pub answered : take i places' ≡ fit_answers l (take i fits)
  pub spare : drop i places' ≡ drop i places

abbrev pub FittedAll : List Fit → Lent → List Kind → Lent → List (Result ℕ Fault) → List (Result ℕ Fault) → Type 0
FittedAll fits l ks l' places places' = FittedTo (length fits) fits l ks l' places places'

-- after the first i calls
pub record PerformedTo (i : ℕ) (calls : List Call) (ks : List Kind) (l l' : Lent) (places places' : List (Result Answer Fault)) : Type 0 where
  pub decoders_are : decoders ks l' ≡ after_all (decoders ks l) (take i calls)
  pub rest : Rest ks l l'
  pub answered : take i places' ≡ answers_to (decoders ks l) (take i calls)
  pub spare : drop i places' ≡ drop i places

abbrev pub PerformedAll : List Call → List Kind → Lent → Lent → List (Result Answer Fault) → List (Result Answer Fault) → Type 0
PerformedAll calls ks l l' places places' = PerformedTo (length calls) calls ks l l' places places'

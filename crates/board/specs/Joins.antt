-- What one fitting makes of the decoders of a board.
use Rattle.std.specs.Prelude.{◌≡◌, ℕ, true, List, [], ◌∷◌, ◌++◌, Ok, Err, Result}
use Rattle.fault.specs.declared.fault.Fault.{Fault}
use Rattle.bank.specs.declared.kind.Kind.{Kind}
use Rattle.script.specs.declared.fit.Fit.{Fit}
use Rattle.script.specs.Boards.{Lent, is_lent, decoders, Rest}
use Rattle.script.specs.Fittings.{fit_kind, fitted}

-- one decoder more, as it is fitted; all others and all else as they were
pub record Joined (f : Fit) (ks : List Kind) (l : Lent) (ks' : List Kind) (l' : Lent) : Type 0 where
  pub kinds : ks' ≡ ks ++ fit_kind f ∷ []
  pub decoders_are : decoders ks' l' ≡ decoders ks l ++ fitted f ∷ []
  pub enough : is_lent ks l ≡ true → is_lent ks' l' ≡ true
  pub rest : Rest ks' l l'

-- or nothing, where it was refused
abbrev pub Joins : Fit → List Kind → Lent → List Kind → Lent → Result ℕ Fault → Type 0
Joins f ks l ks' l' (Ok j) = Joined f ks l ks' l'
Joins f ks l ks' l' (Err e) = (ks' ≡ ks) × (l' ≡ l)

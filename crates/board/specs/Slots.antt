-- What a board holds: the kinds of its decoders, in the order of fitting. And what one fitting does.
use Rattle.std.specs.Prelude.{◌≡◌, ℕ, cond, ◌&&◌, List, [], ◌∷◌, ◌++◌, length, Ok, Err, Result, nat_lt, slice_set}
use Rattle.fault.specs.declared.fault.Fault.{Fault}
use Rattle.fault.specs.declared.refusal.Refusal.TheVariants.{FittedAddress, BankFull}
use Rattle.decoder.specs.Alone.{Own}
use Rattle.bank.specs.declared.kind.Kind.{Kind}
use Rattle.bank.specs.Kinds.{count_of}
use Rattle.bank.specs.Windows.{Wrote}
use Rattle.script.specs.declared.fit.Fit.{Fit}
use Rattle.script.specs.Decoders.{refused_by}
use Rattle.script.specs.Fittings.{fit_kind, is_address}
use Rattle.board.specs.declared.boards.Fitting.{Fitting}
use Rattle.board.specs.declared.boards.Running.{Running}

abbrev pub fitting_kinds : Fitting → List Kind
fitting_kinds b = b.kinds.items

abbrev pub running_kinds : Running → List Kind
running_kinds b = b.kinds.items

-- the number of one decoder more in a bank of so many places, before its cells are asked for
abbrev pub admitted : ℕ → List Kind → Fit → Result ℕ Fault
admitted places ks f =
    cond (is_address f)
    (cond (nat_lt (length ks) 32 && nat_lt (count_of ks (fit_kind f)) places) (Ok (count_of ks (fit_kind f))) (Err (refused_by BankFull)))
    (Err (refused_by FittedAddress))

-- the decoder was added at the end, with its record and all of its window as o has them, whatever they held before;
-- where it was refused all is as it was
pub record AddedAs {X : Type 0} (k : Kind) (o : Own X) (ks : List Kind) (bank : List X) (cells : List ℕ) (ks' : List Kind) (bank' : List X) (cells' : List ℕ) (j : ℕ) : Type 0 where
  pub kinds : ks' ≡ ks ++ k ∷ []
  pub records : bank' ≡ slice_set bank j o.rec
  pub variables : Wrote cells cells' (length ks) o.vars

abbrev pub Added : {X : Type 0} → Kind → Own X → List Kind → List X → List ℕ → List Kind → List X → List ℕ → Result ℕ Fault → Type 0
Added k o ks bank cells ks' bank' cells' (Ok j) = AddedAs k o ks bank cells ks' bank' cells' j
Added k o ks bank cells ks' bank' cells' (Err e) = (ks' ≡ ks) × (bank' ≡ bank) × (cells' ≡ cells)

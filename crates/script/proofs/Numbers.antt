-- The number that a fitting answers names its decoder.
use Rattle.std.proofs.Common.{◌≡◌, ℕ, zero, suc, ◌+◌, ◌*◌, Bool, true, false, cond, ◌&&◌, ltb, leb, List, [], ◌∷◌, map, length, Some, Ok, Err, Result, sym, refl, ap, ◌∙◌, subst, is_err, true≢false}
use Rattle.std.proofs.lemmas.Option.{none-some}
use Rattle.std.specs.List.{slice_get}
use Rattle.fault.specs.declared.fault.Fault.{Fault}
use Rattle.fault.specs.declared.refusal.Refusal.TheVariants.{FittedAddress, BankFull, TooFewCells}
use Rattle.bank.specs.declared.kind.Kind.{Kind}
use Rattle.bank.specs.Kinds.{count_of}
use Rattle.script.specs.declared.fit.Fit.{Fit}
use Rattle.script.specs.declared.call.Call.{Call}
use Rattle.script.specs.declared.answer.Answer.{Answer}
use Rattle.script.specs.Decoders.{of_kind, refused_by}
use Rattle.script.specs.Boards.{Lent, bank_size}
use Rattle.script.specs.Fittings.{fit_kind, is_address, fitting, joining, accepted_after, fit_answers_after}
use Rattle.script.specs.Promises.{Ran, Named}
use Rattle.script.proofs.Names.{of_kind_more, same_self}
use Rattle.script.proofs.Slots.{slot_last}

pub number_is : (l : Lent) (ks : List Kind) (f : Fit) (j : ℕ) → fitting l ks f ≡ Ok j → count_of ks (fit_kind f) ≡ j
number_is l ks f j e = go (is_address f) (ltb (length ks) 32 && ltb (count_of ks (fit_kind f)) (bank_size (fit_kind f) l)) (leb (1024 * length ks + 1024) (length l.cells)) e
  where
    go : (a b c : Bool) → cond a (cond b (cond c (Ok (count_of ks (fit_kind f))) (Err (refused_by TooFewCells))) (Err (refused_by BankFull))) (Err (refused_by FittedAddress)) ≡ Ok j → count_of ks (fit_kind f) ≡ j
    go true true true e = cc
    go true true false e = absurd (true≢false (ap is_err e))
    go true false c e = absurd (true≢false (ap is_err e))
    go false b c e = absurd (true≢false (ap is_err e))

module _ (l : Lent) where
  -- later fittings leave a name as it is
  kept : (k : Kind) (j : ℕ) (f : Fit) (done fits : List Fit) → of_kind fit_kind k j done ≡ Some f → of_kind fit_kind k j (accepted_after l done fits) ≡ Some f
  kept k j f done [] e = e
  kept k j f done (g ∷ fits) e = kept k j f (joining done g (fitting l (map fit_kind done) g)) fits (go (fitting l (map fit_kind done) g))
    where
      go : (r : Result ℕ Fault) → of_kind fit_kind k j (joining done g r) ≡ Some f
      go (Ok i) = of_kind_more fit_kind k f (g ∷ []) j done e
      go (Err x) = e

  joined : (done : List Fit) (f : Fit) (j : ℕ) (r : Result ℕ Fault) → r ≡ fitting l (map fit_kind done) f → r ≡ Ok j → of_kind fit_kind (fit_kind f) j (joining done f r) ≡ Some f
  joined done f j (Ok i) e at = let same : i ≡ j = cc in slot_last fit_kind (fit_kind f) f (same_self (fit_kind f)) done j (number_is l (map fit_kind done) f i (sym e) ∙ same)
  joined done f j (Err x) e at = absurd (true≢false (ap is_err at))

  named-after : (done fits : List Fit) (i j : ℕ) (f : Fit) → slice_get fits i ≡ Some f → slice_get (fit_answers_after l done fits) i ≡ Some (Ok j) → of_kind fit_kind (fit_kind f) j (accepted_after l done fits) ≡ Some f
  named-after done [] i j f at is = absurd (none-some f at)
  named-after done (g ∷ fits) zero j f at is =
      let same : g ≡ f = cc in
      let ans : fitting l (map fit_kind done) g ≡ Ok j = cc in
      subst (λ h. of_kind fit_kind (fit_kind h) j (accepted_after l (joining done g (fitting l (map fit_kind done) g)) fits) ≡ Some h) same
      (kept (fit_kind g) j g (joining done g (fitting l (map fit_kind done) g)) fits (joined done g j (fitting l (map fit_kind done) g) refl ans))
  named-after done (g ∷ fits) (suc i) j f at is = named-after (joining done g (fitting l (map fit_kind done) g)) fits i j f at is

pub is_named_lem : {fits : List Fit} {calls : List Call} {l : Lent} {ks : List Kind} {l' : Lent} {numbers : List (Result ℕ Fault)} {answers : List (Result Answer Fault)} → Ran fits calls l ks l' numbers answers → Named fits l numbers
is_named_lem {fits} {l = l} r i j f at is = named-after l [] fits i j f at (ap (λ ns. slice_get ns i) (sym r.numbers_are) ∙ is)

-- A whole run keeps all promises. And runs that are one step longer.
use Rattle.std.proofs.Common.{◌≡◌, ℕ, List, [], ◌∷◌, ◌++◌, map, Result, refl, ap}
use Rattle.bank.specs.declared.kind.Kind.{Kind}
use Rattle.script.specs.declared.fit.Fit.{Fit}
use Rattle.script.specs.declared.call.Call.{Call}
use Rattle.fault.specs.declared.fault.Fault.{Fault}
use Rattle.script.specs.declared.answer.Answer.{Answer}
use Rattle.script.specs.Decoders.{Decoder}
use Rattle.script.specs.Boards.{Lent, Rest}
use Rattle.script.specs.Fittings.{fit_kind, fitting, joining, accepted_after, fit_answers_after}
use Rattle.script.specs.Calls.{after_call, after_all, answer_to, answers_to}
use Rattle.script.specs.Promises.{Ran, Promised}
use Rattle.script.proofs.Alones.{is_alone, is_apart}
use Rattle.script.proofs.Persists.{is_persistent}
use Rattle.script.proofs.Numbers.{is_named_lem}

pub is_promised : {fits : List Fit} {calls : List Call} {l : Lent} {ks : List Kind} {l' : Lent} {numbers : List (Result ℕ Fault)} {answers : List (Result Answer Fault)} → Ran fits calls l ks l' numbers answers → Rest ks l l' → Promised fits calls l ks l' numbers answers
is_promised r rest = record { ran = r; named = is_named_lem r; isolated = is_alone r; apart = is_apart r; persistent = is_persistent r; rest = rest }

module _ (l : Lent) where
  pub accepted_more : (done fs : List Fit) (f : Fit) → accepted_after l done (fs ++ f ∷ []) ≡ joining (accepted_after l done fs) f (fitting l (map fit_kind (accepted_after l done fs)) f)
  accepted_more done [] f = refl
  accepted_more done (g ∷ fs) f = accepted_more (joining done g (fitting l (map fit_kind done) g)) fs f

  pub fit_answers_more : (done fs : List Fit) (f : Fit) → fit_answers_after l done (fs ++ f ∷ []) ≡ fit_answers_after l done fs ++ fitting l (map fit_kind (accepted_after l done fs)) f ∷ []
  fit_answers_more done [] f = refl
  fit_answers_more done (g ∷ fs) f = ap (λ ns. fitting l (map fit_kind done) g ∷ ns) (fit_answers_more (joining done g (fitting l (map fit_kind done) g)) fs f)

pub after_more : (ds : List Decoder) (cs : List Call) (c : Call) → after_all ds (cs ++ c ∷ []) ≡ after_call (after_all ds cs) c
after_more ds [] c = refl
after_more ds (b ∷ cs) c = after_more (after_call ds b) cs c

pub answers_more : (ds : List Decoder) (cs : List Call) (c : Call) → answers_to ds (cs ++ c ∷ []) ≡ answers_to ds cs ++ answer_to (after_all ds cs) c ∷ []
answers_more ds [] c = refl
answers_more ds (b ∷ cs) c = ap (λ xs. answer_to ds b ∷ xs) (answers_more (after_call ds b) cs c)

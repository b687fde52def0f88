-- One fitting after another, and one call after another.
use Rattle.std.proofs.Common.{◌≡◌, ℕ, ◌+◌, ◌<◌, true, List, [], ◌∷◌, ◌++◌, map, length, get_or, take, drop, set, Ok, Err, Result, sym, refl, ap, ◌∙◌, subst, ap₂, arith}
use Rattle.std.proofs.lemmas.List.{take_more, take_more_set, drop-drop, drop-set-lt, take_all, map_push, length_push}
use Rattle.std.proofs.lemmas.Bool.{cond-true}
use Rattle.fault.specs.declared.fault.Fault.{Fault}
use Rattle.bank.specs.declared.kind.Kind.{Kind}
use Rattle.script.specs.declared.fit.Fit.{Fit}
use Rattle.script.specs.declared.call.Call.{Call}
use Rattle.script.specs.declared.answer.Answer.{Answer}
use Rattle.script.specs.Boards.{Lent, is_lent, decoders, Rest}
use Rattle.script.specs.Fittings.{fit_kind, fitted, fitting_in, fitting, accepted, joining, fit_answers}
use Rattle.script.specs.Calls.{after_call, after_all, answer_to, answers_to, answer_by, after_by}
use Rattle.script.specs.Promises.{Ran}
use Rattle.script.proofs.Runs.{accepted_more, fit_answers_more, after_more, answers_more}
use Rattle.roster.proofs.Decks.{rest_none, rest_then}
use Rattle.roster.proofs.Sendings.{still_lent}
use Rattle.board.specs.Joins.{Joins}
use Rattle.board.specs.Steps.{FittedTo, PerformedTo}
use Rattle.board.proofs.Joinings.{count_grows, no_kinds}

-- ---- what stays

-- with more decoders there is less beyond them
rest_weaken : {ks : List Kind} {l l' : Lent} (k : Kind) → Rest ks l l' → Rest (ks ++ k ∷ []) l l'
rest_weaken {ks} k r = record {
  sizes = r.sizes;
  size = r.size;
  records = λ i x j past. r.records i x j (omega (arith, count_grows ks k i));
  cells = λ c past. r.cells c (omega (arith, length_push ks k));
  outside = r.outside;
}

fitting_kept : {ks : List Kind} {l l' : Lent} (js : List Kind) (f : Fit) → Rest ks l l' → fitting l' js f ≡ fitting l js f
fitting_kept js f r = ap₂ (λ n c. fitting_in n c js f) (r.sizes (fit_kind f)) r.size

-- ---- a place for each answer

module _ {A : Type 0} (places places' : List A) (i : ℕ) (a : A) where
  place_answered : (answers : List A) → i < length places' → take i places' ≡ answers → take (i + 1) (set places' i a) ≡ answers ++ a ∷ []
  place_answered answers low e = take_more_set places' i a low ∙ ap (λ xs. xs ++ a ∷ []) e

  place_spare : drop i places' ≡ drop i places → drop (i + 1) (set places' i a) ≡ drop (i + 1) places
  place_spare e = drop-set-lt (i + 1) places' i a (omega arith) ∙ sym (drop-drop 1 i places') ∙ ap (drop 1) e ∙ drop-drop 1 i places

-- ---- all fittings

pub fitted_none : (fs : List Fit) (l : Lent) (ks : List Kind) (places : List (Result ℕ Fault)) → ks ≡ [] → FittedTo 0 fs l ks l places places
fitted_none fs l ks places e =
    subst (λ ks. FittedTo 0 fs l ks l places places) (sym e) (record { kinds = refl; decoders_are = (no_kinds l).0; enough = (no_kinds l).1; rest = rest_none; answered = refl; spare = refl })

module _ {i : ℕ} {fs : List Fit} {l : Lent} {ks : List Kind} {l' : Lent} {places places' : List (Result ℕ Fault)} (t : FittedTo i fs l ks l' places places') where
  joined_to : (f : Fit) (A : List Fit) (ks₁ : List Kind) (l'' : Lent) (r : Result ℕ Fault) → ks ≡ map fit_kind A → decoders ks l' ≡ map fitted A → Joins f ks l' ks₁ l'' r → (ks₁ ≡ map fit_kind (joining A f r)) × (decoders ks₁ l'' ≡ map fitted (joining A f r)) × (is_lent ks₁ l'' ≡ true) × Rest ks₁ l l''
  joined_to f A ks₁ l'' (Ok j) k d joined = (
    joined.kinds ∙ ap (λ ks. ks ++ fit_kind f ∷ []) k ∙ sym (map_push fit_kind A f),
    joined.decoders_are ∙ ap (λ ds. ds ++ fitted f ∷ []) d ∙ sym (map_push fitted A f),
    joined.enough t.enough,
    rest_then (subst (λ ks. Rest ks l l') (sym joined.kinds) (rest_weaken (fit_kind f) t.rest)) joined.rest,
  )
  joined_to f A ks₁ l'' (Err e) k d same = (
    same.0 ∙ k,
    ap₂ decoders same.0 same.1 ∙ d,
    ap₂ is_lent same.0 same.1 ∙ t.enough,
    subst (λ m. Rest ks₁ l m) (sym same.1) (subst (λ ks. Rest ks l l') (sym same.0) t.rest),
  )

  pub fitted_more : (f d : Fit) (ks₁ : List Kind) (l'' : Lent) (r : Result ℕ Fault) → i < length fs → i < length places' → f ≡ get_or fs i d → r ≡ fitting l' ks f → Joins f ks l' ks₁ l'' r → FittedTo (i + 1) fs l ks₁ l'' places (set places' i r)
  fitted_more f d ks₁ l'' r low room at e joins =
      let A = accepted l (take i fs) in
      let more : take (i + 1) fs ≡ take i fs ++ f ∷ [] = take_more fs i d low ∙ ap (λ f. take i fs ++ f ∷ []) (sym at) in
      let r-is : r ≡ fitting l (map fit_kind A) f = e ∙ fitting_kept ks f t.rest ∙ ap (λ ks. fitting l ks f) t.kinds in
      let next : accepted l (take (i + 1) fs) ≡ joining A f r = ap (accepted l) more ∙ accepted_more l [] (take i fs) f ∙ ap (joining A f) (sym r-is) in
      let j = joined_to f A ks₁ l'' r t.kinds t.decoders_are joins in
      record {
        kinds = j.0 ∙ ap (map fit_kind) (sym next);
        decoders_are = j.1 ∙ ap (map fitted) (sym next);
        enough = j.2;
        rest = j.3;
        answered = place_answered places places' i r (fit_answers l (take i fs)) room t.answered ∙ ap (λ a. fit_answers l (take i fs) ++ a ∷ []) r-is ∙ sym (ap (fit_answers l) more ∙ fit_answers_more l [] (take i fs) f);
        spare = place_spare places places' i r t.spare;
      }

-- ---- all calls

pub performed_none : (cs : List Call) (ks : List Kind) (l : Lent) (places : List (Result Answer Fault)) → PerformedTo 0 cs ks l l places places
performed_none cs ks l places = record { decoders_are = refl; rest = rest_none; answered = refl; spare = refl }

pub performed_more : {i : ℕ} {cs : List Call} {ks : List Kind} {l l' : Lent} {places places' : List (Result Answer Fault)} (t : PerformedTo i cs ks l l' places places') (c d : Call) (l'' : Lent) (a : Result Answer Fault) → is_lent ks l ≡ true → i < length cs → i < length places' → c ≡ get_or cs i d → a ≡ answer_by ks l' (λ ds. answer_to ds c) → decoders ks l'' ≡ after_by ks l' (λ ds. after_call ds c) → Rest ks l' l'' → PerformedTo (i + 1) cs ks l l'' places (set places' i a)
performed_more {i} {cs} {ks} {l} {l'} {places} {places'} t c d l'' a lent_at_lem low room at is dec rest =
    let ds = decoders ks l in
    let more : take (i + 1) cs ≡ take i cs ++ c ∷ [] = take_more cs i d low ∙ ap (λ c. take i cs ++ c ∷ []) (sym at) in
    let still = still_lent t.rest lent_at_lem in
    record {
      decoders_are = dec ∙ cond-true _ _ _ still ∙ ap (λ ds. after_call ds c) t.decoders_are ∙ sym (ap (after_all ds) more ∙ after_more ds (take i cs) c);
      rest = rest_then t.rest rest;
      answered = place_answered places places' i a (answers_to ds (take i cs)) room t.answered ∙ ap (λ a. answers_to ds (take i cs) ++ a ∷ []) (is ∙ cond-true _ _ _ still ∙ ap (λ ds. answer_to ds c) t.decoders_are) ∙ sym (ap (answers_to ds) more ∙ answers_more ds (take i cs) c);
      spare = place_spare places places' i a t.spare;
    }

-- ---- both

module _ {fs : List Fit} {cs : List Call} {l l₁ l₂ : Lent} {ks : List Kind} {ns ns' : List (Result ℕ Fault)} {xs xs' : List (Result Answer Fault)} (f : FittedTo (length fs) fs l ks l₁ ns ns') (p : PerformedTo (length cs) cs ks l₁ l₂ xs xs') where
  all_fits : take (length fs) fs ≡ fs
  all_fits = take_all (length fs) fs (omega arith)

  all_calls : take (length cs) cs ≡ cs
  all_calls = take_all (length cs) cs (omega arith)

  pub has_run : Ran fs cs l ks l₂ (take (length fs) ns') (take (length cs) xs')
  has_run =
      let d : decoders ks l₁ ≡ map fitted (accepted l fs) = f.decoders_are ∙ ap (λ fs. map fitted (accepted l fs)) all_fits in
      record {
        kinds_are = f.kinds ∙ ap (λ fs. map fit_kind (accepted l fs)) all_fits;
        numbers_are = f.answered ∙ ap (fit_answers l) all_fits;
        answers_are = p.answered ∙ ap₂ answers_to d all_calls;
        decoders_are = p.decoders_are ∙ ap₂ after_all d all_calls;
      }

  pub all_rest : Rest ks l l₂
  all_rest = rest_then f.rest p.rest

-- Every decoder is what it is alone.
use Rattle.std.proofs.Common.{◌≡◌, ℕ, zero, suc, Bool, true, false, cond, List, [], ◌∷◌, map, take, Some, option_map, Result, sym, refl, ap, ◌∙◌}
use Rattle.std.proofs.lemmas.Option.{none-some}
use Rattle.std.specs.List.{slice_get}
use Rattle.block.specs.Contents.{Thing}
use Rattle.script.specs.declared.name.DecoderName.{DecoderName}
use Rattle.script.specs.declared.fit.Fit.{Fit}
use Rattle.script.specs.declared.fit.Fit.TheVariants as fit
use Rattle.script.specs.declared.call.Request.{Request}
use Rattle.script.specs.declared.call.Call.{Call}
use Rattle.script.specs.declared.call.Call.TheVariants.{Take, Ask}
use Rattle.fault.specs.declared.fault.Fault.{Fault}
use Rattle.script.specs.declared.answer.Answer.{Answer}
use Rattle.script.specs.Decoders.{Decoder, kind_of, lives, decoder_of, request_answer, events_of}
use Rattle.script.specs.Fittings.{fit_kind, fitted, fit_of, accepted}
use Rattle.script.specs.Calls.{meets, met, given, after_records, after_call, after_all, answer_to, answers_to, about}
use Rattle.script.specs.Boards.{Lent, decoders}
use Rattle.script.specs.Promises.{in_records, is_named, in_call, events, alone_after, Ran, Alone, Apart}
use Rattle.bank.specs.declared.kind.Kind.{Kind}
use Rattle.script.proofs.Lives.{lives_none, lives_more, kind_lives}
use Rattle.script.proofs.Names.{of_kind-map, changed_under}

-- all meet a record
pub under_met : (n : DecoderName) (t : Thing) (ds : List Decoder) → decoder_of n (map (met t) ds) ≡ option_map (met t) (decoder_of n ds)
under_met n t ds = of_kind-map (met t) kind_of kind_of (λ d. kind_lives (meets d t) d) n.kind n.number ds

module _ (n : DecoderName) where
  pub alone_records : (d : Decoder) (ds : List Decoder) (rs : List (ℕ × Thing)) → decoder_of n ds ≡ Some d → decoder_of n (after_records ds rs) ≡ Some (lives d (in_records d rs))
  alone_records d ds [] e = e ∙ ap Some (sym (lives_none d))
  alone_records d ds (r ∷ rs) e =
      alone_records (met r.1 d) (map (met r.1) ds) rs (under_met n r.1 ds ∙ ap (option_map (met r.1)) e)
      ∙ ap Some (sym (lives_more d (meets d r.1) (in_records (met r.1 d) rs)))

  pub alone_call : (d : Decoder) (ds : List Decoder) (c : Call) → decoder_of n ds ≡ Some d → decoder_of n (after_call ds c) ≡ Some (lives d (in_call n d c))
  alone_call d ds (Take b) e = alone_records d ds (given b.now) e
  alone_call d ds (Ask m q) e =
      changed_under (λ d. lives d (events_of q)) (kind_lives (events_of q)) n m ds
      ∙ ap (λ o. cond (is_named n m) (option_map (λ d. lives d (events_of q)) o) o) e
      ∙ go (is_named n m)
    where
      go : (b : Bool) → cond b (Some (lives d (events_of q))) (Some d) ≡ Some (lives d (cond b (events_of q) []))
      go true = refl
      go false = ap Some (sym (lives_none d))

  pub alone_calls : (d : Decoder) (ds : List Decoder) (cs : List Call) → decoder_of n ds ≡ Some d → decoder_of n (after_all ds cs) ≡ Some (lives d (events n d cs))
  alone_calls d ds [] e = e ∙ ap Some (sym (lives_none d))
  alone_calls d ds (c ∷ cs) e =
      alone_calls (lives d (in_call n d c)) (after_call ds c) cs (alone_call d ds c e)
      ∙ ap Some (sym (lives_more d (in_call n d c) (events n (lives d (in_call n d c)) cs)))

  -- the answer to a request, by what was before it
  pub asked_at : (d : Decoder) (ds : List Decoder) (cs : List Call) (i : ℕ) (q : Request) → decoder_of n ds ≡ Some d → slice_get cs i ≡ Some (Ask n q) → slice_get (answers_to ds cs) i ≡ Some (request_answer (lives d (events n d (take i cs))) q)
  asked_at d ds [] i q e at = absurd (none-some _ at)
  asked_at d ds (c ∷ cs) zero q e at =
      let is : c ≡ Ask n q = cc in
      ap (λ c. Some (answer_to ds c)) is ∙ ap (λ o. Some (about (λ d. request_answer d q) o)) e ∙ ap (λ d. Some (request_answer d q)) (sym (lives_none d))
  asked_at d ds (c ∷ cs) (suc i) q e at =
      asked_at (lives d (in_call n d c)) (after_call ds c) cs i q (alone_call d ds c e) at
      ∙ ap (λ d. Some (request_answer d q)) (sym (lives_more d (in_call n d c) (events n (lives d (in_call n d c)) (take i cs))))

pub kind_fitted : (f : Fit) → kind_of (fitted f) ≡ fit_kind f
kind_fitted (fit.Mobile a) = refl
kind_fitted (fit.Basic a) = refl
kind_fitted (fit.Extended a) = refl

pub found-fitted : (n : DecoderName) (f : Fit) (fs : List Fit) → fit_of n fs ≡ Some f → decoder_of n (map fitted fs) ≡ Some (fitted f)
found-fitted n f fs e = of_kind-map fitted fit_kind kind_of kind_fitted n.kind n.number fs ∙ ap (option_map fitted) e

module _ {fits : List Fit} {calls : List Call} {l : Lent} {ks : List Kind} {l' : Lent} {numbers : List (Result ℕ Fault)} {answers : List (Result Answer Fault)} (r : Ran fits calls l ks l' numbers answers) where
  pub ends_alone : (n : DecoderName) (f : Fit) → fit_of n (accepted l fits) ≡ Some f → decoder_of n (decoders ks l') ≡ Some (alone_after n f calls)
  ends_alone n f e = ap (decoder_of n) r.decoders_are ∙ alone_calls n (fitted f) (map fitted (accepted l fits)) calls (found-fitted n f (accepted l fits) e)

  answers_alone : (n : DecoderName) (f : Fit) → fit_of n (accepted l fits) ≡ Some f → (i : ℕ) (q : Request) → slice_get calls i ≡ Some (Ask n q) → slice_get answers i ≡ Some (request_answer (alone_after n f (take i calls)) q)
  answers_alone n f e i q at = ap (λ xs. slice_get xs i) r.answers_are ∙ asked_at n (fitted f) (map fitted (accepted l fits)) calls i q (found-fitted n f (accepted l fits) e) at

  pub is_alone : Alone fits calls l ks l' answers
  is_alone n f e = (ends_alone n f e, answers_alone n f e)

pub is_apart : {fits : List Fit} {calls : List Call} {l : Lent} {ks : List Kind} {l' : Lent} {numbers : List (Result ℕ Fault)} {answers : List (Result Answer Fault)} → Ran fits calls l ks l' numbers answers → Apart fits calls l ks l' answers
is_apart {fits} {calls} {l} r fits₂ calls₂ l₂ ks₂ l₂' numbers₂ answers₂ r₂ same n f e =
    let e₂ : fit_of n (accepted l₂ fits₂) ≡ Some f = ap (fit_of n) same ∙ e in (
      λ alike. ends_alone r₂ n f e₂ ∙ ap (λ es. Some (lives (fitted f) es)) alike ∙ sym (ends_alone r n f e),
      λ i i₂ q at at₂ alike. answers_alone r₂ n f e₂ i₂ q at₂ ∙ ap (λ es. Some (request_answer (lives (fitted f) es) q)) alike ∙ sym (answers_alone r n f e i q at),
    )

-- What one decoder answers. Assumes nothing.
use Rattle.std.proofs.Common.{◌≡◌, ℕ, ◌-◌, ◌<◌, ◌≤◌, Bool, true, false, ◌≢◌, ◌⊎◌, List, [], ◌∷◌, length, get_or, set, Some, None, Ok, Err, sym, refl, ap, ◌∙◌, ⊎_elim, arith, get_or-set_same, get_or-set_other}
use Rattle.std.proofs.lemmas.Bool.{cond-true, cond-false}
use Rattle.std.proofs.lemmas.Bool.Decides.{nat_tests}
use Rattle.fault.specs.declared.refusal.Refusal.TheVariants.{NumberOutOfRange, NoSuchDecoder}
use Rattle.fault.specs.Places.{fault_at}
use Rattle.packet.specs.declared.cv.CvNumber.{CvNumber}
use Rattle.state.specs.Groups.{function_at}
use Rattle.state.specs.Kept.{state_at}
use Rattle.decoder.specs.Alone.{variable}
use Rattle.decoder.specs.Alone.Event.{setting}
use Rattle.bank.specs.declared.kind.Kind.TheVariants as kind
use Rattle.script.specs.declared.call.Request.TheVariants.{Set, Variable, Function, BinaryState}
use Rattle.script.specs.declared.answer.Answer.TheVariants as answer
use Rattle.script.specs.Decoders.{Decoder, kind_of, lives, variables_of, is_variable, cv_of, in_range, if_variable, answered, events_of, request_answer}
use Rattle.script.specs.Decoders.Decoder.{mobile, basic, extended}
use Rattle.script.specs.Asked.{IsVariable, RequestsAnswered}

is_one : (n : ℕ) → IsVariable n → is_variable n ≡ true
is_one n h = let low = h.0 in let high = h.1 in grind (arith, nat_tests)

is_none : (n : ℕ) → (n ≡ 0) ⊎ (1024 < n) → is_variable n ≡ false
is_none n h = ⊎_elim (λ e. grind (arith, nat_tests)) (λ l. grind (arith, nat_tests)) h

-- the variables after a setting
set_vars : (d : Decoder) (cv : CvNumber) (x : ℕ) → variables_of (lives d (setting cv x ∷ [])) ≡ set (variables_of d) (cv.number - 1) x
unfolding lives
set_vars (mobile o) cv x = refl
set_vars (basic o) cv x = refl
set_vars (extended o) cv x = refl

after_set : (d : Decoder) (n x : ℕ) → IsVariable n → variables_of (lives d (events_of (Set n x))) ≡ set (variables_of d) (n - 1) x
after_set d n x h =
    let at : (cv_of n).number - 1 ≡ n - 1 = let low = h.0 in let high = h.1 in omega arith in
    ap (λ es. variables_of (lives d es)) (cond-true _ (setting (cv_of n) x ∷ []) [] (is_one n h)) ∙ set_vars d (cv_of n) x ∙ ap (λ k. set (variables_of d) k x) at

-- a variable that is read
read_is : (d : Decoder) (n : ℕ) → IsVariable n → request_answer d (Variable n) ≡ Ok (answer.Variable (variable (variables_of d) n))
read_is d n h = ap (answered answer.Variable) (cond-true _ _ _ (is_one n h))

unread_is : (d : Decoder) (n : ℕ) → is_variable n ≡ false → request_answer d (Variable n) ≡ Err (fault_at NumberOutOfRange 0)
unread_is d n h = ap (answered answer.Variable) (cond-false _ _ _ h)

reads_back : (d : Decoder) (n x : ℕ) → length (variables_of d) ≡ 1024 → IsVariable n → request_answer (lives d (events_of (Set n x))) (Variable n) ≡ Ok (answer.Variable x)
reads_back d n x l h =
    let low = h.0 in
    let high = h.1 in
    let there : get_or (set (variables_of d) (n - 1) x) (n - 1) 0 ≡ x = get_or-set_same (variables_of d) (n - 1) x 0 (omega (arith, l)) in
    read_is (lives d (events_of (Set n x))) n h ∙ ap (λ vs. Ok (answer.Variable (get_or vs (n - 1) 0))) (after_set d n x h) ∙ ap (λ y. Ok (answer.Variable y)) there

others : (d : Decoder) (n m x : ℕ) → IsVariable n → m ≢ n → request_answer (lives d (events_of (Set n x))) (Variable m) ≡ request_answer d (Variable m)
others d n m x h ne = go (is_variable m) refl
  where
    go : (b : Bool) → is_variable m ≡ b → request_answer (lives d (events_of (Set n x))) (Variable m) ≡ request_answer d (Variable m)
    go true e =
        let low = h.0 in
        let least : 1 ≤ m = grind (arith, nat_tests) in
        ap (λ vs. answered answer.Variable (if_variable m (get_or vs (m - 1) 0))) (after_set d n x h)
        ∙ ap (λ y. answered answer.Variable (if_variable m y)) (get_or-set_other (variables_of d) (n - 1) (m - 1) x 0 (λ f. ne (omega (arith, f, low, least))))
    go false e = unread_is (lives d (events_of (Set n x))) m e ∙ ap (answered answer.Variable) (sym (cond-false _ _ _ e))

not_mobile : (d : Decoder) (n : ℕ) → kind_of d ≢ kind.Mobile → (request_answer d (Function n) ≡ Err (fault_at NoSuchDecoder 0)) × (request_answer d (BinaryState n) ≡ Err (fault_at NoSuchDecoder 0))
not_mobile (mobile o) n ne = absurd (ne refl)
not_mobile (basic o) n ne = (refl, refl)
not_mobile (extended o) n ne = (refl, refl)

pub requests_answered : RequestsAnswered
requests_answered = record {
  set = λ d n x h. ap (answered (λ _. answer.Set)) (cond-true _ _ _ (is_one n h));
  reads_back = reads_back;
  others = others;
  not_set = λ d n x h. (ap (answered (λ _. answer.Set)) (cond-false _ _ _ (is_none n h)), cond-false _ _ _ (is_none n h));
  no_variable = λ d n h. unread_is d n (is_none n h);
  function = λ o n h. ap (λ r. answered answer.Function (in_range r)) (told o.rec.state.functions.on n h);
  no_function = λ o n h. ap (λ r. answered answer.Function (in_range r)) (untold o.rec.state.functions.on n h);
  binary_state = λ o n on e. ap (λ r. answered answer.BinaryState (in_range r)) e;
  no_binary_state = λ o n h. ap (λ r. answered answer.BinaryState (in_range r)) (no_state o.rec.state.states.bits n h);
  not_mobile = not_mobile;
  state = record {
    of_mobile = λ o. (o.rec.state, refl, refl);
    of_basic = λ o. (o.rec.state, refl, refl);
    of_extended = λ o. (o.rec.state, refl, refl);
  };
}
  where
    told : (fs : List Bool) (n : ℕ) → n ≤ 68 → function_at fs n ≡ Some (get_or fs n false)
    told fs n h = grind (arith, nat_tests)

    untold : (fs : List Bool) (n : ℕ) → 69 ≤ n → function_at fs n ≡ None
    untold fs n h = grind (arith, nat_tests)

    no_state : (bits : List ℕ) (n : ℕ) → (n ≡ 0) ⊎ (2047 < n) → state_at bits n ≡ None
    no_state bits n h = ⊎_elim (λ e. grind (arith, nat_tests)) (λ l. grind (arith, nat_tests)) h

-- A decoder that is named: what is read of it, and a setting.
use Rattle.std.proofs.Common.{◌≡◌, ℕ, ◌+◌, ◌-◌, ◌*◌, ◌<◌, ◌≤◌, Bool, true, false, ltb, leb, ◌≢◌, List, [], ◌∷◌, length, get_or, set, Some, None, Ok, Err, Option, Result, sym, refl, ap, ◌∙◌, subst, ap₂, ◌⊎◌, ⊎_elim, IsErrAnd, is_ok, is_err, true≢false, arith}
use Rattle.std.proofs.lemmas.List.{get_or_default, set-get_or}
use Rattle.std.proofs.lemmas.Option.{none-some}
use Rattle.std.proofs.lemmas.Result.{err_from_is_err_and}
use Rattle.std.proofs.lemmas.Bool.{cond-true, cond-false, ltb-true, ltb-false, le-leb, lt-leb, lt-ltb, and_from, and_left, and_right, cases_Bool, eq-eqb}
use Rattle.fault.specs.declared.fault.Fault.{Fault}
use Rattle.fault.specs.declared.refusal.Refusal.{Refusal}
use Rattle.fault.specs.declared.refusal.Refusal.TheVariants.{NoSuchDecoder, NumberOutOfRange, LentTooShort}
use Rattle.packet.specs.declared.cv.CvNumber.{CvNumber}
use Rattle.packet.specs.Wires.{if_number, number_in}
use Rattle.packet.proofs.Cvs.{cv_is}
use Rattle.decoder.specs.declared.records.Mobile as mobile-record
use Rattle.decoder.specs.Alone.{own}
use Rattle.decoder.specs.Alone.Event.{setting}
use Rattle.bank.specs.declared.kind.Kind.{Kind}
use Rattle.bank.specs.declared.kind.Kind.TheVariants.{Mobile, Basic, Extended}
use Rattle.bank.specs.Kinds.{is_kind, count_below, count_of, SlotOf}
use Rattle.bank.specs.Windows.{window, Wrote}
use Rattle.bank.specs.Banks.{ChangedAt, is_there, unless_short}
use Rattle.bank.proofs.Counts.{count_less, count_apart}
use Rattle.bank.proofs.Turns.{kept_beyond}
use Rattle.script.specs.declared.name.DecoderName.{DecoderName}
use Rattle.script.specs.declared.call.Request.TheVariants.{Set}
use Rattle.script.specs.Decoders.{Decoder, lives, RecordOf, decoder_as, decoder_of, changed, on_mobile, in_range, state_of, refused_by, is_variable, if_variable, cv_of, events_of, variables_of}
use Rattle.script.specs.Boards.{Lent, bank_of, bank_size, spare_of, is_lent, decoder_at, decoders, Rest}
use Rattle.script.specs.declared.answer.DecoderState.{DecoderState}
use Rattle.script.specs.Calls.{about, when_lent, answer_of, after_by, place_after}
use Rattle.script.proofs.Lives.{lives_none}
use Rattle.std.specs.Option.{ok_or}
use Rattle.memory.specs.Cells.{Outside}
use Rattle.memory.specs.declared.memory.Memory.{Ghosts}
use Rattle.script.proofs.Slots.{changed_missing}
use Rattle.roster.specs.declared.banks.Banks.{Banks}
use Rattle.roster.specs.declared.banks.BanksMut.{BanksMut}
use Rattle.roster.specs.Held.{seen, held, Located}
use Rattle.roster.proofs.Alike.{each, one_and_others, rules_of, variables_as, lives_as, SameBanksBut, with_bank, others_stay, same_lent}
use Rattle.script.proofs.Lendings.{enough}
use Rattle.roster.proofs.Decks.{SameRecord, is_kind_lem, as_kind, found_at, found_none, changes_at, one_changed, get_or-decoders, rest_none}

-- ---- the number of a variable

not_variable : (v : ℕ) → None ≡ if_number v → is_variable v ≡ false
not_variable v e =
    ⊎_elim
    (λ h. and_left (leb 1 v) (leb v 1024) (lt-leb 1 v (ltb-true v 1 h)))
    (λ h. ⊎_elim
    (λ k. and_right (leb 1 v) (leb v 1024) (lt-leb v 1024 (ltb-true 1024 v k)))
    (λ k. absurd (none-some v (e ∙ cond-false _ _ _ h ∙ cond-false _ _ _ k)))
    (cases_Bool (ltb 1024 v)))
    (cases_Bool (ltb v 1))

a_number : (v n : ℕ) → Some n ≡ if_number v → (n ≡ v) × (is_variable v ≡ true) × (1 ≤ v) × (v ≤ 1024)
a_number v n e =
    ⊎_elim
    (λ h. absurd (none-some n (sym (e ∙ cond-true _ _ _ h))))
    (λ h. ⊎_elim
    (λ k. absurd (none-some n (sym (e ∙ cond-false _ _ _ h ∙ cond-true _ _ _ k))))
    (λ k.
    let q : Some n ≡ Some v = e ∙ cond-false _ _ _ h ∙ cond-false _ _ _ k in
    let low = ltb-false v 1 h in
    let high = ltb-false 1024 v k in
    (cc, and_from (leb 1 v) (leb v 1024) (le-leb 1 v low) (le-leb v 1024 high), low, high))
    (cases_Bool (ltb 1024 v)))
    (cases_Bool (ltb v 1))

pub is_variable_lem : (v : ℕ) (cv : CvNumber) → Some cv.number ≡ if_number v → is_variable v ≡ true
is_variable_lem v cv e = (a_number v cv.number e).1

pub cv_number : (v : ℕ) (cv : CvNumber) → Some cv.number ≡ if_number v → cv.number ≡ v
cv_number v cv e = (a_number v cv.number e).0

pub cv_of_lem : (v : ℕ) (cv : CvNumber) → Some cv.number ≡ if_number v → cv_of v ≡ cv
cv_of_lem v cv e = let n = a_number v cv.number e in cv_is (cv_of v) cv (omega (arith, n.0, n.2, n.3))

-- by what is made of the number, and by the refusal where there is none
pub no_cv : (o : Option CvNumber) (v : ℕ) (r e : Refusal) → number_in o ≡ if_number v → Err e ≡ ok_or o r → (is_variable v ≡ false) × (e ≡ r)
no_cv (Some cv) v r e h q = absurd (true≢false (ap is_err q))
no_cv None v r e h q = (not_variable v h, cc)

pub a_cv : (o : Option CvNumber) (v : ℕ) (r : Refusal) (cv : CvNumber) → number_in o ≡ if_number v → Ok cv ≡ ok_or o r → Some cv.number ≡ if_number v
a_cv (Some d) v r cv h q = let same : cv ≡ d = cc in ap (λ (cv : CvNumber). Some cv.number) same ∙ h
a_cv None v r cv h q = absurd (true≢false (ap is_ok q))

pub read_in : {A : Type 0} (o : Option A) {p : Option A} {a r : Result A Fault} {e : Fault} → r ≡ ok_or o e → e ≡ refused_by NumberOutOfRange → o ≡ p → a ≡ in_range p → r ≡ a
read_in (Some x) v q s h = v ∙ ap in_range s ∙ sym h
read_in None v q s h = v ∙ ap Err q ∙ ap in_range s ∙ sym h

-- what a `?` passes on
pub passed_on : {A : Type 0} {a r : Result A Fault} {e : Fault} → IsErrAnd r (λ f. f ≡ e) → a ≡ Err e → r ≡ a
passed_on {r = r} i h = let p = err_from_is_err_and r i in p.1 ∙ ap Err p.2 ∙ sym h

pub no_cv_number : (o : Option CvNumber) (v : ℕ) (r e : Refusal) → number_in o ≡ if_number v → Err e ≡ ok_or o r → None ≡ if_number v
no_cv_number (Some cv) v r e h q = absurd (true≢false (ap is_err q))
no_cv_number None v r e h q = h

-- ---- answers

pub lent_is : {A : Type 0} (b : Bool) (r : Result A Fault) → b ≡ true → r ≡ when_lent b r
lent_is b r e = sym (cond-true b r (Err (refused_by LentTooShort)) e)

module _ (ks : List Kind) (l : Lent) (n : DecoderName) where
  pub about_none : {A : Type 0} (f : Decoder → Result A Fault) → SlotOf (is_kind ks n.kind) (length ks) n.number None → about f (decoder_of n (decoders ks l)) ≡ Err (refused_by NoSuchDecoder)
  about_none f h = ap (about f) (found_none ks l n h)

  pub about_some : {A : Type 0} (f : Decoder → Result A Fault) (s : ℕ) → SlotOf (is_kind ks n.kind) (length ks) n.number (Some s) → about f (decoder_of n (decoders ks l)) ≡ f (decoder_at ks l s)
  about_some f s h = ap (about f) (found_at ks l n s h)

-- ---- the slot of the decoder that is named

-- banks that are lent to be read hold what those hold of which they are a part
pub shared_is : {M : Type 0} (m : Ghosts M) (b : BanksMut) (r : Banks) (x : M) → r.mobiles.now ≡ b.mobiles.now → r.basics.now ≡ b.basics.now → r.extendeds.now ≡ b.extendeds.now → seen m r x ≡ held m b x
shared_is m b r x em eb ee = same_lent (held m b x) (seen m r x) (each _ em eb ee) refl refl

pub located_in : {M : Type 0} (m : Ghosts M) (b : BanksMut) (r : Banks) (x : M) (ks : List Kind) (n : DecoderName) (o : Result ℕ Fault) → r.mobiles.now ≡ b.mobiles.now → r.basics.now ≡ b.basics.now → r.extendeds.now ≡ b.extendeds.now → Located ks (seen m r x) n o → Located ks (held m b x) n o
located_in m b r x ks n o em eb ee = subst (λ l. Located ks l n o) (shared_is m b r x em eb ee)

-- nothing else to say than that enough is lent
abbrev done : Result (Unit {0}) Fault
done = Ok tt

pub enough_of : (b : Bool) (x : Unit {0}) → when_lent b done ≡ Ok x → b ≡ true
enough_of b x e = ⊎_elim (λ t. t) (λ f. absurd (true≢false (ap is_err (sym (cond-false _ _ _ f) ∙ e)))) (cases_Bool b)

too_short : {A B : Type 0} (b : Bool) (r : Result A Fault) (r' : Result B Fault) (e : Fault) → b ≡ false → when_lent b r ≡ Err e → when_lent b r' ≡ Err e
too_short {A} {B} b r r' e f h =
    let q : Err (refused_by LentTooShort) ≡ Err e = sym (cond-false b r (Err (refused_by LentTooShort)) f) ∙ h in
    let same : refused_by LentTooShort ≡ e = cc in
    cond-false _ _ _ f ∙ ap Err same

pub short_of : {B : Type 0} (b : Bool) (r : Result B Fault) (e : Fault) → when_lent b done ≡ Err e → when_lent b r ≡ Err e
short_of b r e h =
    ⊎_elim
    (λ t. absurd (true≢false (ap is_ok (sym (cond-true _ _ _ t) ∙ h))))
    (λ f. too_short b done r e f h)
    (cases_Bool b)

module _ (ks : List Kind) (l : Lent) (n : DecoderName) where
  pub located : (o : Option ℕ) (r : Result ℕ Fault) (e : Fault) → e ≡ refused_by NoSuchDecoder → is_lent ks l ≡ true → SlotOf (is_kind ks n.kind) (length ks) n.number o → r ≡ ok_or o e → Located ks l n r
  located (Some s) r e q is h q' = subst (Located ks l n) (sym q') (is, h)
  located None r e q is h q' = subst (Located ks l n) (sym q') (sym (lent_is (is_lent ks l) _ is) ∙ about_none ks l n (λ _. done) h ∙ ap Err (sym q))

  -- nothing changes by what cannot be asked
  pub unchanged : (g : Decoder → Decoder) (e : Fault) → Located ks l n (Err e) → decoders ks l ≡ after_by ks l (changed g n.kind n.number)
  unchanged g e h = ⊎_elim (λ t. go t (decoder_of n (decoders ks l)) refl (lent_is (is_lent ks l) _ t ∙ h)) (λ t. sym (cond-false _ _ _ t)) (cases_Bool (is_lent ks l))
    where
      go : is_lent ks l ≡ true → (o : Option Decoder) → decoder_of n (decoders ks l) ≡ o → about (λ _. done) o ≡ Err e → decoders ks l ≡ after_by ks l (changed g n.kind n.number)
      go t None q r = sym (cond-true _ _ _ t ∙ changed_missing g n.kind (decoders ks l) n.number q)
      go t (Some d) q r = absurd (true≢false (ap is_ok r))

  pub asked_at : {A : Type 0} (f : Decoder → Result A Fault) (s : ℕ) → Located ks l n (Ok s) → answer_of ks l n f ≡ f (decoder_at ks l s)
  asked_at f s h = sym (lent_is (is_lent ks l) _ h.0) ∙ about_some ks l n f s h.1

-- ---- the decoder that is named, where it was located

module _ (ks : List Kind) (l : Lent) (n : DecoderName) (s : ℕ) (h : Located ks l n (Ok s)) where
  pub slot_room : 1024 * s + 1024 ≤ length l.cells
  slot_room = omega (arith, (enough ks l h.0).cells, h.1.0)

  -- whatever the kind, its variables are the slot's window
  pub asked_window : {A : Type 0} (f : Decoder → Result A Fault) (g : List ℕ → Result A Fault) → ((d : Decoder) → f d ≡ g (variables_of d)) → answer_of ks l n f ≡ g (window l.cells s)
  unfolding decoder_at
  asked_window f g e = asked_at ks l n f s h ∙ e (decoder_at ks l s) ∙ ap g (variables_as (get_or ks s Mobile) _)

  module _ (k : Kind) (e : n.kind ≡ k) where
    pub as_slot : SlotOf (is_kind ks k) (length ks) n.number (Some s)
    as_slot = subst (λ k. SlotOf (is_kind ks k) (length ks) n.number (Some s)) e h.1

    pub has_record : n.number < bank_size k l
    has_record = omega (arith, count_less (is_kind ks k) s (length ks) as_slot.0 as_slot.1, as_slot.2, (enough ks l h.0).records k)

    pub asked_in : {A : Type 0} (f : Decoder → Result A Fault) (x : RecordOf k) → answer_of ks l n f ≡ f (decoder_as k (own (get_or (bank_of k l) n.number x) (window l.cells s)))
    asked_in f x =
        asked_at ks l n f s h
        ∙ ap f (as_kind ks l k s as_slot.1 ∙ ap (λ r. decoder_as k (own r (window l.cells s))) (ap (λ j. get_or (bank_of k l) j (spare_of k)) as_slot.2 ∙ get_or_default (bank_of k l) n.number (spare_of k) x has_record))

    -- its state, as it is copied out
    pub copied : (p : DecoderState) (x : RecordOf k) → (done ≡ answer_of ks l n (λ _. done)) × (state_of (decoder_as k (own (get_or (bank_of k l) n.number x) (window l.cells s))) ≡ place_after p (answer_of ks l n (λ d. Ok (state_of d))))
    copied p x = (sym (asked_at ks l n (λ _. done) s h), sym (ap (place_after p) (asked_in (λ d. Ok (state_of d)) x)))

  -- what only mobile decoders have is refused of others
  pub asked_other : (f : mobile-record.Mobile → Result Bool Fault) → (n.kind ≡ Basic) ⊎ (n.kind ≡ Extended) → answer_of ks l n (on_mobile f) ≡ Err (refused_by NoSuchDecoder)
  asked_other f = ⊎_elim (λ e. asked_in Basic e (on_mobile f) (spare_of Basic)) (λ e. asked_in Extended e (on_mobile f) (spare_of Extended))

-- ---- a setting

-- no cell beyond the slots is written
pub wrote_beyond : {cells cells' w : List ℕ} (n s : ℕ) → s < n → Wrote cells cells' s w → (k : ℕ) → 1024 * n ≤ k → get_or cells' k 0 ≡ get_or cells k 0
wrote_beyond {cells} {cells'} n s low wrote =
    kept_beyond (record { size = wrote.size; there = λ t no. wrote.there t (λ e. no (omega (arith, e)) (eq-eqb t s e)) })

-- into the slot s, whose decoder is the one with the number j of the kind k
module _ (ks : List Kind) (l l' : Lent) (k : Kind) (s j : ℕ) (cv : CvNumber) (x : ℕ) (h : SlotOf (is_kind ks k) (length ks) j (Some s)) where
  module _ (others : SameBanksBut k l l') (ch : ChangedAt j (rules_of k).unwaits (bank_of k l) (bank_of k l')) (wrote : Wrote l.cells l'.cells s (set (window l.cells s) (cv.number - 1) x)) where
    stays : (t : ℕ) → t ≢ s → (i : Kind) → SameRecord ks l l' t i
    stays t ne =
        one_and_others (SameRecord ks l l' t) k (λ e y. ch.there y (count_below (is_kind ks k) t) (λ q. count_apart (is_kind ks k) t s ne e h.1 (q ∙ sym h.2)))
        (λ i q e y. ap (λ bank. get_or bank (count_below (is_kind ks i) t) y) (others i q))

    there : (t : ℕ) → t ≢ s → decoder_at ks l' t ≡ decoder_at ks l t
    unfolding decoder_at
    there t ne = let i = get_or ks t Mobile in ap₂ (λ r w. decoder_as i (own r w)) (stays t ne i (is_kind_lem ks i t refl) (spare_of i)) (wrote.there t ne)

    here : decoder_at ks l' s ≡ lives (decoder_at ks l s) (setting cv x ∷ [])
    here =
        as_kind ks l' k s h.1
        ∙ ap₂ (λ r w. decoder_as k (own r w)) (subst (λ j. (y : RecordOf k) → get_or (bank_of k l') j y ≡ (rules_of k).unwaits (get_or (bank_of k l) j y)) (sym h.2) ch.here (spare_of k)) wrote.here
        ∙ sym (ap (λ d. lives d (setting cv x ∷ [])) (as_kind ks l k s h.1) ∙ lives_as k _ (setting cv x ∷ []))

    set_at : decoders ks l' ≡ set (decoders ks l) s (lives (decoder_at ks l s) (setting cv x ∷ []))
    set_at = one_changed ks l l' (λ d. lives d (setting cv x ∷ [])) s h.0 here (λ t low. there t)

    set_rest : l'.outside ≡ l.outside → Rest ks l l'
    set_rest outside = record {
      sizes = one_and_others (λ i. bank_size i l' ≡ bank_size i l) k ch.len (λ i q. ap length (others i q));
      size = wrote.size;
      records =
          one_and_others (λ i. (y : RecordOf i) (m : ℕ) → count_of ks i ≤ m → get_or (bank_of i l') m y ≡ get_or (bank_of i l) m y) k
          (λ y m past. ch.there y m (λ q. let c = count_less (is_kind ks k) s (length ks) h.0 h.1 in omega (arith, h.2)))
          (λ i q y m past. ap (λ bank. get_or bank m y) (others i q));
      cells = wrote_beyond (length ks) s h.0 wrote;
      outside = outside;
    }

-- a setting that is accepted, and one that is not
pub setting_at : (ks : List Kind) (l : Lent) (n : DecoderName) (s v x : ℕ) (cv : CvNumber) → SlotOf (is_kind ks n.kind) (length ks) n.number (Some s) → Some cv.number ≡ if_number v → set (decoders ks l) s (lives (decoder_at ks l s) (setting cv x ∷ [])) ≡ changed (λ d. lives d (events_of (Set v x))) n.kind n.number (decoders ks l)
setting_at ks l n s v x cv h e =
    ap (λ es. set (decoders ks l) s (lives (decoder_at ks l s) es)) (sym (cond-true _ _ _ (is_variable_lem v cv e) ∙ ap (λ cv. setting cv x ∷ []) (cv_of_lem v cv e)))
    ∙ sym (changes_at ks l n (λ d. lives d (events_of (Set v x))) s h)

pub no_setting : (ks : List Kind) (l : Lent) (n : DecoderName) (s v x : ℕ) → SlotOf (is_kind ks n.kind) (length ks) n.number (Some s) → None ≡ if_number v → decoders ks l ≡ changed (λ d. lives d (events_of (Set v x))) n.kind n.number (decoders ks l)
no_setting ks l n s v x h e =
    sym (changes_at ks l n (λ d. lives d (events_of (Set v x))) s h
    ∙ ap (λ es. set (decoders ks l) s (lives (decoder_at ks l s) es)) (cond-false _ _ _ (not_variable v e))
    ∙ ap (set (decoders ks l) s) (lives_none (decoder_at ks l s) ∙ sym (get_or-decoders ks l s (decoder_at ks l s) h.0))
    ∙ set-get_or (decoders ks l) s (decoder_at ks l s))

-- what a setting comes to
pub record Done (ks : List Kind) (l l' : Lent) (n : DecoderName) (v x : ℕ) (r : Result (Unit {0}) Fault) : Type 0 where
  pub answer : r ≡ answer_of ks l n (λ _. if_variable v tt)
  pub after : decoders ks l' ≡ after_by ks l (changed (λ d. lives d (events_of (Set v x))) n.kind n.number)
  pub rest : Rest ks l l'

module _ (ks : List Kind) (l : Lent) (n : DecoderName) (s : ℕ) (h : Located ks l n (Ok s)) (v x : ℕ) where
  pub set_nothing : (r : Result (Unit {0}) Fault) → is_variable v ≡ false → None ≡ if_number v → r ≡ Err (refused_by NumberOutOfRange) → Done ks l l n v x r
  set_nothing r none e q = record {
    answer = q ∙ sym (asked_at ks l n (λ _. if_variable v tt) s h ∙ cond-false _ _ _ none);
    after = no_setting ks l n s v x h.1 e ∙ sym (cond-true _ _ _ h.0);
    rest = rest_none;
  }

  -- into the bank of the kind
  module _ (cv : CvNumber) (e : Some cv.number ≡ if_number v) (k : Kind) (q : n.kind ≡ k) (xs : List (RecordOf k)) (cells : List ℕ) (outside : List Outside) (r : Result (Unit {0}) Fault) where
    abbrev l' : Lent
    l' = with_bank k xs cells outside l

    abbrev t : Bool
    t = is_there n.number s (bank_of k l) l.cells

    pub set_in : l'.outside ≡ l.outside → r ≡ unless_short t tt → (t ≡ true → ChangedAt n.number (rules_of k).unwaits (bank_of k l) (bank_of k l')) → (t ≡ true → Wrote l.cells l'.cells s (set (window l.cells s) (cv.number - 1) x)) → Done ks l l' n v x r
    set_in same a ch wrote =
        let fits = and_from _ _ (lt-ltb n.number (bank_size k l) (has_record ks l n s h k q)) (le-leb (1024 * s + 1024) (length l.cells) (slot_room ks l n s h)) in
        let others = others_stay k xs cells outside l in
        let at = as_slot ks l n s h k q in
        record {
          answer = a ∙ cond-true _ _ _ fits ∙ sym (asked_at ks l n (λ _. if_variable v tt) s h ∙ cond-true _ _ _ (is_variable_lem v cv e));
          after = set_at ks l l' k s n.number cv x at others (ch fits) (wrote fits) ∙ setting_at ks l n s v x cv h.1 e ∙ sym (cond-true _ _ _ h.0);
          rest = set_rest ks l l' k s n.number cv x at others (ch fits) (wrote fits) same;
        }

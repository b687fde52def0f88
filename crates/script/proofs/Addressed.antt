-- Which addresses are fitted, and why a fitting is refused. Assumes nothing.
use Rattle.std.proofs.Common.{◌≡◌, ℕ, suc, ◌+◌, ◌*◌, ◌<◌, ◌≤◌, Bool, true, false, cond, ◌&&◌, ltb, leb, ◌≢◌, ◌⊎◌, List, [], ◌∷◌, map, length, is_ok, Ok, Err, Result, refl, ap, ◌∙◌, ⊎_elim, arith, length-append}
use Rattle.std.proofs.lemmas.Bool.{true≢false, false≢true}
use Rattle.std.proofs.lemmas.Bool.Decides.{nat_tests}
use Rattle.fault.specs.declared.fault.Fault.{Fault}
use Rattle.fault.specs.declared.refusal.Refusal.TheVariants.{FittedAddress, BankFull, TooFewCells}
use Rattle.fault.specs.Places.{fault_at}
use Rattle.packet.specs.declared.cv.CvNumber.{CvNumber}
use Rattle.packet.specs.declared.instruction.Instruction.{Instruction}
use Rattle.packet.specs.declared.instruction.Instruction.TheVariants.{VerifyByte}
use Rattle.packet.specs.declared.target.Target.{Target}
use Rattle.packet.specs.declared.target.Target.TheVariants as target
use Rattle.format.specs.Writing.{Coded, form_of, head_of, joined, encoded}
use Rattle.decoder.specs.declared.role.Address.TheVariants.{Short, Long}
use Rattle.bank.specs.Kinds.{count_of}
use Rattle.script.specs.declared.fit.Fit.{Fit}
use Rattle.script.specs.declared.fit.Fit.TheVariants.{Mobile, Basic, Extended}
use Rattle.script.specs.Decoders.{refused_by}
use Rattle.script.specs.Boards.{Lent, bank_size}
use Rattle.script.specs.Fittings.{fit_kind, is_address, fitting, joining, accepted_after, fit_answers_after}
use Rattle.script.specs.Addresses.{target_of, IsOfOne, ok_count, FittingsAnswered}

-- what two parts make is no refusal where neither is one
joined_ok : (a b : Coded) → is_ok a ≡ true → is_ok b ≡ true → is_ok (joined a b) ≡ true
joined_ok (Ok x) (Ok y) e f = refl
joined_ok (Ok x) (Err y) e f = absurd (false≢true f)
joined_ok (Err x) b e f = absurd (false≢true e)

head_ok : (a b : Coded) → is_ok (joined a b) ≡ true → is_ok a ≡ true
head_ok (Ok x) b e = refl
head_ok (Err x) b e = absurd (false≢true e)

written : (f : Fit) (cv : CvNumber) (x : ℕ) → is_address f ≡ true → is_ok (encoded (target_of f) (VerifyByte cv x)) ≡ true
unfolding encoded
written (Mobile (Short a)) cv x e = joined_ok (head_of (target.Short a) (form_of (VerifyByte cv x))) _ (grind (arith, nat_tests)) refl
written (Mobile (Long a)) cv x e = joined_ok (head_of (target.Long a) (form_of (VerifyByte cv x))) _ (grind (arith, nat_tests)) refl
written (Basic a) cv x e = joined_ok (head_of (target.Basic a) (form_of (VerifyByte cv x))) _ (grind (arith, nat_tests)) refl
written (Extended a) cv x e = joined_ok (head_of (target.Extended a) (form_of (VerifyByte cv x))) _ (grind (arith, nat_tests)) refl

-- the address of an accessory decoder's target
abbrev address_in : Target → ℕ
address_in target.Idle = 0
address_in target.Broadcast = 0
address_in (target.Short a) = 0
address_in (target.Long a) = 0
address_in (target.Basic a) = a
address_in (target.Extended a) = a

of_one : (f : Fit) → is_address f ≡ true → IsOfOne (target_of f)
of_one (Mobile (Short a)) e = record { basic = λ h. let z : ◌≡◌ {A = ℕ} 0 1 = cc in omega arith; extended = λ h. let z : ◌≡◌ {A = ℕ} 0 1 = cc in omega arith }
of_one (Mobile (Long a)) e = record { basic = λ h. let z : ◌≡◌ {A = ℕ} 0 1 = cc in omega arith; extended = λ h. let z : ◌≡◌ {A = ℕ} 0 1 = cc in omega arith }
of_one (Basic a) e = record { basic = λ h. let z : a ≡ 511 = ap address_in h in grind (arith, nat_tests); extended = λ h. let z : ◌≡◌ {A = ℕ} 0 1 = cc in omega arith }
of_one (Extended a) e = record { basic = λ h. let z : ◌≡◌ {A = ℕ} 0 1 = cc in omega arith; extended = λ h. let z : a ≡ 2047 = ap address_in h in grind (arith, nat_tests) }

no_other : (f : Fit) (i : Instruction) → is_ok (encoded (target_of f) i) ≡ true → IsOfOne (target_of f) → is_address f ≡ true
unfolding encoded
no_other (Mobile (Short a)) i e h = let k = head_ok (head_of (target.Short a) (form_of i)) _ e in grind (arith, nat_tests)
no_other (Mobile (Long a)) i e h = let k = head_ok (head_of (target.Long a) (form_of i)) _ e in grind (arith, nat_tests)
no_other (Basic a) i e h =
    let k = head_ok (head_of (target.Basic a) (form_of i)) _ e in
    let ne : a ≢ 511 = λ f. h.basic (ap target.Basic f) in
    grind (arith, nat_tests)
no_other (Extended a) i e h =
    let k = head_ok (head_of (target.Extended a) (form_of i)) _ e in
    let ne : a ≢ 2047 = λ f. h.extended (ap target.Extended f) in
    grind (arith, nat_tests)

-- the tests of a fitting in their order
module _ (n c places cells : ℕ) where
  abbrev tests : Bool → Result ℕ Fault
  tests a = cond a (cond (ltb n 32 && ltb c places) (cond (leb (1024 * n + 1024) cells) (Ok c) (Err (refused_by TooFewCells))) (Err (refused_by BankFull))) (Err (refused_by FittedAddress))

  no_slot : (a : Bool) → a ≡ true → (32 ≤ n) ⊎ (places ≤ c) → tests a ≡ Err (fault_at BankFull 0)
  no_slot true e h = ⊎_elim (λ l. grind (arith, nat_tests)) (λ l. grind (arith, nat_tests)) h
  no_slot false e h = absurd (false≢true e)

  no_cells : (a : Bool) → a ≡ true → n < 32 → c < places → cells < 1024 * (n + 1) → tests a ≡ Err (fault_at TooFewCells 0)
  no_cells true e l m h = grind (arith, nat_tests)
  no_cells false e l m h = absurd (false≢true e)

  room : (a : Bool) → a ≡ true → n < 32 → c < places → 1024 * (n + 1) ≤ cells → tests a ≡ Ok c
  room true e l m h = grind (arith, nat_tests)
  room false e l m h = absurd (false≢true e)

  no_address : (a : Bool) → a ≡ false → tests a ≡ Err (fault_at FittedAddress 0)
  no_address true e = absurd (true≢false e)
  no_address false e = refl

-- a list of fittings
joined_length : (fs : List Fit) (f : Fit) (r : Result ℕ Fault) → length (joining fs f r) ≡ length fs + cond (is_ok r) 1 0
joined_length fs f (Ok j) = length-append fs (f ∷ [])
joined_length fs f (Err e) = omega arith

module _ (l : Lent) where
  each_answered : (done fs : List Fit) → length (fit_answers_after l done fs) ≡ length fs
  each_answered done [] = refl
  each_answered done (f ∷ fs) = ap suc (each_answered (joining done f (fitting l (map fit_kind done) f)) fs)

  as_many : (done fs : List Fit) → length (accepted_after l done fs) ≡ length done + ok_count (fit_answers_after l done fs)
  as_many done [] = omega arith
  as_many done (f ∷ fs) =
      let r = fitting l (map fit_kind done) f in
      omega (arith, as_many (joining done f r) fs, joined_length done f r)

pub fittings_answered : FittingsAnswered
fittings_answered = record {
  addresses = record { written = written; of_one = of_one; no_other = no_other };
  address = λ l ks f e. no_address (length ks) (count_of ks (fit_kind f)) (bank_size (fit_kind f) l) (length l.cells) (is_address f) e;
  slot = λ l ks f e h. no_slot (length ks) (count_of ks (fit_kind f)) (bank_size (fit_kind f) l) (length l.cells) (is_address f) e h;
  cells = λ l ks f e s h. no_cells (length ks) (count_of ks (fit_kind f)) (bank_size (fit_kind f) l) (length l.cells) (is_address f) e s.0 s.1 h;
  number = λ l ks f e s h. room (length ks) (count_of ks (fit_kind f)) (bank_size (fit_kind f) l) (length l.cells) (is_address f) e s.0 s.1 h;
  each = λ l fs. each_answered l [] fs;
  fitted = λ l fs. as_many l [] fs ∙ omega arith;
}

-- What cannot be written is refused as a field or an instruction that does not fit, or for want of place. Assumes nothing.
use Rattle.std.proofs.Common.{◌≡◌, ℕ, List, [], Ok, Err, Result, sym, refl, ◌∙◌, arith}
use Rattle.std.proofs.lemmas.Bool.Decides.{nat_tests}
use Rattle.fault.specs.declared.fault.Fault.{Fault}
use Rattle.fault.specs.declared.refusal.Refusal.{Refusal}
use Rattle.fault.specs.declared.refusal.Refusal.TheVariants.{FieldOutOfRange}
use Rattle.packet.specs.declared.target.Target.{Target}
use Rattle.packet.specs.declared.instruction.Instruction.{Instruction}
use Rattle.packet.specs.declared.instruction.Instruction.TheVariants.{Functions}
use Rattle.packet.specs.declared.instruction.FunctionGroup.{FunctionGroup}
use Rattle.format.specs.Writing.{Coded, Form, form_of, function_bytes, head_of, body_of, joined, encoded, answer}
use Rattle.format.specs.Writing.Form.{nothing, mobile_only, anyone, output, aspect}
use Rattle.format.specs.Laws.{IsWhy, Unwritten}
use Rattle.format.proofs.Nowhere.{placeless}

head_unfit : (t : Target) (f : Form) (e : Refusal) → head_of t f ≡ Err e → e ≡ FieldOutOfRange
head_unfit t f e h = grind (arith, nat_tests)

function_unfit : (g : FunctionGroup) (bits : ℕ) (e : Refusal) → function_bytes g bits ≡ Err e → e ≡ FieldOutOfRange
function_unfit g bits e h = grind (arith, nat_tests)

-- the bytes that a form comes with, if it does
abbrev carried : Form → Coded
carried nothing = Ok []
carried (mobile_only bs) = bs
carried (anyone bs) = bs
carried (output number on) = Ok []
carried (aspect number) = Ok []

form_unfit : (i : Instruction) (e : Refusal) → carried (form_of i) ≡ Err e → e ≡ FieldOutOfRange
form_unfit (Functions g bits) e h = function_unfit g bits e h
form_unfit _ e h = grind (arith, nat_tests)

body_unfit : (t : Target) (f : Form) → ((d : Refusal) → carried f ≡ Err d → d ≡ FieldOutOfRange) → (e : Refusal) → body_of t f ≡ Err e → e ≡ FieldOutOfRange
body_unfit t (mobile_only (Err d)) k e h = let q = k d refl in grind (arith, nat_tests)
body_unfit t (anyone (Err d)) k e h = let q = k d refl in grind (arith, nat_tests)
body_unfit t _ k e h = grind (arith, nat_tests)

joined_unfit : (x y : Coded) → ((e : Refusal) → x ≡ Err e → e ≡ FieldOutOfRange) → ((e : Refusal) → y ≡ Err e → e ≡ FieldOutOfRange) → (e : Refusal) → joined x y ≡ Err e → e ≡ FieldOutOfRange
joined_unfit (Err d) y h k e j = h e j
joined_unfit (Ok a) (Err d) h k e j = k e j
joined_unfit (Ok a) (Ok b) h k e j = absurd (grind arith)

unfit_lem : (t : Target) (i : Instruction) (e : Refusal) → encoded t i ≡ Err e → e ≡ FieldOutOfRange
unfolding encoded
unfit_lem t i e h = joined_unfit (head_of t (form_of i)) (body_of t (form_of i)) (head_unfit t (form_of i)) (body_unfit t (form_of i) (form_unfit i)) e h

answer_refused :
    (x : Coded) (place : List ℕ) (f : Fault)
    → ((d : Refusal) → x ≡ Err d → d ≡ FieldOutOfRange)
    → placeless (answer x place) ≡ Err f
    → IsWhy x place f
answer_refused (Err d) place f h a = let q = h d refl in grind arith
answer_refused (Ok bs) place f h a = grind (arith, nat_tests)

pub unwritten :
    (t : Target) (i : Instruction) (place : List ℕ) (r : Result ℕ Fault)
    → r ≡ placeless (answer (encoded t i) place)
    → Unwritten t i place r
unwritten t i place r q f a = answer_refused (encoded t i) place f (unfit_lem t i) (sym q ∙ a)

-- Whole packets: what is written reads as itself. Assumes nothing.
use Rattle.std.proofs.Common.{◌≡◌, ℕ, ◌+◌, ◌-◌, ◌<◌, ◌≤◌, ltb, List, [], ◌∷◌, ◌++◌, length, Ok, Err, sym, refl, ap, ◌∙◌, subst, arith}
use Rattle.std.proofs.lemmas.List.{take_at, length-append}
use Rattle.std.proofs.lemmas.Bool.{cond_both}
use Rattle.std.proofs.lemmas.Bool.Decides.{nat_tests}
use Rattle.packet.specs.declared.target.Target.{Target}
use Rattle.packet.specs.declared.target.Target.TheVariants.{Idle, Broadcast, Short, Long, Basic, Extended}
use Rattle.packet.specs.declared.instruction.Instruction.{Instruction}
use Rattle.packet.specs.declared.instruction.Instruction.TheVariants.{NoOperation, Consist, Speed, Speed126, Functions, BinaryStateShort, BinaryStateLong, VerifyBit, WriteBit, Output, Aspect}
use Rattle.packet.specs.declared.instruction.FunctionGroup.{FunctionGroup}
use Rattle.packet.specs.declared.instruction.FunctionGroup.TheVariants.{F0ToF4, F5ToF8, F9ToF12}
use Rattle.fault.specs.declared.refusal.Refusal.TheVariants.{FieldOutOfRange}
use Rattle.packet.specs.Parity.{parity, sealed}
use Rattle.format.specs.Reading.{packet_of, long, accessory, addressed, front, packet_read}
use Rattle.format.specs.Writing.{Coded, Form, form_of, idle_body, mobile_body, basic_body, extended_body, body_of, output_bits, basic_second, head_of, below, function_bytes, joined, encoded}
use Rattle.format.specs.Writing.Form.{nothing, mobile_only, anyone, output, aspect}
use Rattle.format.proofs.Backs.{mobile_back, basic_back, extended_back}
use Rattle.packet.proofs.Parities.{parity-sealed}

-- the two parts of a packet
record Parts (x y : Coded) (bs : List ℕ) : Type 0 where
  head : List ℕ
  body : List ℕ
  head_is : x ≡ Ok head
  body_is : y ≡ Ok body
  whole : sealed (head ++ body) ≡ bs

parts : (x y : Coded) (bs : List ℕ) → joined x y ≡ Ok bs → Parts x y bs
parts (Ok h) (Ok b) bs e = record { head = h; body = b; head_is = refl; body_is = refl; whole = cc }
parts _ _ bs e = grind arith

idle_only : (i : Instruction) (b : List ℕ) → idle_body (form_of i) ≡ Ok b → (i ≡ NoOperation) × (b ≡ [])
idle_only NoOperation b e = (refl, cc)
idle_only _ b e = grind (arith, nat_tests)

output_bits_lem : (f : Form) → output_bits f < 16
output_bits_lem f = grind (arith, nat_tests)

addressed_back : (t : Target) (i : Instruction) (h b : List ℕ) → head_of t (form_of i) ≡ Ok h → body_of t (form_of i) ≡ Ok b → addressed (h ++ b) ≡ Ok (packet_of t i)
unfolding addressed long accessory
addressed_back Idle i h b e g = let o = idle_only i b g in grind (arith, nat_tests)
addressed_back Broadcast i h b e g = let m = mobile_back i b g in grind (arith, nat_tests)
addressed_back (Short address) i h b e g = let m = mobile_back i b g in grind (arith, nat_tests)
addressed_back (Long address) i h b e g = let m = mobile_back i b g in grind (arith, nat_tests)
addressed_back (Basic address) i h b e g =
    let o = output_bits_lem (form_of i) in
    let m = basic_back i (basic_second address (output_bits (form_of i))) b (omega arith) g in
    grind (arith, nat_tests)
addressed_back (Extended address) i h b e g = let m = extended_back i b g in grind (arith, nat_tests)

-- how many bytes stand before the instruction
abbrev pub head_length : Target → ℕ
head_length Idle = 2
head_length Broadcast = 1
head_length (Short address) = 1
head_length (Long address) = 2
head_length (Basic address) = 2
head_length (Extended address) = 2

head_short : (t : Target) → head_length t ≤ 2
head_short t = grind arith

head_length_lem : (t : Target) (f : Form) (h : List ℕ) → head_of t f ≡ Ok h → length h ≡ head_length t
head_length_lem t f h e = grind (arith, nat_tests)

-- an instruction has at most three bytes, and to a mobile decoder at least one
abbrev Sized : Coded → Type 0
Sized (Ok bs) = (1 ≤ length bs) × (length bs ≤ 3)
Sized (Err e) = Unit {0}

abbrev SizedForm : Form → Type 0
SizedForm nothing = Unit {0}
SizedForm (mobile_only bs) = Sized bs
SizedForm (anyone bs) = Sized bs
SizedForm (output number on) = Unit {0}
SizedForm (aspect number) = Unit {0}

below_sized : (field limit : ℕ) (bs : List ℕ) → 1 ≤ length bs → length bs ≤ 3 → Sized (below field limit bs)
below_sized field limit bs l m = cond_both (ltb field limit) (Ok bs) (Err FieldOutOfRange) Sized (λ _. (l, m)) (λ _. tt)

functions_sized : (g : FunctionGroup) (bits : ℕ) → Sized (function_bytes g bits)
functions_sized F0ToF4 bits = below_sized bits 32 _ (omega arith) (omega arith)
functions_sized F5ToF8 bits = below_sized bits 16 _ (omega arith) (omega arith)
functions_sized F9ToF12 bits = below_sized bits 16 _ (omega arith) (omega arith)
functions_sized _ bits = (omega arith, omega arith)

form_sized : (i : Instruction) → SizedForm (form_of i)
form_sized NoOperation = tt
form_sized (Consist reversed address) = below_sized address 128 _ (omega arith) (omega arith)
form_sized (Speed forward code) = below_sized code 32 _ (omega arith) (omega arith)
form_sized (Speed126 forward code) = below_sized code 128 _ (omega arith) (omega arith)
form_sized (Functions group bits) = functions_sized group bits
form_sized (BinaryStateShort on number) = below_sized number 128 _ (omega arith) (omega arith)
form_sized (BinaryStateLong on number) = below_sized number 32768 _ (omega arith) (omega arith)
form_sized (VerifyBit cv bit value) = below_sized bit 8 _ (omega arith) (omega arith)
form_sized (WriteBit cv bit value) = below_sized bit 8 _ (omega arith) (omega arith)
form_sized (Output number on) = tt
form_sized (Aspect number) = tt
form_sized _ = (omega arith, omega arith)

sized_ok : (x : Coded) (bs : List ℕ) → Sized x → x ≡ Ok bs → (1 ≤ length bs) × (length bs ≤ 3)
sized_ok x bs s e = subst Sized e s

-- the whole without its error byte has two to five bytes
mobile-length : (f : Form) (b : List ℕ) → SizedForm f → mobile_body f ≡ Ok b → (1 ≤ length b) × (length b ≤ 3)
mobile-length (mobile_only bs) b s e = sized_ok bs b s e
mobile-length (anyone bs) b s e = sized_ok bs b s e
mobile-length _ b s e = grind (arith, nat_tests)

basic-length : (f : Form) (b : List ℕ) → SizedForm f → basic_body f ≡ Ok b → length b ≤ 3
basic-length (anyone bs) b s e = (sized_ok bs b s e).1
basic-length _ b s e = grind (arith, nat_tests)

extended-length : (f : Form) (b : List ℕ) → SizedForm f → extended_body f ≡ Ok b → length b ≤ 3
extended-length (anyone bs) b s e = (sized_ok bs b s e).1
extended-length _ b s e = grind (arith, nat_tests)

body_length : (t : Target) (f : Form) (b : List ℕ) → SizedForm f → body_of t f ≡ Ok b → (2 ≤ head_length t + length b) × (length b ≤ 3)
body_length Idle f b s e = grind (arith, nat_tests)
body_length Broadcast f b s e = let l = mobile-length f b s e in (omega arith, l.1)
body_length (Short address) f b s e = let l = mobile-length f b s e in (omega arith, l.1)
body_length (Long address) f b s e = let l = mobile-length f b s e in (omega arith, l.1)
body_length (Basic address) f b s e = (omega arith, basic-length f b s e)
body_length (Extended address) f b s e = (omega arith, extended-length f b s e)

front-sealed : (bs : List ℕ) → front (sealed bs) ≡ bs
front-sealed bs =
    let l : length bs ≡ length (sealed bs) - 1 = simp length-append (omega arith) in
    take_at bs (parity bs ∷ []) (length (sealed bs) - 1) l

sealed_reads : (bs : List ℕ) → 2 ≤ length bs → length bs ≤ 5 → packet_read (sealed bs) ≡ addressed bs
sealed_reads bs l m =
    let f = front-sealed bs in
    let p = parity-sealed bs in
    let n : length (sealed bs) ≡ length bs + 1 = length-append bs (parity bs ∷ []) in
    grind (arith, nat_tests)

pub written_reads : (t : Target) (i : Instruction) (bs : List ℕ) → encoded t i ≡ Ok bs → packet_read bs ≡ Ok (packet_of t i)
unfolding encoded
written_reads t i bs e =
    let p = parts (head_of t (form_of i)) (body_of t (form_of i)) bs e in
    let h = head_length_lem t (form_of i) p.head p.head_is in
    let b = body_length t (form_of i) p.body (form_sized i) p.body_is in
    let k = head_short t in
    let n = length-append p.head p.body in
    ap packet_read (sym p.whole) ∙ sealed_reads (p.head ++ p.body) (omega arith) (omega arith)
    ∙ addressed_back t i p.head p.body p.head_is p.body_is

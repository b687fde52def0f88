-- What is written reads as itself. Assumes nothing.
use Rattle.std.proofs.Common.{◌≡◌, ℕ, ◌+◌, ◌*◌, ◌%◌, ◌<◌, List, Ok, arith}
use Rattle.std.proofs.lemmas.Bool.Decides.{nat_tests}
use Rattle.packet.specs.declared.cv.CvNumber.{CvNumber}
use Rattle.packet.specs.declared.instruction.FunctionGroup.TheVariants.{F0ToF4}
use Rattle.packet.specs.declared.instruction.Instruction.{Instruction}
use Rattle.packet.specs.declared.instruction.Instruction.TheVariants.{Functions, VerifyByte, WriteByte, VerifyBit, WriteBit}
use Rattle.packet.specs.Wires.{wire_of, wire_bytes, cv_at}
use Rattle.format.specs.Reading.{mobile, cv_access, basic, extended}
use Rattle.format.specs.Writing.{form_of, cv_body, mobile_body, basic_body, extended_body, output_bits}
use Rattle.packet.proofs.Cvs.{cv_is}

-- the variable at the address that it was written by, whatever lies above the two lowest bits
cv_back :
    (cv : CvNumber) (k : ℕ)
    → cv_at (4 * k + (wire_bytes (wire_of cv)).0) (wire_bytes (wire_of cv)).1 ≡ cv
cv_back cv k =
    let upper = (wire_bytes (wire_of cv)).0 in
    let lower = (wire_bytes (wire_of cv)).1 in
    cv_is (cv_at (4 * k + upper) lower) cv (omega (arith, cv.least, cv.most))

cv_upper : (cv : CvNumber) → (wire_bytes (wire_of cv)).0 < 4
cv_upper cv = omega (arith, cv.least, cv.most)

pub access_back : (i : Instruction) (bs : List ℕ) → cv_body (form_of i) ≡ Ok bs → cv_access bs ≡ Ok i
unfolding cv_access
access_back (VerifyByte cv value) bs e = let f = cv_back cv 57 in let u = cv_upper cv in grind (arith, nat_tests)
access_back (WriteByte cv value) bs e = let f = cv_back cv 59 in let u = cv_upper cv in grind (arith, nat_tests)
access_back (VerifyBit cv bit value) bs e = let f = cv_back cv 58 in let u = cv_upper cv in grind (arith, nat_tests)
access_back (WriteBit cv bit value) bs e = let f = cv_back cv 58 in let u = cv_upper cv in grind (arith, nat_tests)
access_back _ bs e = grind (arith, nat_tests)

-- what a long-form instruction says to an accessory decoder it says to a mobile one
access_mobile : (bs : List ℕ) (i : Instruction) → cv_access bs ≡ Ok i → mobile bs ≡ Ok i
unfolding cv_access mobile
access_mobile bs i e = grind (arith, nat_tests)

pub mobile_back : (i : Instruction) (bs : List ℕ) → mobile_body (form_of i) ≡ Ok bs → mobile bs ≡ Ok i
unfolding mobile
mobile_back (Functions F0ToF4 bits) bs e = grind (arith, nat_tests)
mobile_back (VerifyByte cv value) bs e = access_mobile bs (VerifyByte cv value) (access_back (VerifyByte cv value) bs e)
mobile_back (WriteByte cv value) bs e = access_mobile bs (WriteByte cv value) (access_back (WriteByte cv value) bs e)
mobile_back (VerifyBit cv bit value) bs e = access_mobile bs (VerifyBit cv bit value) (access_back (VerifyBit cv bit value) bs e)
mobile_back (WriteBit cv bit value) bs e = access_mobile bs (WriteBit cv bit value) (access_back (WriteBit cv bit value) bs e)
mobile_back _ bs e = grind (arith, nat_tests)

basic_access : (head : ℕ) (bs : List ℕ) (i : Instruction) → head % 16 ≡ 0 → cv_access bs ≡ Ok i → basic head bs ≡ Ok i
unfolding cv_access
basic_access head bs i h e = grind (arith, nat_tests)

-- behind a basic head whose low four bits are those of the instruction
pub basic_back : (i : Instruction) (head : ℕ) (bs : List ℕ) → head % 16 ≡ output_bits (form_of i) → basic_body (form_of i) ≡ Ok bs → basic head bs ≡ Ok i
basic_back (VerifyByte cv value) head bs h e = basic_access head bs _ h (access_back (VerifyByte cv value) bs e)
basic_back (WriteByte cv value) head bs h e = basic_access head bs _ h (access_back (WriteByte cv value) bs e)
basic_back (VerifyBit cv bit value) head bs h e = basic_access head bs _ h (access_back (VerifyBit cv bit value) bs e)
basic_back (WriteBit cv bit value) head bs h e = basic_access head bs _ h (access_back (WriteBit cv bit value) bs e)
basic_back _ head bs h e = grind (arith, nat_tests)

extended_access : (bs : List ℕ) (i : Instruction) → cv_access bs ≡ Ok i → extended bs ≡ Ok i
unfolding cv_access extended
extended_access bs i e = grind (arith, nat_tests)

pub extended_back : (i : Instruction) (bs : List ℕ) → extended_body (form_of i) ≡ Ok bs → extended bs ≡ Ok i
unfolding extended
extended_back (VerifyByte cv value) bs e = extended_access bs _ (access_back (VerifyByte cv value) bs e)
extended_back (WriteByte cv value) bs e = extended_access bs _ (access_back (WriteByte cv value) bs e)
extended_back (VerifyBit cv bit value) bs e = extended_access bs _ (access_back (VerifyBit cv bit value) bs e)
extended_back (WriteBit cv bit value) bs e = extended_access bs _ (access_back (WriteBit cv bit value) bs e)
extended_back _ bs e = grind (arith, nat_tests)

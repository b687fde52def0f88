-- The number of a configuration variable, and the address by which packets name it.
use Rattle.std.specs.Prelude.{ℕ, ◌+◌, ◌-◌, ◌*◌, ◌/◌, ◌%◌, cond, Some, None, Option, nat_lt}
use Rattle.std.proofs.Common.{arith}
use Rattle.packet.specs.declared.cv.CvNumber.{CvNumber}
use Rattle.packet.specs.declared.cv.WireAddress.{WireAddress}

-- the number is the wire address plus one
abbrev pub number_of : WireAddress → CvNumber
number_of w = record { number = w.address + 1; least = omega arith; most = omega (arith, w.bound) }

abbrev pub wire_of : CvNumber → WireAddress
wire_of cv = record { address = cv.number - 1; bound = omega (arith, cv.least, cv.most) }

-- the two lowest bits of one byte lead, and all of another follow
abbrev pub wire_at : ℕ → ℕ → WireAddress
wire_at first second = record { address = 256 * (first % 4) + second % 256; bound = omega arith }

abbrev pub wire_bytes : WireAddress → ℕ × ℕ
wire_bytes w = (w.address / 256, w.address % 256)

-- the variable that a long-form instruction names by its first two bytes
abbrev pub cv_at : ℕ → ℕ → CvNumber
cv_at first second = number_of (wire_at first second)

-- the number in an answer
abbrev pub number_in : Option CvNumber → Option ℕ
number_in (Some cv) = Some cv.number
number_in None = None

-- a number that a variable has
abbrev pub if_number : ℕ → Option ℕ
if_number n = cond (nat_lt n 1) None (cond (nat_lt 1024 n) None (Some n))

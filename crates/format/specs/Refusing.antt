-- Why a packet is refused, in the format's own words: the causes in their order, each a test of the bytes.
use Rattle.std.specs.Prelude.{ℕ, ◌%◌, Bool, true, cond, not, ◌&&◌, ◌||◌, List, [], ◌∷◌, length, drop, Some, None, Option, ◌==◌, nat_le, nat_lt, slice_index}
use Rattle.fault.specs.declared.refusal.Refusal.{Refusal}
use Rattle.fault.specs.declared.refusal.Refusal.TheVariants.{PacketLength, ErrorByte, ReservedAddress, AdvancedFormat, IdleForm, NoInstruction, ReservedInstruction, InstructionLength, AccessoryHead}
use Rattle.packet.specs.Parity.{parity}
use Rattle.format.specs.Reading.{front, is_extended_head}

abbrev pub within : ℕ → ℕ → ℕ → Bool
within from to b = nat_le from b && nat_le b to

abbrev pub byte : ℕ → List ℕ → ℕ
byte k bs = slice_index bs k

-- the forms of an instruction: the first bytes that begin one, and how many bytes it has
pub record Shape : Type 0 where
  pub from : ℕ
  pub to : ℕ
  pub size : ℕ

abbrev pub shape : ℕ → ℕ → ℕ → Shape
shape from to size = record { from = from; to = to; size = size }

-- the long form: verify, bit operation, write
abbrev pub cv_forms : List Shape
cv_forms = shape 0xe4 0xef 3 ∷ []

-- to an extended accessory decoder: an aspect too
abbrev pub aspect_forms : List Shape
aspect_forms = shape 0x00 0x1f 1 ∷ cv_forms

-- to a mobile decoder: resets, addressing, acknowledgment request, consist, speeds, function groups one and two,
-- long binary state, functions from F13 and short binary state, the two adjustments, the long form
abbrev pub mobile_forms : List Shape
mobile_forms =
    shape 0x00 0x01 1 ∷ shape 0x0a 0x0b 1 ∷ shape 0x0f 0x0f 1 ∷ shape 0x12 0x13 2 ∷ shape 0x3f 0x3f 2 ∷ shape 0x40 0xbf 1
    ∷ shape 0xc0 0xc0 3 ∷ shape 0xd8 0xdf 2 ∷ shape 0xf2 0xf3 2 ∷ cv_forms

-- how many bytes the form has that begins with b; 0 where none does
abbrev pub size_in : List Shape → ℕ → ℕ
size_in [] b = 0
size_in (r ∷ rs) b = cond (within r.from r.to b) r.size (size_in rs b)

-- the tests of an instruction among some forms: its first byte begins none; its length is another; a later byte has a
-- reserved value
abbrev pub no_form : List Shape → List ℕ → Bool
no_form forms is = size_in forms (byte 0 is) == 0

abbrev pub wrong_size : List Shape → List ℕ → Bool
wrong_size forms is = not (length is == size_in forms (byte 0 is))

-- a bit operation ends in 111xxxxx
abbrev pub reserved_bits : List ℕ → Bool
reserved_bits is = within 0xe8 0xeb (byte 0 is) && nat_lt (byte 2 is) 0xe0

-- bit 7 of a consist address is zero
abbrev pub reserved_consist : List ℕ → Bool
reserved_consist is = within 0x12 0x13 (byte 0 is) && nat_le 0x80 (byte 1 is)

abbrev pub Cause : Type 0
Cause = Bool × Refusal

abbrev pub first_cause : List Cause → Option Refusal
first_cause [] = None
first_cause (c ∷ cs) = cond c.0 (Some c.1) (first_cause cs)

abbrev pub mobile_causes : List ℕ → List Cause
mobile_causes is =
    (no_form mobile_forms is, ReservedInstruction) ∷ (wrong_size mobile_forms is, InstructionLength)
    ∷ (reserved_consist is || reserved_bits is, ReservedInstruction) ∷ []

-- behind a basic head: nothing, or where its low four bits are zero a long form
abbrev pub basic_causes : ℕ → List ℕ → List Cause
basic_causes head is =
    (not (length is == 0) && not (head % 16 == 0), InstructionLength)
    ∷ (not (length is == 0) && no_form cv_forms is, ReservedInstruction)
    ∷ (not (length is == 0) && wrong_size cv_forms is, InstructionLength)
    ∷ (reserved_bits is, ReservedInstruction) ∷ []

-- behind an extended head: an aspect or a long form
abbrev pub extended_causes : List ℕ → List Cause
extended_causes is =
    ((length is == 0), InstructionLength) ∷ (no_form aspect_forms is, ReservedInstruction)
    ∷ (wrong_size aspect_forms is, InstructionLength) ∷ (reserved_bits is, ReservedInstruction) ∷ []

abbrev pub accessory_causes : List ℕ → List Cause
accessory_causes xs =
    cond (nat_le 0x80 (byte 1 xs)) (basic_causes (byte 1 xs) (drop 2 xs))
    (cond (is_extended_head (byte 1 xs)) (extended_causes (drop 2 xs)) ((true, AccessoryHead) ∷ []))

-- by the first byte, the bytes before the error byte
abbrev pub address_causes : List ℕ → List Cause
address_causes xs =
    cond (nat_lt (byte 0 xs) 0x80) (mobile_causes (drop 1 xs))
    (cond (within 0x80 0xbf (byte 0 xs)) (accessory_causes xs)
    (cond (within 0xc0 0xe7 (byte 0 xs)) (((length xs == 2), NoInstruction) ∷ mobile_causes (drop 2 xs))
    ((within 0xe8 0xfc (byte 0 xs), ReservedAddress) ∷ (within 0xfd 0xfe (byte 0 xs), AdvancedFormat)
    ∷ (not (length xs == 2 && byte 1 xs == 0x00), IdleForm) ∷ [])))

abbrev pub causes : List ℕ → List Cause
causes bs =
    (not (within 3 6 (length bs)), PacketLength) ∷ (not (parity bs == 0), ErrorByte) ∷ address_causes (front bs)

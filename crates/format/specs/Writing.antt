-- How a packet is written.
use Rattle.std.specs.Prelude.{ℕ, ◌+◌, ◌-◌, ◌*◌, ◌/◌, ◌%◌, Bool, cond, List, [], ◌∷◌, ◌++◌, length, drop, Ok, Err, Result, ◌==◌, nat_lt}
use Rattle.fault.specs.declared.refusal.Refusal.{Refusal}
use Rattle.fault.specs.declared.refusal.Refusal.TheVariants.{FieldOutOfRange, PlaceTooShort}
use Rattle.packet.specs.declared.cv.CvNumber.{CvNumber}
use Rattle.packet.specs.declared.target.Target.{Target}
use Rattle.packet.specs.declared.target.Target.TheVariants.{Idle, Broadcast, Short, Long, Basic, Extended}
use Rattle.packet.specs.declared.instruction.FunctionGroup.{FunctionGroup}
use Rattle.packet.specs.declared.instruction.FunctionGroup.TheVariants.{F0ToF4, F5ToF8, F9ToF12, F13ToF20, F21ToF28, F29ToF36, F37ToF44, F45ToF52, F53ToF60, F61ToF68}
use Rattle.packet.specs.declared.instruction.Instruction.{Instruction}
use Rattle.packet.specs.declared.instruction.Instruction.TheVariants.{NoOperation, Reset, HardReset, AdvancedAddressing, AcknowledgmentRequest, Consist, Speed, Speed126, Functions, BinaryStateShort, BinaryStateLong, AccelerationAdjustment, DecelerationAdjustment, VerifyByte, WriteByte, VerifyBit, WriteBit, Output, Aspect}
use Rattle.packet.specs.Parity.{sealed}
use Rattle.packet.specs.Wires.{wire_of, wire_bytes}

abbrev pub Coded : Type 0
Coded = Result (List ℕ) Refusal

-- an instruction that is not for its target
abbrev pub unfit : Coded
unfit = Err FieldOutOfRange

-- the bytes, if the field is below its limit
abbrev pub below : ℕ → ℕ → List ℕ → Coded
below field limit bs = cond (nat_lt field limit) (Ok bs) unfit

-- a bit of a byte, by its weight
abbrev pub flag : Bool → ℕ → ℕ
flag on weight = cond on weight 0

-- a long-form instruction: the wire address in the low bits of its first byte and in its second
abbrev pub at_cv : ℕ → CvNumber → ℕ → List ℕ
at_cv first cv last = (first + (wire_bytes (wire_of cv)).0) ∷ (wire_bytes (wire_of cv)).1 ∷ last ∷ []

abbrev pub at_bit : ℕ → CvNumber → ℕ → Bool → Coded
at_bit form cv bit value = below bit 8 (at_cv 0xe8 cv (form + flag value 8 + bit))

abbrev pub function_bytes : FunctionGroup → ℕ → Coded
function_bytes F0ToF4 bits = below bits 32 ((0x80 + bits) ∷ [])
function_bytes F5ToF8 bits = below bits 16 ((0xb0 + bits) ∷ [])
function_bytes F9ToF12 bits = below bits 16 ((0xa0 + bits) ∷ [])
function_bytes F13ToF20 bits = Ok (0xde ∷ bits ∷ [])
function_bytes F21ToF28 bits = Ok (0xdf ∷ bits ∷ [])
function_bytes F29ToF36 bits = Ok (0xd8 ∷ bits ∷ [])
function_bytes F37ToF44 bits = Ok (0xd9 ∷ bits ∷ [])
function_bytes F45ToF52 bits = Ok (0xda ∷ bits ∷ [])
function_bytes F53ToF60 bits = Ok (0xdb ∷ bits ∷ [])
function_bytes F61ToF68 bits = Ok (0xdc ∷ bits ∷ [])

-- the bytes of an instruction by those whom it is for
pub data Form : Type 0 where
  -- nobody: an idle packet's
  nothing : Form
  -- mobile decoders
  mobile_only : Coded → Form
  -- every decoder: the long form
  anyone : Coded → Form
  -- basic and extended accessory decoders
  output : ℕ → Bool → Form
  aspect : ℕ → Form

abbrev pub form_of : Instruction → Form
form_of NoOperation = nothing
form_of Reset = mobile_only (Ok (0x00 ∷ []))
form_of HardReset = mobile_only (Ok (0x01 ∷ []))
form_of (AdvancedAddressing on) = mobile_only (Ok ((0x0a + flag on 1) ∷ []))
form_of AcknowledgmentRequest = mobile_only (Ok (0x0f ∷ []))
form_of (Consist reversed address) = mobile_only (below address 128 ((0x12 + flag reversed 1) ∷ address ∷ []))
form_of (Speed forward code) = mobile_only (below code 32 ((0x40 + flag forward 0x20 + code) ∷ []))
form_of (Speed126 forward code) = mobile_only (below code 128 (0x3f ∷ (flag forward 128 + code) ∷ []))
form_of (Functions group bits) = mobile_only (function_bytes group bits)
form_of (BinaryStateShort on number) = mobile_only (below number 128 (0xdd ∷ (flag on 128 + number) ∷ []))
form_of (BinaryStateLong on number) = mobile_only (below number 32768 (0xc0 ∷ (flag on 128 + number % 128) ∷ (number / 128) ∷ []))
form_of (AccelerationAdjustment value) = mobile_only (Ok (0xf2 ∷ value ∷ []))
form_of (DecelerationAdjustment value) = mobile_only (Ok (0xf3 ∷ value ∷ []))
form_of (VerifyByte cv value) = anyone (Ok (at_cv 0xe4 cv value))
form_of (WriteByte cv value) = anyone (Ok (at_cv 0xec cv value))
form_of (VerifyBit cv bit value) = anyone (at_bit 0xe0 cv bit value)
form_of (WriteBit cv bit value) = anyone (at_bit 0xf0 cv bit value)
form_of (Output number on) = output number on
form_of (Aspect number) = aspect number

-- what stands behind the bytes of each target
abbrev pub idle_body : Form → Coded
idle_body nothing = Ok []
idle_body (mobile_only bs) = unfit
idle_body (anyone bs) = unfit
idle_body (output number on) = unfit
idle_body (aspect number) = unfit

abbrev pub cv_body : Form → Coded
cv_body nothing = unfit
cv_body (mobile_only bs) = unfit
cv_body (anyone bs) = bs
cv_body (output number on) = unfit
cv_body (aspect number) = unfit

abbrev pub mobile_body : Form → Coded
mobile_body nothing = unfit
mobile_body (mobile_only bs) = bs
mobile_body (anyone bs) = bs
mobile_body (output number on) = unfit
mobile_body (aspect number) = unfit

-- an output is part of the head
abbrev pub basic_body : Form → Coded
basic_body nothing = unfit
basic_body (mobile_only bs) = unfit
basic_body (anyone bs) = bs
basic_body (output number on) = below number 8 []
basic_body (aspect number) = unfit

abbrev pub extended_body : Form → Coded
extended_body nothing = unfit
extended_body (mobile_only bs) = unfit
extended_body (anyone bs) = bs
extended_body (output number on) = unfit
extended_body (aspect number) = below number 32 (number ∷ [])

abbrev pub body_of : Target → Form → Coded
body_of Idle f = idle_body f
body_of Broadcast f = mobile_body f
body_of (Short address) f = mobile_body f
body_of (Long address) f = mobile_body f
body_of (Basic address) f = basic_body f
body_of (Extended address) f = extended_body f

-- CDDD of a basic head
abbrev pub output_bits : Form → ℕ
output_bits nothing = 0
output_bits (mobile_only bs) = 0
output_bits (anyone bs) = 0
output_bits (output number on) = flag on 8 + number % 8
output_bits (aspect number) = 0

-- the second byte of an accessory head: the complemented upper three bits of the address, and
-- below them CDDD, or the two lowest bits of the address in 0AA1
abbrev pub basic_second : ℕ → ℕ → ℕ
basic_second address cddd = 0x80 + 16 * (7 - address / 64) + cddd

abbrev pub extended_second : ℕ → ℕ
extended_second address = 16 * (7 - address / 256) + 2 * (address % 4) + 1

-- the first byte of such a head is 10AAAAAA
abbrev pub head_of : Target → Form → Coded
head_of Idle f = Ok (0xff ∷ 0x00 ∷ [])
head_of Broadcast f = Ok (0x00 ∷ [])
head_of (Short address) f = cond (address == 0) unfit (below address 128 (address ∷ []))
head_of (Long address) f = below address 10240 ((0xc0 + address / 256) ∷ (address % 256) ∷ [])
head_of (Basic address) f =
    below address 512 ((0x80 + address % 64) ∷ basic_second address (output_bits f) ∷ [])
head_of (Extended address) f =
    below address 2048 ((0x80 + address / 4 % 64) ∷ extended_second address ∷ [])

abbrev pub joined : Coded → Coded → Coded
joined (Err e) body = Err e
joined (Ok head) (Err e) = Err e
joined (Ok head) (Ok body) = Ok (sealed (head ++ body))

-- the packet, or why there is none
unfoldable pub encoded : Target → Instruction → Coded
encoded t i = joined (head_of t (form_of i)) (body_of t (form_of i))

-- what comes of a place for a packet: the answer, and the place afterwards
abbrev pub answer : Coded → List ℕ → Result ℕ Refusal
answer (Err e) place = Err e
answer (Ok bs) place = cond (nat_lt (length place) (length bs)) (Err PlaceTooShort) (Ok (length bs))

abbrev pub after : Coded → List ℕ → List ℕ
after (Err e) place = place
after (Ok bs) place = cond (nat_lt (length place) (length bs)) place (bs ++ drop (length bs) place)

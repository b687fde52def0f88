-- What the bytes of a packet say.
use Rattle.std.specs.Prelude.{ℕ, ◌+◌, ◌-◌, ◌*◌, ◌/◌, ◌%◌, Bool, true, false, cond, ◌&&◌, List, [], ◌∷◌, length, take, Ok, Err, Result, ◌==◌, nat_le, nat_lt}
use Rattle.fault.specs.declared.refusal.Refusal.{Refusal}
use Rattle.fault.specs.declared.refusal.Refusal.TheVariants.{PacketLength, ErrorByte, ReservedAddress, AdvancedFormat, IdleForm, NoInstruction, ReservedInstruction, InstructionLength, AccessoryHead}
use Rattle.packet.specs.declared.target.Target.{Target}
use Rattle.packet.specs.declared.target.Target.TheVariants.{Idle, Broadcast, Short, Long, Basic, Extended}
use Rattle.packet.specs.declared.instruction.FunctionGroup.{FunctionGroup}
use Rattle.packet.specs.declared.instruction.FunctionGroup.TheVariants.{F0ToF4, F5ToF8, F9ToF12, F13ToF20, F21ToF28, F29ToF36, F37ToF44, F45ToF52, F53ToF60, F61ToF68}
use Rattle.packet.specs.declared.instruction.Instruction.{Instruction}
use Rattle.packet.specs.declared.instruction.Instruction.TheVariants.{NoOperation, Reset, HardReset, AdvancedAddressing, AcknowledgmentRequest, Consist, Speed, Speed126, Functions, BinaryStateShort, BinaryStateLong, AccelerationAdjustment, DecelerationAdjustment, VerifyByte, WriteByte, VerifyBit, WriteBit, Output, Aspect}
use Rattle.packet.specs.declared.packet.Packet.{Packet}
use Rattle.packet.specs.Parity.{parity}
use Rattle.packet.specs.Wires.{cv_at}

abbrev pub Asked : Type 0
Asked = Result Instruction Refusal

abbrev pub Told : Type 0
Told = Result Packet Refusal

abbrev pub reserved : Asked
reserved = Err ReservedInstruction

-- an instruction of one byte, of two and of three, by the bytes after its first
abbrev pub alone : Instruction → List ℕ → Asked
alone i [] = Ok i
alone i (b ∷ bs) = Err InstructionLength

abbrev pub with_one : (ℕ → Asked) → List ℕ → Asked
with_one f [] = Err InstructionLength
with_one f (b ∷ []) = f b
with_one f (b ∷ d ∷ bs) = Err InstructionLength

abbrev pub with_two : (ℕ → ℕ → Asked) → List ℕ → Asked
with_two f [] = Err InstructionLength
with_two f (b ∷ []) = Err InstructionLength
with_two f (b ∷ d ∷ []) = f b d
with_two f (b ∷ d ∷ e ∷ bs) = Err InstructionLength

-- bit k of a byte is set
abbrev pub bit7 : ℕ → Bool
bit7 b = nat_le 0x80 b

abbrev pub bit3 : ℕ → Bool
bit3 b = b / 8 % 2 == 1

abbrev pub consist : Bool → ℕ → Asked
consist reversed b = cond (bit7 b) reserved (Ok (Consist reversed b))

abbrev pub speed126 : ℕ → Asked
speed126 b = Ok (Speed126 (bit7 b) (b % 128))

abbrev pub binary_long : ℕ → ℕ → Asked
binary_long b d = Ok (BinaryStateLong (bit7 b) (b % 128 + 128 * d))

abbrev pub binary_short : ℕ → Asked
binary_short b = Ok (BinaryStateShort (bit7 b) (b % 128))

abbrev pub eight : FunctionGroup → ℕ → Asked
eight group b = Ok (Functions group b)

abbrev pub acceleration : ℕ → Asked
acceleration b = Ok (AccelerationAdjustment b)

abbrev pub deceleration : ℕ → Asked
deceleration b = Ok (DecelerationAdjustment b)

-- the last byte of a bit operation is 111FDBBB
abbrev pub bit_operation : ℕ → ℕ → ℕ → Asked
bit_operation first b d =
    cond (nat_lt d 0xe0) reserved
    (cond (nat_lt d 0xf0) (Ok (VerifyBit (cv_at first b) (d % 8) (bit3 d))) (Ok (WriteBit (cv_at first b) (d % 8) (bit3 d))))

-- E4 to EF
abbrev pub long_form : ℕ → List ℕ → Asked
long_form first bs =
    cond (nat_lt first 0xe8) (with_two (λ b d. Ok (VerifyByte (cv_at first b) d)) bs)
    (cond (nat_lt first 0xec) (with_two (bit_operation first) bs) (with_two (λ b d. Ok (WriteByte (cv_at first b) d)) bs))

-- an instruction to a mobile decoder, by its first byte
abbrev pub by_first : ℕ → List ℕ → Asked
by_first b bs =
    cond (b == 0x00) (alone Reset bs)
    (cond (b == 0x01) (alone HardReset bs)
    (cond (nat_lt b 0x0a) reserved
    (cond (nat_lt b 0x0c) (alone (AdvancedAddressing (b == 0x0b)) bs)
    (cond (nat_lt b 0x0f) reserved
    (cond (b == 0x0f) (alone AcknowledgmentRequest bs)
    (cond (nat_lt b 0x12) reserved
    (cond (nat_lt b 0x14) (with_one (consist (b == 0x13)) bs)
    (cond (nat_lt b 0x3f) reserved
    (cond (b == 0x3f) (with_one speed126 bs)
    (cond (nat_lt b 0x60) (alone (Speed false (b % 32)) bs)
    (cond (nat_lt b 0x80) (alone (Speed true (b % 32)) bs)
    (cond (nat_lt b 0xa0) (alone (Functions F0ToF4 (b % 32)) bs)
    (cond (nat_lt b 0xb0) (alone (Functions F9ToF12 (b % 16)) bs)
    (cond (nat_lt b 0xc0) (alone (Functions F5ToF8 (b % 16)) bs)
    (cond (b == 0xc0) (with_two binary_long bs)
    (cond (nat_lt b 0xd8) reserved
    (cond (b == 0xd8) (with_one (eight F29ToF36) bs)
    (cond (b == 0xd9) (with_one (eight F37ToF44) bs)
    (cond (b == 0xda) (with_one (eight F45ToF52) bs)
    (cond (b == 0xdb) (with_one (eight F53ToF60) bs)
    (cond (b == 0xdc) (with_one (eight F61ToF68) bs)
    (cond (b == 0xdd) (with_one binary_short bs)
    (cond (b == 0xde) (with_one (eight F13ToF20) bs)
    (cond (b == 0xdf) (with_one (eight F21ToF28) bs)
    (cond (nat_lt b 0xe4) reserved
    (cond (nat_lt b 0xf0) (long_form b bs)
    (cond (b == 0xf2) (with_one acceleration bs)
    (cond (b == 0xf3) (with_one deceleration bs) reserved))))))))))))))))))))))))))))

unfoldable pub mobile : List ℕ → Asked
mobile [] = Err NoInstruction
mobile (b ∷ bs) = by_first b bs

-- a long-form instruction and no other
unfoldable pub cv_access : List ℕ → Asked
cv_access [] = Err InstructionLength
cv_access (b ∷ bs) = cond (nat_lt b 0xe4) reserved (cond (nat_lt b 0xf0) (long_form b bs) reserved)

-- behind a head of a basic accessory decoder, whose low four bits CDDD set output DDD to C
abbrev pub basic : ℕ → List ℕ → Asked
basic head [] = Ok (Output (head % 8) (bit3 head))
basic head (b ∷ bs) = cond (head % 16 == 0) (cv_access (b ∷ bs)) (Err InstructionLength)

-- behind a head of an extended accessory decoder
unfoldable pub extended : List ℕ → Asked
extended [] = Err InstructionLength
extended (b ∷ bs) = cond (nat_lt b 0x20) (alone (Aspect b) bs) (cv_access (b ∷ bs))

-- bits 4 to 6 of the second byte, complemented, come highest, and the first byte's six bits follow
abbrev pub basic_address : ℕ → ℕ → ℕ
basic_address first second = 64 * (7 - second / 16 % 8) + first % 64

-- then bits 2 and 1 of the second byte
abbrev pub extended_address : ℕ → ℕ → ℕ
extended_address first second = 4 * basic_address first second + second / 2 % 4

-- 0AAA0AA1
abbrev pub is_extended_head : ℕ → Bool
is_extended_head b = nat_lt b 0x80 && (b / 8 % 2 == 0 && b % 2 == 1)

abbrev pub packet_of : Target → Instruction → Packet
packet_of t i = record { target = t; instruction = i }

-- a target with the instruction that comes after it
abbrev pub told : Target → Asked → Told
told t (Ok i) = Ok (packet_of t i)
told t (Err e) = Err e

unfoldable pub accessory : ℕ → List ℕ → Told
accessory first [] = Err AccessoryHead
accessory first (d ∷ bs) =
    cond (nat_le 0x80 d) (told (Basic (basic_address first d)) (basic d bs))
    (cond (is_extended_head d) (told (Extended (extended_address first d)) (extended bs)) (Err AccessoryHead))

unfoldable pub long : ℕ → List ℕ → Told
long first [] = Err NoInstruction
long first (d ∷ bs) = told (Long (256 * (first - 0xc0) + d)) (mobile bs)

abbrev pub idle : List ℕ → Told
idle [] = Err IdleForm
idle (b ∷ []) = cond (b == 0x00) (Ok (packet_of Idle NoOperation)) (Err IdleForm)
idle (b ∷ d ∷ bs) = Err IdleForm

-- by the first byte, the bytes after it without the error byte
abbrev pub by_address : ℕ → List ℕ → Told
by_address b bs =
    cond (b == 0x00) (told Broadcast (mobile bs))
    (cond (nat_lt b 0x80) (told (Short b) (mobile bs))
    (cond (nat_lt b 0xc0) (accessory b bs)
    (cond (nat_lt b 0xe8) (long b bs)
    (cond (nat_lt b 0xfd) (Err ReservedAddress)
    (cond (nat_lt b 0xff) (Err AdvancedFormat)
    (idle bs))))))

unfoldable pub addressed : List ℕ → Told
addressed [] = Err PacketLength
addressed (b ∷ bs) = by_address b bs

-- a packet without its error byte
abbrev pub front : List ℕ → List ℕ
front bs = take (length bs - 1) bs

-- what a packet says, or why it is refused
abbrev pub packet_read : List ℕ → Told
packet_read bs =
    cond (nat_lt (length bs) 3) (Err PacketLength)
    (cond (nat_lt 6 (length bs)) (Err PacketLength)
    (cond (parity bs == 0) (addressed (front bs)) (Err ErrorByte)))

-- A table of packets, worked out from the format by hand. No bit of a field in it can stand for
-- another one, or for its opposite: AA, CC, F0 and 00 tell each bit of a byte from the others, and
-- the low bits of these do so in a shorter field.
use Rattle.std.specs.Prelude.{◌≡◌, ℕ, min, max, true, false, List, [], ◌∷◌, ◌++◌, All, Ok}
use Rattle.std.proofs.Common.{arith}
use Rattle.packet.specs.declared.cv.CvNumber.{CvNumber}
use Rattle.packet.specs.declared.target.Target.{Target}
use Rattle.packet.specs.declared.target.Target.TheVariants.{Idle, Broadcast, Short, Long}
use Rattle.packet.specs.declared.target.Target.TheVariants.{Basic, Extended}
use Rattle.packet.specs.declared.instruction.FunctionGroup.TheVariants.{F0ToF4, F5ToF8, F9ToF12}
use Rattle.packet.specs.declared.instruction.FunctionGroup.TheVariants.{F13ToF20, F21ToF28}
use Rattle.packet.specs.declared.instruction.FunctionGroup.TheVariants.{F29ToF36, F37ToF44, F45ToF52}
use Rattle.packet.specs.declared.instruction.FunctionGroup.TheVariants.{F53ToF60, F61ToF68}
use Rattle.packet.specs.declared.instruction.Instruction.{Instruction}
use Rattle.packet.specs.declared.instruction.Instruction.TheVariants.{NoOperation, Reset, HardReset}
use Rattle.packet.specs.declared.instruction.Instruction.TheVariants.{AdvancedAddressing}
use Rattle.packet.specs.declared.instruction.Instruction.TheVariants.{AcknowledgmentRequest, Consist}
use Rattle.packet.specs.declared.instruction.Instruction.TheVariants.{Speed, Speed126, Functions}
use Rattle.packet.specs.declared.instruction.Instruction.TheVariants.{BinaryStateShort}
use Rattle.packet.specs.declared.instruction.Instruction.TheVariants.{BinaryStateLong}
use Rattle.packet.specs.declared.instruction.Instruction.TheVariants.{AccelerationAdjustment}
use Rattle.packet.specs.declared.instruction.Instruction.TheVariants.{DecelerationAdjustment}
use Rattle.packet.specs.declared.instruction.Instruction.TheVariants.{VerifyByte, WriteByte}
use Rattle.packet.specs.declared.instruction.Instruction.TheVariants.{VerifyBit, WriteBit}
use Rattle.packet.specs.declared.instruction.Instruction.TheVariants.{Output, Aspect}
use Rattle.format.specs.Reading.{packet_of, packet_read}
use Rattle.format.specs.Writing.{encoded}

-- a packet's bytes, and whom and what they say
pub record Example : Type 0 where
  pub bytes : List ℕ
  pub target : Target
  pub instruction : Instruction

abbrev pub example : List ℕ → Target → Instruction → Example
example bs t i = record { bytes = bs; target = t; instruction = i }

-- the variable of a number, 1 to 1024; any other number stands for the nearest of these
abbrev pub cv : ℕ → CvNumber
cv n = record { number = min (max n 1) 1024; least = omega arith; most = omega arith }

-- whom a packet is for, by each bit of an address
abbrev pub targets : List Example
targets =
    example (0xff ∷ 0x00 ∷ 0xff ∷ []) Idle NoOperation
    ∷ example (0x00 ∷ 0x00 ∷ 0x00 ∷ []) Broadcast Reset
    ∷ example (0x2a ∷ 0x00 ∷ 0x2a ∷ []) (Short 42) Reset
    ∷ example (0x4c ∷ 0x00 ∷ 0x4c ∷ []) (Short 76) Reset
    ∷ example (0x70 ∷ 0x00 ∷ 0x70 ∷ []) (Short 112) Reset
    ∷ example (0x7f ∷ 0x00 ∷ 0x7f ∷ []) (Short 127) Reset
    ∷ example (0x01 ∷ 0x00 ∷ 0x01 ∷ []) (Short 1) Reset
    ∷ example (0xc0 ∷ 0x00 ∷ 0x00 ∷ 0xc0 ∷ []) (Long 0) Reset
    ∷ example (0xc1 ∷ 0xaa ∷ 0x00 ∷ 0x6b ∷ []) (Long 426) Reset
    ∷ example (0xc2 ∷ 0xcc ∷ 0x00 ∷ 0x0e ∷ []) (Long 716) Reset
    ∷ example (0xc4 ∷ 0xf0 ∷ 0x00 ∷ 0x34 ∷ []) (Long 1264) Reset
    ∷ example (0xc8 ∷ 0x00 ∷ 0x00 ∷ 0xc8 ∷ []) (Long 2048) Reset
    ∷ example (0xd0 ∷ 0xff ∷ 0x00 ∷ 0x2f ∷ []) (Long 4351) Reset
    ∷ example (0xe0 ∷ 0x00 ∷ 0x00 ∷ 0xe0 ∷ []) (Long 8192) Reset
    ∷ example (0xe7 ∷ 0xff ∷ 0x00 ∷ 0x18 ∷ []) (Long 10239) Reset
    ∷ example (0x80 ∷ 0xf8 ∷ 0x78 ∷ []) (Basic 0) (Output 0 true)
    ∷ example (0xaa ∷ 0xf8 ∷ 0x52 ∷ []) (Basic 42) (Output 0 true)
    ∷ example (0x8c ∷ 0xf8 ∷ 0x74 ∷ []) (Basic 12) (Output 0 true)
    ∷ example (0xb0 ∷ 0xf8 ∷ 0x48 ∷ []) (Basic 48) (Output 0 true)
    ∷ example (0x80 ∷ 0xe8 ∷ 0x68 ∷ []) (Basic 64) (Output 0 true)
    ∷ example (0x80 ∷ 0xd8 ∷ 0x58 ∷ []) (Basic 128) (Output 0 true)
    ∷ example (0x80 ∷ 0xb8 ∷ 0x38 ∷ []) (Basic 256) (Output 0 true)
    ∷ example (0xbf ∷ 0x88 ∷ 0x37 ∷ []) (Basic 511) (Output 0 true)
    ∷ example (0x80 ∷ 0x71 ∷ 0x00 ∷ 0xf1 ∷ []) (Extended 0) (Aspect 0)
    ∷ example (0x80 ∷ 0x73 ∷ 0x00 ∷ 0xf3 ∷ []) (Extended 1) (Aspect 0)
    ∷ example (0x80 ∷ 0x75 ∷ 0x00 ∷ 0xf5 ∷ []) (Extended 2) (Aspect 0)
    ∷ example (0xaa ∷ 0x71 ∷ 0x00 ∷ 0xdb ∷ []) (Extended 168) (Aspect 0)
    ∷ example (0x8c ∷ 0x71 ∷ 0x00 ∷ 0xfd ∷ []) (Extended 48) (Aspect 0)
    ∷ example (0xb0 ∷ 0x71 ∷ 0x00 ∷ 0xc1 ∷ []) (Extended 192) (Aspect 0)
    ∷ example (0x80 ∷ 0x61 ∷ 0x00 ∷ 0xe1 ∷ []) (Extended 256) (Aspect 0)
    ∷ example (0x80 ∷ 0x51 ∷ 0x00 ∷ 0xd1 ∷ []) (Extended 512) (Aspect 0)
    ∷ example (0x80 ∷ 0x31 ∷ 0x00 ∷ 0xb1 ∷ []) (Extended 1024) (Aspect 0)
    ∷ example (0xbf ∷ 0x07 ∷ 0x00 ∷ 0xb8 ∷ []) (Extended 2047) (Aspect 0) ∷ []

-- a speed in 14 or 28 steps, and in 126, in both directions
abbrev pub speeds : List Example
speeds =
    example (0x03 ∷ 0x40 ∷ 0x43 ∷ []) (Short 3) (Speed false 0)
    ∷ example (0x03 ∷ 0x4a ∷ 0x49 ∷ []) (Short 3) (Speed false 10)
    ∷ example (0x03 ∷ 0x4c ∷ 0x4f ∷ []) (Short 3) (Speed false 12)
    ∷ example (0x03 ∷ 0x50 ∷ 0x53 ∷ []) (Short 3) (Speed false 16)
    ∷ example (0x03 ∷ 0x5f ∷ 0x5c ∷ []) (Short 3) (Speed false 31)
    ∷ example (0x03 ∷ 0x60 ∷ 0x63 ∷ []) (Short 3) (Speed true 0)
    ∷ example (0x03 ∷ 0x6a ∷ 0x69 ∷ []) (Short 3) (Speed true 10)
    ∷ example (0x03 ∷ 0x6c ∷ 0x6f ∷ []) (Short 3) (Speed true 12)
    ∷ example (0x03 ∷ 0x70 ∷ 0x73 ∷ []) (Short 3) (Speed true 16)
    ∷ example (0x03 ∷ 0x7f ∷ 0x7c ∷ []) (Short 3) (Speed true 31)
    ∷ example (0x03 ∷ 0x3f ∷ 0x00 ∷ 0x3c ∷ []) (Short 3) (Speed126 false 0)
    ∷ example (0x03 ∷ 0x3f ∷ 0x2a ∷ 0x16 ∷ []) (Short 3) (Speed126 false 42)
    ∷ example (0x03 ∷ 0x3f ∷ 0x4c ∷ 0x70 ∷ []) (Short 3) (Speed126 false 76)
    ∷ example (0x03 ∷ 0x3f ∷ 0x70 ∷ 0x4c ∷ []) (Short 3) (Speed126 false 112)
    ∷ example (0x03 ∷ 0x3f ∷ 0x80 ∷ 0xbc ∷ []) (Short 3) (Speed126 true 0)
    ∷ example (0x03 ∷ 0x3f ∷ 0xaa ∷ 0x96 ∷ []) (Short 3) (Speed126 true 42)
    ∷ example (0x03 ∷ 0x3f ∷ 0xcc ∷ 0xf0 ∷ []) (Short 3) (Speed126 true 76)
    ∷ example (0x03 ∷ 0x3f ∷ 0xf0 ∷ 0xcc ∷ []) (Short 3) (Speed126 true 112) ∷ []

-- each group of functions
abbrev pub functions : List Example
functions =
    example (0x03 ∷ 0x80 ∷ 0x83 ∷ []) (Short 3) (Functions F0ToF4 0)
    ∷ example (0x03 ∷ 0x8a ∷ 0x89 ∷ []) (Short 3) (Functions F0ToF4 10)
    ∷ example (0x03 ∷ 0x8c ∷ 0x8f ∷ []) (Short 3) (Functions F0ToF4 12)
    ∷ example (0x03 ∷ 0x90 ∷ 0x93 ∷ []) (Short 3) (Functions F0ToF4 16)
    ∷ example (0x03 ∷ 0x9f ∷ 0x9c ∷ []) (Short 3) (Functions F0ToF4 31)
    ∷ example (0x03 ∷ 0xb0 ∷ 0xb3 ∷ []) (Short 3) (Functions F5ToF8 0)
    ∷ example (0x03 ∷ 0xba ∷ 0xb9 ∷ []) (Short 3) (Functions F5ToF8 10)
    ∷ example (0x03 ∷ 0xbc ∷ 0xbf ∷ []) (Short 3) (Functions F5ToF8 12)
    ∷ example (0x03 ∷ 0xbf ∷ 0xbc ∷ []) (Short 3) (Functions F5ToF8 15)
    ∷ example (0x03 ∷ 0xa0 ∷ 0xa3 ∷ []) (Short 3) (Functions F9ToF12 0)
    ∷ example (0x03 ∷ 0xaa ∷ 0xa9 ∷ []) (Short 3) (Functions F9ToF12 10)
    ∷ example (0x03 ∷ 0xac ∷ 0xaf ∷ []) (Short 3) (Functions F9ToF12 12)
    ∷ example (0x03 ∷ 0xaf ∷ 0xac ∷ []) (Short 3) (Functions F9ToF12 15)
    ∷ example (0x03 ∷ 0xde ∷ 0x00 ∷ 0xdd ∷ []) (Short 3) (Functions F13ToF20 0x00)
    ∷ example (0x03 ∷ 0xde ∷ 0xaa ∷ 0x77 ∷ []) (Short 3) (Functions F13ToF20 0xaa)
    ∷ example (0x03 ∷ 0xde ∷ 0xcc ∷ 0x11 ∷ []) (Short 3) (Functions F13ToF20 0xcc)
    ∷ example (0x03 ∷ 0xde ∷ 0xf0 ∷ 0x2d ∷ []) (Short 3) (Functions F13ToF20 0xf0)
    ∷ example (0x03 ∷ 0xdf ∷ 0x00 ∷ 0xdc ∷ []) (Short 3) (Functions F21ToF28 0x00)
    ∷ example (0x03 ∷ 0xdf ∷ 0xaa ∷ 0x76 ∷ []) (Short 3) (Functions F21ToF28 0xaa)
    ∷ example (0x03 ∷ 0xdf ∷ 0xcc ∷ 0x10 ∷ []) (Short 3) (Functions F21ToF28 0xcc)
    ∷ example (0x03 ∷ 0xdf ∷ 0xf0 ∷ 0x2c ∷ []) (Short 3) (Functions F21ToF28 0xf0)
    ∷ example (0x03 ∷ 0xd8 ∷ 0x00 ∷ 0xdb ∷ []) (Short 3) (Functions F29ToF36 0x00)
    ∷ example (0x03 ∷ 0xd8 ∷ 0xaa ∷ 0x71 ∷ []) (Short 3) (Functions F29ToF36 0xaa)
    ∷ example (0x03 ∷ 0xd8 ∷ 0xcc ∷ 0x17 ∷ []) (Short 3) (Functions F29ToF36 0xcc)
    ∷ example (0x03 ∷ 0xd8 ∷ 0xf0 ∷ 0x2b ∷ []) (Short 3) (Functions F29ToF36 0xf0)
    ∷ example (0x03 ∷ 0xd9 ∷ 0x00 ∷ 0xda ∷ []) (Short 3) (Functions F37ToF44 0x00)
    ∷ example (0x03 ∷ 0xd9 ∷ 0xaa ∷ 0x70 ∷ []) (Short 3) (Functions F37ToF44 0xaa)
    ∷ example (0x03 ∷ 0xd9 ∷ 0xcc ∷ 0x16 ∷ []) (Short 3) (Functions F37ToF44 0xcc)
    ∷ example (0x03 ∷ 0xd9 ∷ 0xf0 ∷ 0x2a ∷ []) (Short 3) (Functions F37ToF44 0xf0)
    ∷ example (0x03 ∷ 0xda ∷ 0x00 ∷ 0xd9 ∷ []) (Short 3) (Functions F45ToF52 0x00)
    ∷ example (0x03 ∷ 0xda ∷ 0xaa ∷ 0x73 ∷ []) (Short 3) (Functions F45ToF52 0xaa)
    ∷ example (0x03 ∷ 0xda ∷ 0xcc ∷ 0x15 ∷ []) (Short 3) (Functions F45ToF52 0xcc)
    ∷ example (0x03 ∷ 0xda ∷ 0xf0 ∷ 0x29 ∷ []) (Short 3) (Functions F45ToF52 0xf0)
    ∷ example (0x03 ∷ 0xdb ∷ 0x00 ∷ 0xd8 ∷ []) (Short 3) (Functions F53ToF60 0x00)
    ∷ example (0x03 ∷ 0xdb ∷ 0xaa ∷ 0x72 ∷ []) (Short 3) (Functions F53ToF60 0xaa)
    ∷ example (0x03 ∷ 0xdb ∷ 0xcc ∷ 0x14 ∷ []) (Short 3) (Functions F53ToF60 0xcc)
    ∷ example (0x03 ∷ 0xdb ∷ 0xf0 ∷ 0x28 ∷ []) (Short 3) (Functions F53ToF60 0xf0)
    ∷ example (0x03 ∷ 0xdc ∷ 0x00 ∷ 0xdf ∷ []) (Short 3) (Functions F61ToF68 0x00)
    ∷ example (0x03 ∷ 0xdc ∷ 0xaa ∷ 0x75 ∷ []) (Short 3) (Functions F61ToF68 0xaa)
    ∷ example (0x03 ∷ 0xdc ∷ 0xcc ∷ 0x13 ∷ []) (Short 3) (Functions F61ToF68 0xcc)
    ∷ example (0x03 ∷ 0xdc ∷ 0xf0 ∷ 0x2f ∷ []) (Short 3) (Functions F61ToF68 0xf0) ∷ []

-- binary states in both forms, on and off
abbrev pub states : List Example
states =
    example (0x03 ∷ 0xdd ∷ 0x00 ∷ 0xde ∷ []) (Short 3) (BinaryStateShort false 0)
    ∷ example (0x03 ∷ 0xdd ∷ 0x2a ∷ 0xf4 ∷ []) (Short 3) (BinaryStateShort false 42)
    ∷ example (0x03 ∷ 0xdd ∷ 0xcc ∷ 0x12 ∷ []) (Short 3) (BinaryStateShort true 76)
    ∷ example (0x03 ∷ 0xdd ∷ 0x70 ∷ 0xae ∷ []) (Short 3) (BinaryStateShort false 112)
    ∷ example (0x03 ∷ 0xdd ∷ 0x80 ∷ 0x5e ∷ []) (Short 3) (BinaryStateShort true 0)
    ∷ example (0x03 ∷ 0xdd ∷ 0x7f ∷ 0xa1 ∷ []) (Short 3) (BinaryStateShort false 127)
    ∷ example (0x03 ∷ 0xc0 ∷ 0x00 ∷ 0x00 ∷ 0xc3 ∷ []) (Short 3) (BinaryStateLong false 0)
    ∷ example (0x03 ∷ 0xc0 ∷ 0x2a ∷ 0xaa ∷ 0x43 ∷ []) (Short 3) (BinaryStateLong false 21802)
    ∷ example (0x03 ∷ 0xc0 ∷ 0xcc ∷ 0xcc ∷ 0xc3 ∷ []) (Short 3) (BinaryStateLong true 26188)
    ∷ example (0x03 ∷ 0xc0 ∷ 0x70 ∷ 0xf0 ∷ 0x43 ∷ []) (Short 3) (BinaryStateLong false 30832)
    ∷ example (0x03 ∷ 0xc0 ∷ 0x80 ∷ 0x00 ∷ 0x43 ∷ []) (Short 3) (BinaryStateLong true 0)
    ∷ example (0x03 ∷ 0xc0 ∷ 0x00 ∷ 0xff ∷ 0x3c ∷ []) (Short 3) (BinaryStateLong false 32640)
    ∷ example (0x03 ∷ 0xc0 ∷ 0x81 ∷ 0x01 ∷ 0x43 ∷ []) (Short 3) (BinaryStateLong true 129) ∷ []

-- the instructions of one byte, consists, and the writes to variables 23 and 24
abbrev pub others : List Example
others =
    example (0x03 ∷ 0x00 ∷ 0x03 ∷ []) (Short 3) Reset
    ∷ example (0x03 ∷ 0x01 ∷ 0x02 ∷ []) (Short 3) HardReset
    ∷ example (0x03 ∷ 0x0a ∷ 0x09 ∷ []) (Short 3) (AdvancedAddressing false)
    ∷ example (0x03 ∷ 0x0b ∷ 0x08 ∷ []) (Short 3) (AdvancedAddressing true)
    ∷ example (0x03 ∷ 0x0f ∷ 0x0c ∷ []) (Short 3) AcknowledgmentRequest
    ∷ example (0x03 ∷ 0x12 ∷ 0x00 ∷ 0x11 ∷ []) (Short 3) (Consist false 0)
    ∷ example (0x03 ∷ 0x12 ∷ 0x2a ∷ 0x3b ∷ []) (Short 3) (Consist false 42)
    ∷ example (0x03 ∷ 0x13 ∷ 0x4c ∷ 0x5c ∷ []) (Short 3) (Consist true 76)
    ∷ example (0x03 ∷ 0x12 ∷ 0x70 ∷ 0x61 ∷ []) (Short 3) (Consist false 112)
    ∷ example (0x03 ∷ 0x13 ∷ 0x00 ∷ 0x10 ∷ []) (Short 3) (Consist true 0)
    ∷ example (0x03 ∷ 0x12 ∷ 0x7f ∷ 0x6e ∷ []) (Short 3) (Consist false 127)
    ∷ example (0x03 ∷ 0xf2 ∷ 0x00 ∷ 0xf1 ∷ []) (Short 3) (AccelerationAdjustment 0)
    ∷ example (0x03 ∷ 0xf2 ∷ 0xaa ∷ 0x5b ∷ []) (Short 3) (AccelerationAdjustment 0xaa)
    ∷ example (0x03 ∷ 0xf2 ∷ 0xcc ∷ 0x3d ∷ []) (Short 3) (AccelerationAdjustment 0xcc)
    ∷ example (0x03 ∷ 0xf2 ∷ 0xf0 ∷ 0x01 ∷ []) (Short 3) (AccelerationAdjustment 0xf0)
    ∷ example (0x03 ∷ 0xf3 ∷ 0x00 ∷ 0xf0 ∷ []) (Short 3) (DecelerationAdjustment 0)
    ∷ example (0x03 ∷ 0xf3 ∷ 0xaa ∷ 0x5a ∷ []) (Short 3) (DecelerationAdjustment 0xaa)
    ∷ example (0x03 ∷ 0xf3 ∷ 0xcc ∷ 0x3c ∷ []) (Short 3) (DecelerationAdjustment 0xcc)
    ∷ example (0x03 ∷ 0xf3 ∷ 0xf0 ∷ 0x00 ∷ []) (Short 3) (DecelerationAdjustment 0xf0) ∷ []

-- the long form that verifies or writes a byte
abbrev pub bytes_of_variables : List Example
bytes_of_variables =
    example (0x03 ∷ 0xe4 ∷ 0xaa ∷ 0xcc ∷ 0x81 ∷ []) (Short 3) (VerifyByte (cv 171) 0xcc)
    ∷ example (0x03 ∷ 0xe4 ∷ 0xcc ∷ 0xf0 ∷ 0xdb ∷ []) (Short 3) (VerifyByte (cv 205) 0xf0)
    ∷ example (0x03 ∷ 0xe4 ∷ 0xf0 ∷ 0xaa ∷ 0xbd ∷ []) (Short 3) (VerifyByte (cv 241) 0xaa)
    ∷ example (0x03 ∷ 0xe5 ∷ 0x00 ∷ 0x00 ∷ 0xe6 ∷ []) (Short 3) (VerifyByte (cv 257) 0x00)
    ∷ example (0x03 ∷ 0xe6 ∷ 0x00 ∷ 0x00 ∷ 0xe5 ∷ []) (Short 3) (VerifyByte (cv 513) 0x00)
    ∷ example (0x03 ∷ 0xe7 ∷ 0x00 ∷ 0x00 ∷ 0xe4 ∷ []) (Short 3) (VerifyByte (cv 769) 0x00)
    ∷ example (0x03 ∷ 0xe4 ∷ 0x00 ∷ 0xff ∷ 0x18 ∷ []) (Short 3) (VerifyByte (cv 1) 0xff)
    ∷ example (0x03 ∷ 0xe7 ∷ 0xff ∷ 0x00 ∷ 0x1b ∷ []) (Short 3) (VerifyByte (cv 1024) 0x00)
    ∷ example (0x03 ∷ 0xec ∷ 0xaa ∷ 0xcc ∷ 0x89 ∷ []) (Short 3) (WriteByte (cv 171) 0xcc)
    ∷ example (0x03 ∷ 0xec ∷ 0xcc ∷ 0xf0 ∷ 0xd3 ∷ []) (Short 3) (WriteByte (cv 205) 0xf0)
    ∷ example (0x03 ∷ 0xec ∷ 0xf0 ∷ 0xaa ∷ 0xb5 ∷ []) (Short 3) (WriteByte (cv 241) 0xaa)
    ∷ example (0x03 ∷ 0xed ∷ 0x00 ∷ 0x00 ∷ 0xee ∷ []) (Short 3) (WriteByte (cv 257) 0x00)
    ∷ example (0x03 ∷ 0xee ∷ 0x00 ∷ 0x00 ∷ 0xed ∷ []) (Short 3) (WriteByte (cv 513) 0x00)
    ∷ example (0x03 ∷ 0xef ∷ 0x00 ∷ 0x00 ∷ 0xec ∷ []) (Short 3) (WriteByte (cv 769) 0x00)
    ∷ example (0x03 ∷ 0xec ∷ 0x00 ∷ 0xff ∷ 0x10 ∷ []) (Short 3) (WriteByte (cv 1) 0xff)
    ∷ example (0x03 ∷ 0xef ∷ 0xff ∷ 0x00 ∷ 0x13 ∷ []) (Short 3) (WriteByte (cv 1024) 0x00) ∷ []

-- the bit operation, by F, D and BBB
abbrev pub bits_of_variables : List Example
bits_of_variables =
    example (0x03 ∷ 0xe8 ∷ 0x00 ∷ 0xe0 ∷ 0x0b ∷ []) (Short 3) (VerifyBit (cv 1) 0 false)
    ∷ example (0x03 ∷ 0xe8 ∷ 0xaa ∷ 0xe2 ∷ 0xa3 ∷ []) (Short 3) (VerifyBit (cv 171) 2 false)
    ∷ example (0x03 ∷ 0xe8 ∷ 0xcc ∷ 0xec ∷ 0xcb ∷ []) (Short 3) (VerifyBit (cv 205) 4 true)
    ∷ example (0x03 ∷ 0xe8 ∷ 0xf0 ∷ 0xf1 ∷ 0xea ∷ []) (Short 3) (WriteBit (cv 241) 1 false)
    ∷ example (0x03 ∷ 0xe9 ∷ 0x00 ∷ 0xf8 ∷ 0x12 ∷ []) (Short 3) (WriteBit (cv 257) 0 true)
    ∷ example (0x03 ∷ 0xea ∷ 0x00 ∷ 0xe8 ∷ 0x01 ∷ []) (Short 3) (VerifyBit (cv 513) 0 true)
    ∷ example (0x03 ∷ 0xeb ∷ 0x00 ∷ 0xf7 ∷ 0x1f ∷ []) (Short 3) (WriteBit (cv 769) 7 false)
    ∷ example (0x03 ∷ 0xeb ∷ 0xff ∷ 0xff ∷ 0xe8 ∷ []) (Short 3) (WriteBit (cv 1024) 7 true) ∷ []

-- outputs and aspects, and the long form to accessory decoders
abbrev pub accessories : List Example
accessories =
    example (0x81 ∷ 0xf0 ∷ 0x71 ∷ []) (Basic 1) (Output 0 false)
    ∷ example (0x81 ∷ 0xf8 ∷ 0x79 ∷ []) (Basic 1) (Output 0 true)
    ∷ example (0x81 ∷ 0xf2 ∷ 0x73 ∷ []) (Basic 1) (Output 2 false)
    ∷ example (0x81 ∷ 0xfa ∷ 0x7b ∷ []) (Basic 1) (Output 2 true)
    ∷ example (0x81 ∷ 0xf4 ∷ 0x75 ∷ []) (Basic 1) (Output 4 false)
    ∷ example (0x81 ∷ 0xfc ∷ 0x7d ∷ []) (Basic 1) (Output 4 true)
    ∷ example (0x81 ∷ 0xff ∷ 0x7e ∷ []) (Basic 1) (Output 7 true)
    ∷ example (0x80 ∷ 0x73 ∷ 0x0a ∷ 0xf9 ∷ []) (Extended 1) (Aspect 10)
    ∷ example (0x80 ∷ 0x73 ∷ 0x0c ∷ 0xff ∷ []) (Extended 1) (Aspect 12)
    ∷ example (0x80 ∷ 0x73 ∷ 0x10 ∷ 0xe3 ∷ []) (Extended 1) (Aspect 16)
    ∷ example (0x80 ∷ 0x73 ∷ 0x1f ∷ 0xec ∷ []) (Extended 1) (Aspect 31)
    ∷ example (0x81 ∷ 0xf0 ∷ 0xe6 ∷ 0x1c ∷ 0x08 ∷ 0x83 ∷ []) (Basic 1) (VerifyByte (cv 541) 8)
    ∷ example (0x81 ∷ 0xf0 ∷ 0xea ∷ 0x1c ∷ 0xf3 ∷ 0x74 ∷ []) (Basic 1) (WriteBit (cv 541) 3 false)
    ∷ example (0x81 ∷ 0xf0 ∷ 0xee ∷ 0x1c ∷ 0x08 ∷ 0x8b ∷ []) (Basic 1) (WriteByte (cv 541) 8)
    ∷ example (0x80 ∷ 0x73 ∷ 0xe6 ∷ 0x1c ∷ 0x08 ∷ 0x01 ∷ []) (Extended 1) (VerifyByte (cv 541) 8)
    ∷ example (0x80 ∷ 0x73 ∷ 0xea ∷ 0x1c ∷ 0xf3 ∷ 0xf6 ∷ []) (Extended 1) (WriteBit (cv 541) 3 false)
    ∷ example (0x80 ∷ 0x73 ∷ 0xee ∷ 0x1c ∷ 0x08 ∷ 0x09 ∷ []) (Extended 1) (WriteByte (cv 541) 8) ∷ []

abbrev pub table : List Example
table =
    targets ++ speeds ++ functions ++ states ++ others ++ bytes_of_variables ++ bits_of_variables
    ++ accessories

-- the bytes say this, and this is written as the bytes
pub record Says (r : Example) : Type 0 where
  pub reads : packet_read r.bytes ≡ Ok (packet_of r.target r.instruction)
  pub writes : encoded r.target r.instruction ≡ Ok r.bytes

abbrev pub ExamplesRead : Type 0
ExamplesRead = All Says table

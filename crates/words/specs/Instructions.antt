-- The words of an instruction.
use Rattle.std.specs.Prelude.{ℕ, Bool, ◌==◌, if◌then◌else◌, List, [], ◌++◌, codes}
use Rattle.std.specs.Fmt.{decimal}
use Rattle.packet.specs.declared.instruction.Instruction.{Instruction}
use Rattle.packet.specs.declared.instruction.Instruction.TheVariants.{NoOperation, Reset, HardReset, AdvancedAddressing, AcknowledgmentRequest, Consist, Speed, Speed126, Functions, BinaryStateShort, BinaryStateLong, AccelerationAdjustment, DecelerationAdjustment, VerifyByte, WriteByte, VerifyBit, WriteBit, Output, Aspect}
use Rattle.words.specs.Functions.{functions_text}
use Rattle.words.specs.Speeds.{speed_text, speed126_text}
use Rattle.words.specs.Switches.{switched_text}

-- address 0 is none
abbrev pub consist_text : Bool → ℕ → List ℕ
consist_text reversed address =
    codes "consist " ++ (if address == 0 then codes "none" else decimal address) ++ (if reversed then codes " reversed" else [])

abbrev pub binary_state_text : ℕ → Bool → List ℕ
binary_state_text number on = codes "binary state " ++ decimal number ++ codes " " ++ switched_text on

abbrev pub bit_text : ℕ → ℕ → Bool → List ℕ
bit_text cv bit value = decimal cv ++ codes " bit " ++ decimal bit ++ codes " = " ++ decimal (if value then 1 else 0)

-- binary state 0 means all of a form
abbrev pub instruction_text : Instruction → List ℕ
instruction_text NoOperation = codes "no operation"
instruction_text Reset = codes "reset"
instruction_text HardReset = codes "hard reset"
instruction_text (AdvancedAddressing on) = codes "advanced addressing " ++ switched_text on
instruction_text AcknowledgmentRequest = codes "acknowledgment request"
instruction_text (Consist reversed address) = consist_text reversed address
instruction_text (Speed forward code) = speed_text forward code
instruction_text (Speed126 forward code) = speed126_text forward code
instruction_text (Functions group bits) = functions_text group bits
instruction_text (BinaryStateShort on number) = if number == 0 then codes "binary states 1 to 127 " ++ switched_text on else binary_state_text number on
instruction_text (BinaryStateLong on number) = if number == 0 then codes "all binary states " ++ switched_text on else binary_state_text number on
instruction_text (AccelerationAdjustment value) = codes "write CV 23 = " ++ decimal value
instruction_text (DecelerationAdjustment value) = codes "write CV 24 = " ++ decimal value
instruction_text (VerifyByte cv value) = codes "verify CV " ++ decimal cv.number ++ codes " = " ++ decimal value
instruction_text (WriteByte cv value) = codes "write CV " ++ decimal cv.number ++ codes " = " ++ decimal value
instruction_text (VerifyBit cv bit value) = codes "verify CV " ++ bit_text cv.number bit value
instruction_text (WriteBit cv bit value) = codes "write CV " ++ bit_text cv.number bit value
instruction_text (Output output on) = codes "output " ++ decimal output ++ codes " " ++ switched_text on
instruction_text (Aspect aspect) = codes "aspect " ++ decimal aspect

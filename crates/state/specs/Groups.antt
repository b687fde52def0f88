-- The functions that an instruction switches.
use Rattle.std.specs.Prelude.{ℕ, zero, suc, ◌+◌, Bool, false, cond, List, [], ◌∷◌, ◌++◌, length, take, drop, Some, None, Option, nat_lt, slice_index_or, slice_set}
use Rattle.packet.specs.declared.instruction.FunctionGroup.{FunctionGroup}
use Rattle.packet.specs.declared.instruction.FunctionGroup.TheVariants.{F0ToF4, F5ToF8, F9ToF12, F13ToF20, F21ToF28, F29ToF36, F37ToF44, F45ToF52, F53ToF60, F61ToF68}
use Rattle.state.specs.Bits.{bit_of}

-- the bits of a byte from bit b on, n of them
abbrev pub bits_from : ℕ → ℕ → ℕ → List Bool
bits_from b zero x = []
bits_from b (suc n) x = bit_of x b ∷ bits_from (suc b) n x

-- the lowest n
abbrev pub low_bits : ℕ → ℕ → List Bool
low_bits n x = bits_from 0 n x

-- the list with others in it from `first` on
abbrev pub pasted : List Bool → ℕ → List Bool → List Bool
pasted fs first bs = take first fs ++ (bs ++ drop (first + length bs) fs)

-- FL as bit 4 has it
abbrev pub lit : List Bool → ℕ → List Bool
lit fs bits = slice_set fs 0 (bit_of bits 4)

-- each function of a group as its bit has it, the lowest in bit 0; in group one F1 to F4, and FL where `light` says so
abbrev pub switched : List Bool → FunctionGroup → ℕ → Bool → List Bool
switched fs F0ToF4 bits light = cond light (lit (pasted fs 1 (low_bits 4 bits)) bits) (pasted fs 1 (low_bits 4 bits))
switched fs F5ToF8 bits light = pasted fs 5 (low_bits 4 bits)
switched fs F9ToF12 bits light = pasted fs 9 (low_bits 4 bits)
switched fs F13ToF20 bits light = pasted fs 13 (low_bits 8 bits)
switched fs F21ToF28 bits light = pasted fs 21 (low_bits 8 bits)
switched fs F29ToF36 bits light = pasted fs 29 (low_bits 8 bits)
switched fs F37ToF44 bits light = pasted fs 37 (low_bits 8 bits)
switched fs F45ToF52 bits light = pasted fs 45 (low_bits 8 bits)
switched fs F53ToF60 bits light = pasted fs 53 (low_bits 8 bits)
switched fs F61ToF68 bits light = pasted fs 61 (low_bits 8 bits)

-- function 0, which is FL, to 68
abbrev pub function_at : List Bool → ℕ → Option Bool
function_at fs n = cond (nat_lt n 69) (Some (slice_index_or fs n false)) None

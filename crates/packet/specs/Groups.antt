-- The functions that one instruction switches.
use Rattle.std.specs.Prelude.{ℕ}
use Rattle.packet.specs.declared.instruction.FunctionGroup.{FunctionGroup}
use Rattle.packet.specs.declared.instruction.FunctionGroup.TheVariants.{F0ToF4, F5ToF8, F9ToF12, F13ToF20, F21ToF28, F29ToF36, F37ToF44, F45ToF52, F53ToF60, F61ToF68}

-- the lowest of the functions that a group switches by its bits from bit 0 on; FL, which bit 4 switches in group one,
-- stands apart
abbrev pub lowest_of : FunctionGroup → ℕ
lowest_of F0ToF4 = 1
lowest_of F5ToF8 = 5
lowest_of F9ToF12 = 9
lowest_of F13ToF20 = 13
lowest_of F21ToF28 = 21
lowest_of F29ToF36 = 29
lowest_of F37ToF44 = 37
lowest_of F45ToF52 = 45
lowest_of F53ToF60 = 53
lowest_of F61ToF68 = 61

-- and how many these are
abbrev pub width_of : FunctionGroup → ℕ
width_of F0ToF4 = 4
width_of F5ToF8 = 4
width_of F9ToF12 = 4
width_of F13ToF20 = 8
width_of F21ToF28 = 8
width_of F29ToF36 = 8
width_of F37ToF44 = 8
width_of F45ToF52 = 8
width_of F53ToF60 = 8
width_of F61ToF68 = 8

-- The words of an instruction that switches functions.
use Rattle.std.specs.Prelude.{ℕ, ◌+◌, ◌-◌, true, false, List, ◌++◌, replicate, codes}
use Rattle.std.specs.Fmt.{decimal}
use Rattle.packet.specs.Groups.{lowest_of, width_of}
use Rattle.packet.specs.declared.instruction.FunctionGroup.{FunctionGroup}
use Rattle.packet.specs.declared.instruction.FunctionGroup.TheVariants.{F0ToF4}
use Rattle.state.specs.Groups.{switched}
use Rattle.words.specs.Lists.{numbers_on, numbers_text}

-- the lowest function of a group and the highest; FL, which group one has too, is F0
abbrev pub first_of : FunctionGroup → ℕ
first_of F0ToF4 = 0
first_of group = lowest_of group

abbrev pub last_of : FunctionGroup → ℕ
last_of group = lowest_of group + width_of group - 1

-- the functions that are on after the instruction, where all were off before
abbrev pub functions_on : FunctionGroup → ℕ → List ℕ
functions_on group bits = numbers_on (switched (replicate 69 false) group bits true)

abbrev pub functions_text : FunctionGroup → ℕ → List ℕ
functions_text group bits =
    codes "functions " ++ decimal (first_of group) ++ codes " to " ++ decimal (last_of group) ++ codes " on " ++ numbers_text (codes "-") (functions_on group bits)

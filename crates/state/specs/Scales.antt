-- The highest step of each scale, and the step of a code.
use Rattle.std.specs.Prelude.{ℕ, ◌+◌, ◌-◌, ◌*◌, ◌/◌, ◌%◌}
use Rattle.state.specs.declared.scale.Scale.{Scale}
use Rattle.state.specs.declared.scale.Scale.TheVariants.{Fourteen, TwentyEight, OneTwentySix}

abbrev pub top : Scale → ℕ
top Fourteen = 14
top TwentyEight = 28
top OneTwentySix = 126

-- bits 0 to 3 of a code of five bits; the whole of one of seven
abbrev pub code_of : Scale → ℕ → ℕ
code_of Fourteen code = code % 16
code_of TwentyEight code = code % 16
code_of OneTwentySix code = code % 128

-- the step, where the code is above 1; bit 4 of a code of five bits counts in 28 steps
abbrev pub number_at : Scale → ℕ → ℕ
number_at Fourteen code = code % 16 - 1
number_at TwentyEight code = 2 * (code % 16 - 2) + code / 16 % 2 + 1
number_at OneTwentySix code = code % 128 - 1

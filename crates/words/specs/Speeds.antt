-- The words of an instruction that sets the speed.
use Rattle.std.specs.Prelude.{ℕ, Bool, ◌-◌, nat_lt, if◌then◌else◌, List, ◌++◌, codes}
use Rattle.std.specs.Fmt.{decimal}
use Rattle.state.specs.declared.scale.Scale.TheVariants.{Fourteen, TwentyEight, OneTwentySix}
use Rattle.state.specs.declared.speed.Speed.{Speed}
use Rattle.state.specs.declared.speed.Speed.TheVariants.{Stop, EmergencyStop, Running}
use Rattle.state.specs.Bits.{bit_of}
use Rattle.state.specs.Scales.{number_at}
use Rattle.state.specs.Speeds.{speed_at}
use Rattle.words.specs.Switches.{direction_text, switched_text}

-- a speed in 28 steps, the step in 14, and FL
abbrev pub in_28_and_14 : Speed → ℕ → List ℕ → List ℕ → List ℕ
in_28_and_14 Stop of_14 way light = codes "speed " ++ way ++ codes " stop, in 14 steps FL " ++ light
in_28_and_14 EmergencyStop of_14 way light = codes "speed " ++ way ++ codes " emergency stop, in 14 steps FL " ++ light
in_28_and_14 (Running of_28) of_14 way light =
    codes "speed " ++ way ++ codes " step " ++ decimal of_28.number ++ codes " of 28, in 14 steps " ++ decimal of_14 ++ codes " and FL " ++ light

-- what a code of five bits asks in 28 steps, and in 14, where its bit 4 is FL
abbrev pub speed_text : Bool → ℕ → List ℕ
speed_text forward code =
    in_28_and_14 (speed_at TwentyEight code) (number_at Fourteen code) (direction_text forward) (switched_text (bit_of code 4))

abbrev pub step_in_126 : ℕ → List ℕ → List ℕ
step_in_126 step way = codes "speed " ++ way ++ codes " step " ++ decimal step ++ codes " of 126"

abbrev pub in_126 : Speed → List ℕ → List ℕ
in_126 Stop way = codes "speed " ++ way ++ codes " stop of 126"
in_126 EmergencyStop way = codes "speed " ++ way ++ codes " emergency stop of 126"
in_126 (Running step) way = step_in_126 step.number way

-- a code above 127, which no packet has, is told as a step as well
abbrev pub speed126_text : Bool → ℕ → List ℕ
speed126_text forward code =
    if nat_lt 127 code then step_in_126 (code - 1) (direction_text forward) else in_126 (speed_at OneTwentySix code) (direction_text forward)

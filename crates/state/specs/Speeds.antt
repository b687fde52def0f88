-- The speed that a code asks for.
use Rattle.std.specs.Prelude.{ℕ, ◌≤◌, cond, ◌==◌}
use Rattle.std.proofs.Common.{arith}
use Rattle.state.specs.declared.scale.Scale.{Scale}
use Rattle.state.specs.declared.scale.Scale.TheVariants.{Fourteen, TwentyEight, OneTwentySix}
use Rattle.state.specs.declared.step.Step.{Step}
use Rattle.state.specs.declared.speed.Speed.{Speed}
use Rattle.state.specs.declared.speed.Speed.TheVariants.{Stop, EmergencyStop, Running}
use Rattle.state.specs.Scales.{top, code_of, number_at}

-- no code asks for a step beyond its scale
pub number_within : (s : Scale) (code : ℕ) → number_at s code ≤ top s
number_within Fourteen code = omega arith
number_within TwentyEight code = omega arith
number_within OneTwentySix code = omega arith

abbrev pub step_at : Scale → ℕ → Step
step_at s code = record { number = number_at s code; scale = s; within = number_within s code }

-- 0 is stop, 1 emergency stop
abbrev pub speed_at : Scale → ℕ → Speed
speed_at s code = cond (code_of s code == 0) Stop (cond (code_of s code == 1) EmergencyStop (Running (step_at s code)))

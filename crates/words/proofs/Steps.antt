-- The step of a speed.
use Rattle.std.proofs.Common.{◌≡◌, ℕ, ◌==◌, Bool, true, false, cond, ap, sym}
use Rattle.state.specs.declared.scale.Scale.{Scale}
use Rattle.state.specs.declared.speed.Speed.TheVariants.{Stop, EmergencyStop, Running}
use Rattle.state.specs.declared.step.Step.{Step}
use Rattle.state.specs.Scales.{code_of, number_at}
use Rattle.state.specs.Speeds.{speed_at, step_at}

-- a speed that runs has the step of its code
pub number_running : (s : Scale) (code : ℕ) (step : Step) → speed_at s code ≡ Running step → step.number ≡ number_at s code
number_running s code step runs = by_tests (code_of s code == 0) (code_of s code == 1) runs
  where
    by_tests : (stop emergency : Bool) → cond stop Stop (cond emergency EmergencyStop (Running (step_at s code))) ≡ Running step → step.number ≡ number_at s code
    by_tests true emergency is = cc
    by_tests false true is = cc
    by_tests false false is = let same : step_at s code ≡ step = cc in ap (λ (t : Step). t.number) (sym same)

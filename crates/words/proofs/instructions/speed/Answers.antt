use Rattle.std.proofs.Common.{◌≡◌, ◌∙◌, sym, append_assoc}
use Rattle.std.proofs.Output.{has_written_of_eq}
use Rattle.state.specs.declared.scale.Scale.TheVariants.{Fourteen, TwentyEight}
use Rattle.state.specs.declared.speed.Speed.TheVariants.{Running}
use Rattle.state.specs.Scales.{number_at}
use Rattle.state.specs.Speeds.{speed_at}
use Rattle.words.proofs.Steps.{number_running}
use Rattle.words.proofs.instructions.speed.Goals as goal

pub returns-in-Running-Running : goal.returns-in-Running-Running
returns-in-Running-Running g c =
    let runs = c.in-Running-Running in
    let of_28 : speed_at TwentyEight c.args.code ≡ Running runs.of_28 = sym c.at-of_28.ensures ∙ runs.is-0 in
    let of_14 : runs.of_14.number ≡ number_at Fourteen c.args.code = number_running Fourteen c.args.code runs.of_14 (sym c.at-of_14.ensures ∙ runs.is-1) in
    λ plain ok.
    has_written_of_eq _ _ _ _ _
    (rw (c.direction-way.ensures, c.number.ensures, c.number-in-Running-Running.ensures, c.switched-light.ensures, c.has_bit.ensures, of_28, of_14) (simp append_assoc))
    (c.write.ensures.writes plain ok)

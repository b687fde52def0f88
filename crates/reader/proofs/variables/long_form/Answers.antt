use Rattle.std.proofs.Common.{Ok, arith, rules}
use Rattle.std.proofs.lemmas.Bool.Decides.{nat_tests}
use Rattle.packet.specs.Wires.{cv_at}
use Rattle.packet.specs.declared.instruction.Instruction.TheVariants.{WriteByte}
use Rattle.format.specs.Reading.{bit_operation}
use Rattle.reader.proofs.variables.long_form.Goals as goal

pub returns-in-232-to-235 : goal.returns-in-232-to-235
returns-in-232-to-235 c =
    let e = c.with_two-in-232-to-235.ensures (bit_operation c.args.first) (λ b d r p. search rules) in grind (arith, nat_tests)

pub returns-in_default : goal.returns-in_default
returns-in_default c =
    let e = c.with_two-in_default.ensures (λ b d. Ok (WriteByte (cv_at c.args.first b) d)) (λ b d r p. search rules) in grind (arith, nat_tests)

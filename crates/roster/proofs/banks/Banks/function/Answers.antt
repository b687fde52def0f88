use Rattle.state.specs.Groups.{function_at}
use Rattle.script.specs.Decoders.{in_range}
use Rattle.roster.proofs.Askings.{read_in, passed_on}
use Rattle.roster.proofs.banks.Banks.function.Goals as goal

pub returns-in_err-mobile : goal.returns-in_err-mobile
returns-in_err-mobile g c = passed_on c.from_residual.ensures.1 (c.in_err-mobile.ensures (λ x. in_range (function_at x.state.functions.on c.args.number)))

pub returns : goal.returns
returns g c = read_in _ c.ok_or.ensures.value c.into.ensures c.numbered.ensures (c.in_ok-mobile.ensures (λ x. in_range (function_at x.state.functions.on c.args.number)))

use Rattle.state.specs.Kept.{state_at}
use Rattle.script.specs.Decoders.{in_range}
use Rattle.roster.proofs.Askings.{read_in, passed_on}
use Rattle.roster.proofs.banks.Banks.binary_state.Goals as goal

pub returns-in_err-mobile : goal.returns-in_err-mobile
returns-in_err-mobile g c = passed_on c.from_residual.ensures.1 (c.in_err-mobile.ensures (λ x. in_range (state_at x.state.states.bits c.args.number)))

pub returns : goal.returns
returns g c = read_in _ c.ok_or.ensures.value c.into.ensures c.get.ensures (c.in_ok-mobile.ensures (λ x. in_range (state_at x.state.states.bits c.args.number)))

use Rattle.script.proofs.Requested.{requests_answered}
use Rattle.script.proofs.laws.requests_answered.Goals as goal

pub returns : goal.returns
returns c = requests_answered

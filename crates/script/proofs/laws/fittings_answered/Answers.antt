use Rattle.script.proofs.Addressed.{fittings_answered}
use Rattle.script.proofs.laws.fittings_answered.Goals as goal

pub returns : goal.returns
returns c = fittings_answered

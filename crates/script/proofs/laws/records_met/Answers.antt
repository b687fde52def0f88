use Rattle.script.proofs.Meetings.{laws}
use Rattle.script.proofs.laws.records_met.Goals as goal

pub returns : goal.returns
returns c = laws

use Rattle.script.proofs.Counted.{laws}
use Rattle.script.proofs.laws.counts_add_up.Goals as goal

pub returns : goal.returns
returns c = laws

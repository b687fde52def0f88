use Rattle.block.proofs.Agreements.{laws}
use Rattle.block.proofs.laws.blocks_agree.Goals as goal

pub returns : goal.returns
returns c = laws

use Rattle.script.proofs.Lendings.{lendings_answered}
use Rattle.script.proofs.laws.lendings_answered.Goals as goal

pub returns : goal.returns
returns c = lendings_answered

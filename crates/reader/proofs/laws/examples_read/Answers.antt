use Rattle.format.proofs.Examples.{examples}
use Rattle.reader.proofs.laws.examples_read.Goals as goal

pub returns : goal.returns
returns c = examples

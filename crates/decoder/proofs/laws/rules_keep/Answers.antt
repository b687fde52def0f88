use Rattle.decoder.proofs.Tracks.{laws}
use Rattle.decoder.proofs.laws.rules_keep.Goals as goal

pub returns : goal.returns
returns c = laws

use Rattle.memory.proofs.Lying.{byte_lies, low_lies, high_lies}
use Rattle.memory.proofs.laws.cells_lie.Goals as goal

pub returns : goal.returns
returns c = record { byte = byte_lies; low = low_lies; high = high_lies }

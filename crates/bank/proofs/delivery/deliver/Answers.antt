use Rattle.bank.proofs.Turns.{kept_beyond}
use Rattle.bank.proofs.delivery.deliver.Goals as goal

-- tried: `using(kept_beyond)`; the search gives up at a limit
pub returns-clause-beyond : goal.returns-clause-beyond
returns-clause-beyond g c = kept_beyond c.deliver_all.ensures.kept

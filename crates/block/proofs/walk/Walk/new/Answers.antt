use Rattle.block.proofs.Walkings.{lends_left}
use Rattle.block.proofs.walk.Walk.new.Goals as goal

-- tried: `using(lends_left)`, which does not find the walk that was made
pub returns-clause-gives : goal.returns-clause-gives
returns-clause-gives c = lends_left (record { block = c.args.block; offset = 0 })

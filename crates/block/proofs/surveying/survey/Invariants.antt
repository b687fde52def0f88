use Rattle.block.proofs.Sums.{Going}
use Rattle.block.proofs.surveying.survey.Given as goal

abbrev pub invariant-loop-item : goal.invariant-loop-item
invariant-loop-item l = Going l.block l.item-iterator l.survey

use Rattle.board.proofs.Beside.{beside_kept, below_kept}
use Rattle.board.proofs.laws.strips_kept.Goals as goal

pub returns : goal.returns
returns c at = record {
  beside = λ s s'. beside_kept _ s s';
  below = λ ks b b' s s' r. below_kept _ s s' r.outside ks r.size r.cells;
}

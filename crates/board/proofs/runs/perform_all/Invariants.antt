use Rattle.roster.specs.Held.{held, SameLenders}
use Rattle.board.specs.Slots.{running_kinds}
use Rattle.board.specs.Steps.{PerformedTo}
use Rattle.board.proofs.runs.perform_all.Given as goal

abbrev pub invariant-loop-i : goal.invariant-loop-i
invariant-loop-i g l =
    PerformedTo l.i l.calls (running_kinds l.board) (held g.M.Memory l.initial.banks l.initial.memory) (held g.M.Memory l.banks l.memory) l.initial.answers l.answers
    × SameLenders g.M.Memory l.initial.banks l.initial.memory l.banks l.memory

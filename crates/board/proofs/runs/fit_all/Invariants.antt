use Rattle.roster.specs.Held.{held, SameLenders}
use Rattle.board.specs.Slots.{fitting_kinds}
use Rattle.board.specs.Steps.{FittedTo}
use Rattle.board.proofs.runs.fit_all.Given as goal

abbrev pub invariant-loop-i : goal.invariant-loop-i
invariant-loop-i g l =
    FittedTo l.i l.fits (held g.M.Memory l.initial.banks l.initial.memory) (fitting_kinds l.board) (held g.M.Memory l.banks l.memory) l.initial.numbers l.numbers
    × SameLenders g.M.Memory l.initial.banks l.initial.memory l.banks l.memory

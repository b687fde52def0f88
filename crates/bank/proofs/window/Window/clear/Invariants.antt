use Rattle.bank.proofs.Clearing.{Cleared}
use Rattle.bank.proofs.window.Window.clear.Given as goal

abbrev pub invariant-loop-number : goal.invariant-loop-number
invariant-loop-number g l = Cleared l.initial.self l.self l.number

use Rattle.bank.specs.Banks.{ChangedBelow}
use Rattle.bank.proofs.powering.power_up_each.Given as goal

abbrev pub invariant-loop-record : goal.invariant-loop-record
invariant-loop-record g l = ChangedBelow l.record-index g.T.Listener.rules.starts l.initial.bank l.bank

use Rattle.std.proofs.Common.{length}
use Rattle.bank.specs.Kinds.{is_kind}
use Rattle.bank.proofs.Turns.{first_turned, front_changed}
use Rattle.bank.proofs.powering.power_up.Goals as goal

-- tried: `using(first_turned, front_changed)`, which is not found below the two conditions
pub returns-clause-turned : goal.returns-clause-turned
returns-clause-turned g c =
    let front = front_changed c.if-count-bank.false c.power_up_each.ensures in
    λ _. first_turned (is_kind c.args.kinds.now c.args.kind) (length c.args.kinds.now) c.count_of-count.ensures front

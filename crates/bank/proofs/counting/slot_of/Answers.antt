use Rattle.bank.proofs.Nexts.{nth_slot}
use Rattle.bank.proofs.counting.slot_of.Goals as goal

-- tried: `using(nth_slot)`, which does not take apart what `nth` ran
pub returns : goal.returns
returns c =
    let d = c.nth.ensures.ran in
    nth_slot c.args.kind c.args.kinds.now c.new.result c.new.ensures.kind c.new.ensures.kinds c.new.ensures.from d.0 d.1.0 d.1.1 c.nth.result _ c.args.number d.1.2 d.2

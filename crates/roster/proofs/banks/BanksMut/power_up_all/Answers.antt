use Rattle.roster.specs.Held.{held}
use Rattle.roster.proofs.Alike.{each}
use Rattle.roster.proofs.Sendings.{powered_all}
use Rattle.roster.proofs.banks.BanksMut.power_up_all.Goals as goal

pub returns-clause-after : goal.returns-clause-after
returns-clause-after g c =
    (powered_all c.args.kinds.now (held g.M.Memory c.args.self.now c.args.memory.now) _ _ _ c.requires (each _ c.power_up.ensures.turned c.power_up-2.ensures.turned c.power_up-3.ensures.turned)).0

pub returns-clause-rest : goal.returns-clause-rest
returns-clause-rest g c =
    (powered_all c.args.kinds.now (held g.M.Memory c.args.self.now c.args.memory.now) _ _ _ c.requires (each _ c.power_up.ensures.turned c.power_up-2.ensures.turned c.power_up-3.ensures.turned)).1

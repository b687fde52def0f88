use Rattle.std.proofs.Common.{false, nat_lt}
use Rattle.bank.specs.declared.kind.Kind.TheVariants.{Mobile, Basic, Extended}
use Rattle.script.specs.Boards.{lent}
use Rattle.roster.specs.Held.{held}
use Rattle.script.proofs.Lendings.{enough}
use Rattle.roster.proofs.Sendings.{Sent, delivered, sent_to_none, sent_to_mobiles, sent_to_basics, sent_to_extendeds}
use Rattle.roster.proofs.banks.BanksMut.send_told.Given.{Over}
use Rattle.roster.proofs.banks.BanksMut.send_told.Goals.{In-Idle, After-unwrap, After-unwrap-in-Basic, After-unwrap-in-Extended}
use Rattle.roster.proofs.banks.BanksMut.send_told.Goals as goal

to_none : (g : Over) (c : In-Idle g) → Sent c.args.kinds.now (held g.M.Memory c.args.self.now c.args.memory.now) (held g.M.Memory c.args.self.now c.args.memory.now) c.args.packet.now false
to_none g c = sent_to_none c.requires.told (enough _ _ c.requires.lent) c.in-Idle.is

to_mobiles : (g : Over) (c : After-unwrap g) → Sent c.args.kinds.now (held g.M.Memory c.args.self.now c.args.memory.now) (lent c.deliver.new.bank c.args.self.now.basics.now c.args.self.now.extendeds.now (g.M.Memory.cells c.deliver.new.memory) (g.M.Memory.outside c.deliver.new.memory)) c.args.packet.now (nat_lt 0 c.unwrap.result)
to_mobiles g c =
    let ks = c.args.kinds.now in
    let r = enough ks (held g.M.Memory c.args.self.now c.args.memory.now) c.requires.lent in
    sent_to_mobiles c.requires.told r c.deliver.ensures.outside c.in-Broadcast.is
    (delivered ks Mobile c.deliver.result (r.records Mobile) r.cells c.deliver.ensures.answer c.unwrap.ensures c.deliver.ensures.turned c.deliver.ensures.kept)

to_basics : (g : Over) (c : After-unwrap-in-Basic g) → Sent c.args.kinds.now (held g.M.Memory c.args.self.now c.args.memory.now) (lent c.args.self.now.mobiles.now c.deliver-in-Basic.new.bank c.args.self.now.extendeds.now (g.M.Memory.cells c.deliver-in-Basic.new.memory) (g.M.Memory.outside c.deliver-in-Basic.new.memory)) c.args.packet.now (nat_lt 0 c.unwrap-in-Basic.result)
to_basics g c =
    let ks = c.args.kinds.now in
    let r = enough ks (held g.M.Memory c.args.self.now c.args.memory.now) c.requires.lent in
    sent_to_basics c.requires.told r c.deliver-in-Basic.ensures.outside c.in-Basic.is
    (delivered ks Basic c.deliver-in-Basic.result (r.records Basic) r.cells c.deliver-in-Basic.ensures.answer c.unwrap-in-Basic.ensures c.deliver-in-Basic.ensures.turned c.deliver-in-Basic.ensures.kept)

to_extendeds : (g : Over) (c : After-unwrap-in-Extended g) → Sent c.args.kinds.now (held g.M.Memory c.args.self.now c.args.memory.now) (lent c.args.self.now.mobiles.now c.args.self.now.basics.now c.deliver-in-Extended.new.bank (g.M.Memory.cells c.deliver-in-Extended.new.memory) (g.M.Memory.outside c.deliver-in-Extended.new.memory)) c.args.packet.now (nat_lt 0 c.unwrap-in-Extended.result)
to_extendeds g c =
    let ks = c.args.kinds.now in
    let r = enough ks (held g.M.Memory c.args.self.now c.args.memory.now) c.requires.lent in
    sent_to_extendeds c.requires.told r c.deliver-in-Extended.ensures.outside c.in-Extended.is
    (delivered ks Extended c.deliver-in-Extended.result (r.records Extended) r.cells c.deliver-in-Extended.ensures.answer c.unwrap-in-Extended.ensures c.deliver-in-Extended.ensures.turned c.deliver-in-Extended.ensures.kept)

pub returns-in-Idle-clause-answer : goal.returns-in-Idle-clause-answer
returns-in-Idle-clause-answer g c = (to_none g c).answer

pub returns-in-Idle-clause-after : goal.returns-in-Idle-clause-after
returns-in-Idle-clause-after g c = (to_none g c).after

pub returns-in-Broadcast-clause-answer : goal.returns-in-Broadcast-clause-answer
returns-in-Broadcast-clause-answer g c = (to_mobiles g c).answer

pub returns-in-Broadcast-clause-after : goal.returns-in-Broadcast-clause-after
returns-in-Broadcast-clause-after g c = (to_mobiles g c).after

pub returns-in-Broadcast-clause-rest : goal.returns-in-Broadcast-clause-rest
returns-in-Broadcast-clause-rest g c = (to_mobiles g c).rest

pub returns-in-Basic-clause-answer : goal.returns-in-Basic-clause-answer
returns-in-Basic-clause-answer g c = (to_basics g c).answer

pub returns-in-Basic-clause-after : goal.returns-in-Basic-clause-after
returns-in-Basic-clause-after g c = (to_basics g c).after

pub returns-in-Basic-clause-rest : goal.returns-in-Basic-clause-rest
returns-in-Basic-clause-rest g c = (to_basics g c).rest

pub returns-in-Extended-clause-answer : goal.returns-in-Extended-clause-answer
returns-in-Extended-clause-answer g c = (to_extendeds g c).answer

pub returns-in-Extended-clause-after : goal.returns-in-Extended-clause-after
returns-in-Extended-clause-after g c = (to_extendeds g c).after

pub returns-in-Extended-clause-rest : goal.returns-in-Extended-clause-rest
returns-in-Extended-clause-rest g c = (to_extendeds g c).rest

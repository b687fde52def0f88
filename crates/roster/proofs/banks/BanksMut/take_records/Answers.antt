use Rattle.std.proofs.Common.{Some, Ok, Err, sym, refl, ◌∙◌, subst}
use Rattle.block.specs.Walking.{stands_at, Advances}
use Rattle.block.proofs.Walkings.{found_none, found_fault, found_record, moves_on}
use Rattle.script.specs.Boards.{Lent}
use Rattle.script.specs.Calls.{with_fault}
use Rattle.roster.specs.Held.{held}
use Rattle.roster.proofs.Sendings.{still_lent}
use Rattle.roster.proofs.Takings.{Midway, Ended, midway_more, midway_fault, midway_all, lenders_then}
use Rattle.roster.proofs.banks.BanksMut.take_records.Given.{Over}
use Rattle.roster.proofs.banks.BanksMut.take_records.Goals.{In-Err, In-None}
use Rattle.roster.proofs.banks.BanksMut.take_records.Goals as goal

-- tried: `using(..)` on the function, by which the search does not find what the loop keeps
pub take_record-requires-clause-lent : goal.take_record-requires-clause-lent
take_record-requires-clause-lent g c = still_lent c.loop-item.invariant.0.rest c.requires

pub loop-item-preserved : goal.loop-item-preserved
loop-item-preserved g c =
    let b = c.args.block.now in
    let s = c.loop-item.item-iterator in
    let t = c.next.new.self in
    let d = c.in-Ok.carried in
    let inv = c.loop-item.invariant in
    let a : Advances s (Some (Ok d)) t = subst (λ x. Advances s (Some x) t) c.in-Ok.is c.in-Some.ensures.steps in
    let is = found_record b (stands_at s) s t inv.1 refl d a in
    let on = moves_on b (stands_at s) s t inv.1 refl d a in
    let l : Lent = held g.M.Memory c.args.self.now c.args.memory.now in
    let last = c.take_record.new in
    let l'' : Lent = held g.M.Memory last.self last.memory in
    (subst (λ o. Midway c.args.kinds.now l l'' b o last.taken) (sym on) (midway_more inv.0 d is c.take_record.ensures.counted c.take_record.ensures.after c.take_record.ensures.rest), a.same ∙ inv.1, lenders_then inv.2 c.take_record.ensures.lenders)

fault_ends : (g : Over) (c : In-Err g) → Ended c.args.kinds.now (held g.M.Memory c.args.self.now c.args.memory.now) (held g.M.Memory c.loop-item.self c.loop-item.memory) c.args.block.now (with_fault c.loop-item.taken (Some c.in-Err.fault))
fault_ends g c =
    let s = c.loop-item.item-iterator in
    let t = c.next.new.self in
    let inv = c.loop-item.invariant in
    let a : Advances s (Some (Err c.in-Err.fault)) t = subst (λ x. Advances s (Some x) t) c.in-Err.is c.in-Some.ensures.steps in
    midway_fault inv.0 c.in_ok-item-items.ensures.begins.0 c.in-Err.fault (found_fault c.args.block.now (stands_at s) s t inv.1 refl c.in-Err.fault a)

pub returns-in-Err-clause-answer : goal.returns-in-Err-clause-answer
returns-in-Err-clause-answer g c = (fault_ends g (goal.at.returns-in-Err-clause-answer g c).In-Err).answer

pub returns-in-Err-clause-after : goal.returns-in-Err-clause-after
returns-in-Err-clause-after g c = (fault_ends g (goal.at.returns-in-Err-clause-after g c).In-Err).after

all_ends : (g : Over) (c : In-None g) → Ended c.args.kinds.now (held g.M.Memory c.args.self.now c.args.memory.now) (held g.M.Memory c.loop-item.self c.loop-item.memory) c.args.block.now c.loop-item.taken
all_ends g c =
    let s = c.loop-item.item-iterator in
    let inv = c.loop-item.invariant in
    midway_all inv.0 c.in_ok-item-items.ensures.begins.0 (found_none c.args.block.now (stands_at s) s c.next.new.self inv.1 refl c.in-None.ensures.steps)

pub returns-clause-answer : goal.returns-clause-answer
returns-clause-answer g c = (all_ends g (goal.at.returns-clause-answer g c).In-None).answer

pub returns-clause-after : goal.returns-clause-after
returns-clause-after g c = (all_ends g (goal.at.returns-clause-after g c).In-None).after

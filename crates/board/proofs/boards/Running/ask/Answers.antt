use Rattle.std.proofs.Common.{rules, ◌≡◌, sym, ap, ◌∙◌}
use Rattle.script.specs.declared.call.Call.TheVariants.{Ask}
use Rattle.script.specs.Decoders.{events_of}
use Rattle.script.specs.Boards.{decoders}
use Rattle.script.specs.Calls.{after_call, after_by}
use Rattle.roster.specs.Held.{held}
use Rattle.roster.proofs.Askings.{shared_is}
use Rattle.board.specs.Slots.{running_kinds}
use Rattle.board.proofs.Performings.{read_after, same_after}
use Rattle.board.proofs.boards.Running.ask.Given.{Over}
use Rattle.board.proofs.boards.Running.ask.Goals.{After-variable}
use Rattle.board.proofs.boards.Running.ask.Goals as goal

-- the memory that a variable was read from
same : (g : Over) (c : After-variable g) → decoders (running_kinds c.args.self.now) (held g.M.Memory c.args.banks.now c.variable.new.memory) ≡ after_by (running_kinds c.args.self.now) (held g.M.Memory c.args.banks.now c.args.memory.now) (λ ds. after_call ds (Ask c.args.decoder c.args.request))
same g c =
    let b = c.args.banks.now in
    let s = c.shared-in-Variable in
    same_after (running_kinds c.args.self.now) (held g.M.Memory b c.args.memory.now) c.args.decoder c.args.request (ap events_of c.in-Variable.is) (held g.M.Memory b c.variable.new.memory)
    (sym (shared_is g.M.Memory b s.result c.variable.new.memory s.ensures.mobiles s.ensures.basics s.ensures.extendeds)
    ∙ c.variable.ensures.same
    ∙ shared_is g.M.Memory b s.result c.args.memory.now s.ensures.mobiles s.ensures.basics s.ensures.extendeds)

-- tried: the lemma named on the function, and `search` without the `let`; neither finds for itself that the request changes nothing
pub returns-in_err-state-in-State-clause-after : goal.returns-in_err-state-in-State-clause-after
returns-in_err-state-in-State-clause-after g c = let e = ap events_of c.in-State.is in search (rules, read_after)

pub returns-in_err-value-in-Variable-clause-after : goal.returns-in_err-value-in-Variable-clause-after
returns-in_err-value-in-Variable-clause-after g c = same g (goal.at.returns-in_err-value-in-Variable-clause-after g c).After-variable

pub returns-in_err-on-in-Function-clause-after : goal.returns-in_err-on-in-Function-clause-after
returns-in_err-on-in-Function-clause-after g c = let e = ap events_of c.in-Function.is in search (rules, read_after)

pub returns-in_err-on-in-BinaryState-clause-after : goal.returns-in_err-on-in-BinaryState-clause-after
returns-in_err-on-in-BinaryState-clause-after g c = let e = ap events_of c.in-BinaryState.is in search (rules, read_after)

pub returns-in_ok-state-in-State-clause-after : goal.returns-in_ok-state-in-State-clause-after
returns-in_ok-state-in-State-clause-after g c = let e = ap events_of c.in-State.is in search (rules, read_after)

pub returns-in_ok-value-in-Variable-clause-after : goal.returns-in_ok-value-in-Variable-clause-after
returns-in_ok-value-in-Variable-clause-after g c = same g (goal.at.returns-in_ok-value-in-Variable-clause-after g c).After-variable

pub returns-in_ok-on-in-Function-clause-after : goal.returns-in_ok-on-in-Function-clause-after
returns-in_ok-on-in-Function-clause-after g c = let e = ap events_of c.in-Function.is in search (rules, read_after)

pub returns-in_ok-on-in-BinaryState-clause-after : goal.returns-in_ok-on-in-BinaryState-clause-after
returns-in_ok-on-in-BinaryState-clause-after g c = let e = ap events_of c.in-BinaryState.is in search (rules, read_after)

use Rattle.std.proofs.Common.{rules, Err, sym, ap, ◌∙◌}
use Rattle.bank.specs.declared.kind.Kind.TheVariants.{Mobile}
use Rattle.script.specs.Decoders.{on_mobile}
use Rattle.roster.specs.Held.{seen}
use Rattle.roster.proofs.Askings.{has_record, asked_in, asked_other}
use Rattle.roster.proofs.banks.Banks.mobile.Goals as goal

pub offset_bounds-self-decoder : goal.offset_bounds-self-decoder
offset_bounds-self-decoder g c =
    let room = has_record c.args.kinds.now (seen g.M.Memory c.args.self c.args.memory.now) c.args.decoder _ c.in_ok-locate.ensures Mobile c.in-Mobile.is in
    search rules

pub bounds-self-decoder : goal.bounds-self-decoder
bounds-self-decoder g c = has_record c.args.kinds.now (seen g.M.Memory c.args.self c.args.memory.now) c.args.decoder _ c.in_ok-locate.ensures Mobile c.in-Mobile.is

pub returns-in-Mobile : goal.returns-in-Mobile
returns-in-Mobile g c f = asked_in c.args.kinds.now (seen g.M.Memory c.args.self c.args.memory.now) c.args.decoder _ c.in_ok-locate.ensures Mobile c.in-Mobile.is (on_mobile f) _

pub returns-in-Basic : goal.returns-in-Basic
returns-in-Basic g c f =
    asked_other c.args.kinds.now (seen g.M.Memory c.args.self c.args.memory.now) c.args.decoder _ c.in_ok-locate.ensures f c.in-Basic.is ∙ ap Err (sym c.into.ensures)

use Rattle.std.proofs.Common.{rules}
use Rattle.bank.specs.declared.kind.Kind.TheVariants.{Mobile, Basic, Extended}
use Rattle.roster.specs.Held.{seen}
use Rattle.roster.proofs.Askings.{has_record, copied}
use Rattle.roster.proofs.banks.Banks.state.Goals as goal

pub bounds-self-number : goal.bounds-self-number
bounds-self-number g c = has_record c.args.kinds.now (seen g.M.Memory c.args.self c.args.memory.now) c.args.decoder _ c.in_ok-locate.ensures Mobile c.in-Mobile.is

pub offset_bounds-self-number : goal.offset_bounds-self-number
offset_bounds-self-number g c = let room = bounds-self-number g c in search rules

pub returns-in-Mobile : goal.returns-in-Mobile
returns-in-Mobile g c = let e = copied c.args.kinds.now (seen g.M.Memory c.args.self c.args.memory.now) c.args.decoder _ c.in_ok-locate.ensures Mobile c.in-Mobile.is c.args.place.now _ in record { answer = e.0; placed = e.1 }

pub bounds-self-number-in-Basic : goal.bounds-self-number-in-Basic
bounds-self-number-in-Basic g c = has_record c.args.kinds.now (seen g.M.Memory c.args.self c.args.memory.now) c.args.decoder _ c.in_ok-locate.ensures Basic c.in-Basic.is

pub offset_bounds-self-number-in-Basic : goal.offset_bounds-self-number-in-Basic
offset_bounds-self-number-in-Basic g c = let room = bounds-self-number-in-Basic g c in search rules

pub returns-in-Basic : goal.returns-in-Basic
returns-in-Basic g c = let e = copied c.args.kinds.now (seen g.M.Memory c.args.self c.args.memory.now) c.args.decoder _ c.in_ok-locate.ensures Basic c.in-Basic.is c.args.place.now _ in record { answer = e.0; placed = e.1 }

pub bounds-self-number-in-Extended : goal.bounds-self-number-in-Extended
bounds-self-number-in-Extended g c = has_record c.args.kinds.now (seen g.M.Memory c.args.self c.args.memory.now) c.args.decoder _ c.in_ok-locate.ensures Extended c.in-Extended.is

pub offset_bounds-self-number-in-Extended : goal.offset_bounds-self-number-in-Extended
offset_bounds-self-number-in-Extended g c = let room = bounds-self-number-in-Extended g c in search rules

pub returns-in-Extended : goal.returns-in-Extended
returns-in-Extended g c = let e = copied c.args.kinds.now (seen g.M.Memory c.args.self c.args.memory.now) c.args.decoder _ c.in_ok-locate.ensures Extended c.in-Extended.is c.args.place.now _ in record { answer = e.0; placed = e.1 }

use Rattle.std.proofs.Common.{rules, Ok, Err, sym, ap}
use Rattle.fault.specs.Places.{nowhere}
use Rattle.bank.specs.declared.kind.Kind.TheVariants.{Mobile, Basic, Extended}
use Rattle.script.specs.declared.call.Request.TheVariants.{Set}
use Rattle.script.specs.Decoders.{lives, events_of}
use Rattle.roster.specs.Held.{held, Located}
use Rattle.roster.proofs.Askings.{located_in, unchanged, no_cv, no_cv_number, a_cv, set_nothing, set_in, passed_on}
use Rattle.roster.proofs.banks.BanksMut.set_variable.Given.{Over}
use Rattle.roster.proofs.banks.BanksMut.set_variable.Goals.{In_ok-slot, After-from_residual-in_err-cv}
use Rattle.roster.proofs.banks.BanksMut.set_variable.Goals as goal

pub returns-in_err-slot-clause-after : goal.returns-in_err-slot-clause-after
returns-in_err-slot-clause-after g c =
    unchanged c.args.kinds.now (held g.M.Memory c.args.self.now c.args.memory.now) c.args.decoder (λ d. lives d (events_of (Set c.args.variable c.args.value))) c.in_err-slot.field-0.0
    (located_in g.M.Memory c.args.self.now c.shared.result c.args.memory.now c.args.kinds.now c.args.decoder (Err c.in_err-slot.field-0.0) c.shared.ensures.mobiles c.shared.ensures.basics c.shared.ensures.extendeds c.in_err-slot.ensures)

at : (g : Over) (c : In_ok-slot g) → Located c.args.kinds.now (held g.M.Memory c.args.self.now c.args.memory.now) c.args.decoder (Ok c.in_ok-slot.slot)
at g c = located_in g.M.Memory c.args.self.now c.shared.result c.args.memory.now c.args.kinds.now c.args.decoder (Ok c.in_ok-slot.slot) c.shared.ensures.mobiles c.shared.ensures.basics c.shared.ensures.extendeds c.in_ok-slot.ensures

pub returns-in_err-cv : goal.returns-in_err-cv
returns-in_err-cv g c =
    let no = no_cv c.new.result c.args.variable _ _ c.new.ensures c.in_err-cv.ensures.value in
    let d = set_nothing c.args.kinds.now _ c.args.decoder c.in_ok-slot.slot (at g (goal.at.returns-in_err-cv g c).In_ok-slot) c.args.variable c.args.value _ no.0 (no_cv_number c.new.result c.args.variable _ _ c.new.ensures c.in_err-cv.ensures.value) (passed_on c.from_residual-in_err-cv.ensures.1 (ap Err (ap nowhere (sym no.1)))) in
    record { answer = d.answer; after = d.after; rest = d.rest; refused = search rules; lenders = search rules }

pub returns-in-Mobile : goal.returns-in-Mobile
returns-in-Mobile g c =
    let e = c.set_variable.ensures in
    let d = set_in c.args.kinds.now _ c.args.decoder c.in_ok-slot.slot (at g (goal.at.returns-in-Mobile g c).In_ok-slot) c.args.variable c.args.value c.in_ok-cv.cv (a_cv c.new.result c.args.variable _ _ c.new.ensures c.in_ok-cv.ensures.value) Mobile c.in-Mobile.is _ _ _ _ e.outside e.answer e.«record» e.cells in
    record { answer = d.answer; after = d.after; rest = d.rest; refused = search rules; lenders = search rules }

pub returns-in-Basic : goal.returns-in-Basic
returns-in-Basic g c =
    let e = c.set_variable-in-Basic.ensures in
    let d = set_in c.args.kinds.now _ c.args.decoder c.in_ok-slot.slot (at g (goal.at.returns-in-Basic g c).In_ok-slot) c.args.variable c.args.value c.in_ok-cv.cv (a_cv c.new.result c.args.variable _ _ c.new.ensures c.in_ok-cv.ensures.value) Basic c.in-Basic.is _ _ _ _ e.outside e.answer e.«record» e.cells in
    record { answer = d.answer; after = d.after; rest = d.rest; refused = search rules; lenders = search rules }

pub returns-in-Extended : goal.returns-in-Extended
returns-in-Extended g c =
    let e = c.set_variable-in-Extended.ensures in
    let d = set_in c.args.kinds.now _ c.args.decoder c.in_ok-slot.slot (at g (goal.at.returns-in-Extended g c).In_ok-slot) c.args.variable c.args.value c.in_ok-cv.cv (a_cv c.new.result c.args.variable _ _ c.new.ensures c.in_ok-cv.ensures.value) Extended c.in-Extended.is _ _ _ _ e.outside e.answer e.«record» e.cells in
    record { answer = d.answer; after = d.after; rest = d.rest; refused = search rules; lenders = search rules }

use Rattle.std.proofs.Common.{rules}
use Rattle.script.specs.declared.fit.Fit.TheVariants as fits
use Rattle.roster.specs.Held.{held}
use Rattle.board.specs.Slots.{fitting_kinds}
use Rattle.board.proofs.Joinings.{joins_in}
use Rattle.board.proofs.boards.Fitting.fit.Goals as goal

pub returns-in-Mobile : goal.returns-in-Mobile
returns-in-Mobile g c =
    let e = c.fit_mobile.ensures in
    let j = joins_in (fits.Mobile c.in-Mobile.address) (fitting_kinds c.args.self.now) _ (held g.M.Memory c.args.banks.now c.args.memory.now) _ _ _ _ c.in-Mobile.is e.outside e.answer e.added in
    record { answer = j.0; joins = j.1; lenders = search rules }

pub returns-in-Basic : goal.returns-in-Basic
returns-in-Basic g c =
    let e = c.fit_basic.ensures in
    let j = joins_in (fits.Basic c.in-Basic.address) (fitting_kinds c.args.self.now) _ (held g.M.Memory c.args.banks.now c.args.memory.now) _ _ _ _ c.in-Basic.is e.outside e.answer e.added in
    record { answer = j.0; joins = j.1; lenders = search rules }

pub returns-in-Extended : goal.returns-in-Extended
returns-in-Extended g c =
    let e = c.fit_extended.ensures in
    let j = joins_in (fits.Extended c.in-Extended.address) (fitting_kinds c.args.self.now) _ (held g.M.Memory c.args.banks.now c.args.memory.now) _ _ _ _ c.in-Extended.is e.outside e.answer e.added in
    record { answer = j.0; joins = j.1; lenders = search rules }

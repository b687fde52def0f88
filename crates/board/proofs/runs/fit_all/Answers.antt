use Rattle.std.proofs.Common.{◌≡◌, length, refl, subst, arith}
use Rattle.decoder.specs.declared.role.Address.TheVariants.{Short}
use Rattle.script.specs.declared.fit.Fit.TheVariants.{Mobile}
use Rattle.roster.specs.Held.{held}
use Rattle.roster.proofs.Takings.{lenders_then}
use Rattle.board.specs.Slots.{fitting_kinds}
use Rattle.board.specs.Steps.{FittedTo}
use Rattle.board.proofs.Scripts.{fitted_none, fitted_more}
use Rattle.board.proofs.runs.fit_all.Goals as goal

pub loop-i-init : goal.loop-i-init
loop-i-init g c = (fitted_none _ _ _ _ c.requires.new, record { mobiles = refl; basics = refl; extendeds = refl; memory = refl })

pub loop-i-preserved : goal.loop-i-preserved
loop-i-preserved g c = (
  fitted_more c.loop-i.invariant.0 _ (Mobile (Short 0)) (fitting_kinds c.fit.new.self) (held g.M.Memory c.fit.new.banks c.fit.new.memory) c.fit.result c.loop-i-test.true (omega arith) refl c.fit.ensures.answer c.fit.ensures.joins,
  lenders_then c.loop-i.invariant.1 c.fit.ensures.lenders,
)

pub returns-clause-fitted : goal.returns-clause-fitted
returns-clause-fitted g c =
    let b = c.loop-i in
    let e : b.i ≡ length c.args.fits.now = omega arith in
    subst (λ i. FittedTo i c.args.fits.now (held g.M.Memory c.args.banks.now c.args.memory.now) (fitting_kinds b.board) (held g.M.Memory b.banks b.memory) c.args.numbers.now b.numbers) e b.invariant.0

use Rattle.std.proofs.Common.{◌≡◌, [], length, refl, subst, arith}
use Rattle.script.specs.declared.call.Call.TheVariants.{Take}
use Rattle.roster.specs.Held.{held}
use Rattle.roster.proofs.Takings.{lenders_then}
use Rattle.board.specs.Slots.{running_kinds}
use Rattle.board.specs.Steps.{PerformedTo}
use Rattle.board.proofs.Scripts.{performed_none, performed_more}
use Rattle.board.proofs.runs.perform_all.Goals as goal

pub loop-i-init : goal.loop-i-init
loop-i-init g c = (performed_none _ _ _ _, record { mobiles = refl; basics = refl; extendeds = refl; memory = refl })

pub loop-i-preserved : goal.loop-i-preserved
loop-i-preserved g c = (
  performed_more c.loop-i.invariant.0 _ (Take (record { ref_ptr = (0, 0); now = [] })) (held g.M.Memory c.perform.new.banks c.perform.new.memory) c.perform.result c.requires.lent c.loop-i-test.true (omega arith) refl c.perform.ensures.answer c.perform.ensures.after c.perform.ensures.rest,
  lenders_then c.loop-i.invariant.1 c.perform.ensures.lenders,
)

pub returns-clause-performed : goal.returns-clause-performed
returns-clause-performed g c =
    let b = c.loop-i in
    let e : b.i ≡ length c.args.calls.now = omega arith in
    subst (λ i. PerformedTo i c.args.calls.now (running_kinds c.args.board.now) (held g.M.Memory c.args.banks.now c.args.memory.now) (held g.M.Memory b.banks b.memory) c.args.answers.now b.answers) e b.invariant.0

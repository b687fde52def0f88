use Rattle.std.proofs.Common.{length, sym, ap, ◌∙◌, subst}
use Rattle.script.specs.Boards.{Lent, is_lent}
use Rattle.script.proofs.Runs.{is_promised}
use Rattle.roster.specs.Held.{held}
use Rattle.board.specs.Steps.{FittedTo}
use Rattle.board.proofs.Scripts.{has_run, all_rest}
use Rattle.board.proofs.runs.run.Goals as goal

pub perform_all-requires-clause-lent : goal.perform_all-requires-clause-lent
perform_all-requires-clause-lent g c =
    let l₁ : Lent = held g.M.Memory c.fit_all.new.banks c.fit_all.new.memory in
    ap (λ ks. is_lent ks l₁) c.start-board.ensures ∙ c.fit_all.ensures.fitted.enough

pub returns-clause-promised : goal.returns-clause-promised
returns-clause-promised g c =
    let fs = c.args.fits.now in
    let l : Lent = held g.M.Memory c.args.banks.now c.args.memory.now in
    let l₁ : Lent = held g.M.Memory c.fit_all.new.banks c.fit_all.new.memory in
    let f = subst (λ ks. FittedTo (length fs) fs l ks l₁ c.args.numbers.now c.fit_all.new.numbers) (sym c.start-board.ensures) c.fit_all.ensures.fitted in
    let p = c.perform_all.ensures.performed in
    is_promised (has_run f p) (all_rest f p)

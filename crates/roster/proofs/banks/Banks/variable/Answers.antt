use Rattle.std.proofs.Common.{◌+◌, ◌*◌, length, Ok, Err, sym, refl, ap, ◌∙◌}
use Rattle.std.proofs.lemmas.Bool.{cond-true, cond-false, le-leb}
use Rattle.fault.specs.Places.{nowhere}
use Rattle.decoder.specs.Alone.{variable}
use Rattle.bank.specs.Windows.{window}
use Rattle.script.specs.Decoders.{if_variable, variable_in}
use Rattle.script.specs.Boards.{Lent}
use Rattle.roster.specs.Held.{seen}
use Rattle.roster.proofs.Askings.{no_cv, a_cv, is_variable_lem, cv_number, asked_at, asked_window, slot_room, passed_on}
use Rattle.roster.proofs.banks.Banks.variable.Goals as goal

pub returns-in_err-cv-clause-answer : goal.returns-in_err-cv-clause-answer
returns-in_err-cv-clause-answer g c =
    let no = no_cv c.new.result c.args.number _ _ c.new.ensures c.in_err-cv.ensures.value in
    passed_on c.from_residual-in_err-cv.ensures.1 (asked_at c.args.kinds.now (seen g.M.Memory c.args.self c.args.memory.now) c.args.decoder (variable_in c.args.number) _ c.in_ok-slot.ensures ∙ cond-false _ _ _ no.0 ∙ ap Err (ap nowhere (sym no.1)))

pub returns-clause-answer : goal.returns-clause-answer
returns-clause-answer g c =
    let ks = c.args.kinds.now in
    let l : Lent = seen g.M.Memory c.args.self c.args.memory.now in
    let s = c.in_ok-slot.slot in
    let cv = c.in_ok-cv.cv in
    let at = c.in_ok-slot.ensures in
    let e = a_cv c.new.result c.args.number _ cv c.new.ensures c.in_ok-cv.ensures.value in
    c.variable.ensures.answer
    ∙ cond-true _ _ _ (le-leb (1024 * s + 1024) (length l.cells) (slot_room ks l c.args.decoder s at))
    ∙ ap (λ n. Ok (variable (window l.cells s) n)) (cv_number c.args.number cv e)
    ∙ sym (asked_window ks l c.args.decoder s at (variable_in c.args.number) (λ vars. if_variable c.args.number (variable vars c.args.number)) (λ d. refl) ∙ cond-true _ _ _ (is_variable_lem c.args.number cv e))

use Rattle.std.proofs.Common.{◌≡◌, ◌∙◌, Bool, List, ℕ, ◌++◌, take, ap, sym, refl, codes, rules}
use Rattle.std.proofs.Output.{has_written_append, has_written_of_eq}
use Rattle.std.proofs.lemmas.List.{take_all}
use Rattle.std.specs.Fmt.{decimal}
use Rattle.std.specs.List.{join_by}
use Rattle.words.specs.Lists.{numbers_on, numbers_text}
use Rattle.words.proofs.Written.{before_next_more, joined_more, after_on, after_off, text_of_none, text_of_some}
use Rattle.words.proofs.lists.NumbersOnDisplay.fmt.Goals as goal
use Rattle.words.proofs.lists.NumbersOnDisplay.fmt.Goals.{then-on+in_ok-write, else-on}

pub loop-number-init : goal.loop-number-init
unfolding numbers_on
loop-number-init g c = (search rules, refl, λ plain. search rules)

pub loop-number-preserved : goal.loop-number-preserved
loop-number-preserved g c =
    let so_far = c.loop-number.invariant in
    let i = c.loop-number.number-counter in
    let switches = c.args.self.now.switches.now in
    let listed = numbers_on (take i switches) in
    elim c.if-on.branch [
      | then-on+in_ok-write w ↦
          rw (w.separator-is, w.f-is, ← after_on switches i c.loop-number-test.true w.if-on.true) (
            search rules,
            sym (before_next_more (codes ",") listed i),
            λ plain.
                let wrote = so_far.2 plain in
                has_written_of_eq _ _ _ _ _
                (ap (λ (s : List ℕ). join_by decimal (codes ",") listed ++ (s ++ decimal i)) so_far.1 ∙ joined_more decimal (codes ",") listed i)
                (has_written_append _ _ _ _ _ _ wrote (w.in_ok-write.ensures.writes wrote.plain refl)),
          )
      | else-on w ↦ rw (w.separator-is, w.f-is, ← after_off switches i c.loop-number-test.true w.if-on.false) so_far
    ]

pub returns-in_ok-write_str-clause-writes : goal.returns-in_ok-write_str-clause-writes
returns-in_ok-write_str-clause-writes g c = λ plain _.
    let so_far = c.loop-number.invariant in
    let switches = c.args.self.now.switches.now in
    let none = c.args.self.now.none.now in
    let all : take c.loop-number.number-counter switches ≡ switches = take_all _ switches c.loop-number-test.false in
    let wrote = so_far.2 plain in
    has_written_of_eq _ _ _ _ _ (text_of_none none _ (rw so_far.1 at c.if-is_empty.ensures) ∙ ap (λ (s : List Bool). numbers_text none (numbers_on s)) all)
    (has_written_append _ _ _ _ _ _ wrote (c.in_ok-write_str.ensures.writes wrote.plain refl))

pub returns-else-is_empty-clause-writes : goal.returns-else-is_empty-clause-writes
returns-else-is_empty-clause-writes g c = λ plain _.
    let so_far = c.loop-number.invariant in
    let switches = c.args.self.now.switches.now in
    let none = c.args.self.now.none.now in
    let all : take c.loop-number.number-counter switches ≡ switches = take_all _ switches c.loop-number-test.false in
    has_written_of_eq _ _ _ _ _ (text_of_some none _ (rw so_far.1 at c.if-is_empty.ensures) ∙ ap (λ (s : List Bool). numbers_text none (numbers_on s)) all) (so_far.2 plain)

use Rattle.std.proofs.Common.{◌≡◌, map, Option, Some, None, option_map, refl, sym, ap, ◌∙◌, rules}
use Rattle.std.specs.Option.{ok_or}
use Rattle.std.proofs.lemmas.Iterator.{YieldsList}
use Rattle.std.proofs.lemmas.Iterator.Consumers.{YieldsList-from_filter_map, nth_from_yields_List, YieldsList-at}
use Rattle.std.proofs.lemmas.Bool.{cond-true}
use borrow.Author.Tests.{tests}
use Rattle.block.specs.Reading.{reading}
use Rattle.block.specs.Walking.{Advances, item_as, items_of}
use Rattle.block.proofs.Handings.{item_lent, handed}
use Rattle.block.proofs.packets.packet_at.Goals as goal

map_same : {X : Type 0} (o : Option X) → option_map (λ x. x) o ≡ o
map_same None = refl
map_same (Some x) = refl

pub returns : goal.returns
returns c =
    let b = c.args.block in
    let all = map (item_as b) (items_of b.now (reading b.now)) in
    let items : YieldsList Advances (λ x. x) c.in_ok-new.field-0 all
    = record { runs = c.in_ok-new.ensures.gives }
    in
    let source = YieldsList-at c.filter_map.ensures.source items in
    let at =
    nth_from_yields_List c.nth.result _ c.args.n c.nth.ensures.ran
    (YieldsList-from_filter_map _ item_lent source c.filter_map.ensures.closure
    (λ x r q k. search (rules, tests)))
    in
    c.ok_or.ensures.value ∙ ap (ok_or c.nth.result) c.into.ensures
    ∙ handed b c.nth.result c.args.n (sym (map_same c.nth.result) ∙ at)
    ∙ sym (cond-true _ _ _ c.in_ok-new.ensures.begins.0)

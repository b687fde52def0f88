use Rattle.std.proofs.Common.{◌≡◌, ◌+◌, eqb, not, option_map, drop, length-drop, ap, ◌∙◌, rules}
use Rattle.std.proofs.lemmas.Iterator.{YieldsList-from_slice}
use Rattle.std.proofs.lemmas.List.{take_all}
use Rattle.std.proofs.lemmas.Iterator.Search.{position_from_yields_List}
use borrow.Author.Tests.{tests}
use Rattle.block.proofs.Fills.{nonzero_position}
use Rattle.block.proofs.records.first_nonzero.Goals as goal

pub returns : goal.returns
returns c =
    let b = c.args.block.now in
    let o = c.args.offset in
    let rest : c.in_ok-rest.rest.now ≡ drop o b = search (rules, take_all, length-drop) in
    let at = position_from_yields_List (λ x. not (eqb x 0)) _ _ c.position.result c.position.ensures.ran (YieldsList-from_slice (drop o b) (c.iter.ensures.rest ∙ rest)) (λ x b q k. search (rules, tests)) in
    let found : c.map.result ≡ option_map (λ k. o + k) c.position.result = search rules in
    found ∙ ap (option_map (λ k. o + k)) at ∙ nonzero_position o (drop o b)

use Rattle.std.proofs.Common.{ℕ, cond, sym, ◌∙◌, rules}
use Rattle.std.proofs.lemmas.Iterator.{YieldsList-from_slice, YieldsList-from_map}
use Rattle.std.proofs.lemmas.Iterator.Consumers.{YieldsList-at, sum_by_from_yields_List, fits_by_from_yields_list}
use Rattle.std.proofs.lemmas.List.Sums.{count_by-le-length}
use Rattle.bank.specs.declared.kind.Kind.{Kind}
use Rattle.bank.specs.declared.kind.Kind.TheVariants.{Mobile}
use Rattle.bank.specs.Kinds.{same_kind, is_kind}
use Rattle.bank.proofs.Counts.{as_cond, count_list}
use Rattle.bank.proofs.Sames.{same_by}
use Rattle.bank.proofs.counting.count_of.Goals as goal

pub sum-requires-clause-fits : goal.sum-requires-clause-fits
sum-requires-clause-fits c =
    let h : Kind → ℕ = λ k. cond (same_kind c.args.kind k) 1 0 in
    let few = count_by-le-length (same_kind c.args.kind) c.args.kinds.now in
    fits_by_from_yields_list h c.args.kinds.now c.map.result _
    (YieldsList-from_map _ h (YieldsList-at c.map.ensures.source (YieldsList-from_slice c.args.kinds.now (cc))) c.map.ensures.closure (λ x r q k. search (rules, same_by, as_cond))) (search rules)

pub returns : goal.returns
unfolding is_kind
returns c =
    let h : Kind → ℕ = λ k. cond (same_kind c.args.kind k) 1 0 in
    sum_by_from_yields_List h c.args.kinds.now c.map.result c.sum.result c.sum.ensures.ran
    (YieldsList-from_map _ h (YieldsList-at c.map.ensures.source (YieldsList-from_slice c.args.kinds.now (cc))) c.map.ensures.closure (λ x r q k. search (rules, same_by, as_cond))) ∙ sym (count_list (same_kind c.args.kind) c.args.kinds.now Mobile)

use Rattle.std.proofs.Common.{◌≡◌, ◌+◌, ◌-◌, true, false, length, drop, option_map, sym, ◌∙◌, subst, arith, length-drop, rules}
use Rattle.std.proofs.lemmas.Iterator.{YieldsList-from_slice, IsFirst-from_position}
use Rattle.std.proofs.lemmas.List.{take_all}
use borrow.Author.Tests.{tests}
use Rattle.bank.specs.Kinds.{same_kind, is_kind}
use Rattle.bank.specs.Slots.{NextOf}
use Rattle.bank.proofs.Nexts.{next_of}
use Rattle.bank.proofs.Sames.{same_by}
use Rattle.bank.proofs.slots.SlotsOf.ahead.Goals as goal

pub returns : goal.returns
returns c =
    let self = c.args.self.now in
    let rest = drop self.from self.kinds.now in
    let all = take_all (length self.kinds.now - self.from) rest (let d = length-drop self.from self.kinds.now in omega arith) in
    let first = next_of self.kinds.now self.kind self.from self.within c.position.result
    (IsFirst-from_position _ _ c.position.result (λ k. true ≡ same_kind self.kind k) (λ k. false ≡ same_kind self.kind k) c.position.ensures.ran (YieldsList-from_slice rest (c.iter-others.ensures.rest ∙ all)) (λ x q k. search (rules, tests, same_by)) (λ x q k. search (rules, tests, same_by))) in
    let mapped : c.map.result ≡ option_map (λ k. self.from + k) c.position.result = search rules in
    subst (λ r. NextOf (is_kind self.kinds.now self.kind) (length self.kinds.now) self.from r) (sym mapped) first

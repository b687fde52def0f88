use Rattle.std.proofs.Common.{◌≡◌, ◌+◌, ◌<◌, ◌≤◌, length, get_or, Some, None, sym, refl, ap, ◌∙◌, subst, arith, rules}
use Rattle.std.proofs.lemmas.List.{get_or_default}
use Rattle.decoder.specs.Alone.{own}
use Rattle.bank.specs.Windows.{window}
use Rattle.bank.specs.Hearers.{after_hearing}
use Rattle.bank.specs.Kinds.{is_kind}
use Rattle.bank.specs.Slots.{NextOf}
use Rattle.bank.specs.Banks.{hears_at}
use Rattle.bank.proofs.Counts.{count_none, count_less, count_hit, count_most, byte_more}
use Rattle.bank.proofs.Nexts.{next_in}
use Rattle.bank.proofs.Turns.{start_turned, start_kept, hit_turned, skip_turned, hit_kept, skip_kept, idle-window, heard_at, skip_heard}
use Rattle.bank.proofs.delivery.deliver_all.Given.{Over}
use Rattle.bank.proofs.delivery.deliver_all.Goals as goal
use Rattle.bank.proofs.delivery.deliver_all.Goals.{In-Some, In-None}

pub loop-number-init : goal.loop-number-init
loop-number-init g c =
    let front : c.into_iter-number-iterator.result.iter.from ≡ 0 = search rules in
    let first : c.into_iter-number-iterator.result.count ≡ 0 = search rules in
    record {
      can = search rules;
      ends = tt;
      kind = search rules;
      kinds = search rules;
      number = rw front (first ∙ sym (count_none _));
      turned = rw front start_turned;
      kept = rw front start_kept;
      heard = rw front (sym (count_none _));
      outside = refl;
      lenders = refl;
    }

-- the slot whose turn it is
at_slot : (g : Over) (c : In-Some g) → NextOf (is_kind c.args.kinds.now c.args.kind) (length c.args.kinds.now) c.loop-number.number-iterator.iter.from (Some c.in-Some.slot)
at_slot g c = next_in c.loop-number.invariant.kind c.loop-number.invariant.kinds c.in-Some.ensures.steps.0

in_bank : (g : Over) (c : In-Some g) → c.in-Some.number < length c.loop-number.bank
in_bank g c =
    let s = at_slot g c in
    let l = count_less (is_kind c.args.kinds.now c.args.kind) c.in-Some.slot _ s.1 s.2 in
    omega (arith, s.3, c.in-Some.ensures.steps.1, c.loop-number.invariant.number, c.requires.records, c.loop-number.auto.bank)

pub bounds-bank-number : goal.bounds-bank-number
bounds-bank-number g c = in_bank g (goal.at.bounds-bank-number g c).In-Some

pub offset_bounds-bank-number : goal.offset_bounds-bank-number
offset_bounds-bank-number g c = let l = in_bank g (goal.at.offset_bounds-bank-number g c).In-Some in search rules

pub overflow_add-heard : goal.overflow_add-heard
overflow_add-heard g c =
    let s = at_slot g (goal.at.overflow_add-heard g c).In-Some in
    let m = count_most (hears_at g.T.Listener.rules c.args.said.target (is_kind c.args.kinds.now c.args.kind) c.args.bank.now (g.M.Memory.cells c.args.memory.now)) c.loop-number.number-iterator.iter.from in
    let h = c.loop-number.invariant.heard in
    search rules

pub loop-number-preserved : goal.loop-number-preserved
loop-number-preserved g c =
    let d = (goal.at.loop-number-preserved g c).In-Some in
    let inv = c.loop-number.invariant in
    let a = c.in-Some.ensures.steps.0 in
    let s = at_slot g d in
    let r = in_bank g d in
    let at = c.in-Some.ensures.steps.1 ∙ inv.number ∙ sym s.3 in
    let turned = skip_turned inv.turned s.0 s.3 in
    let kept = skip_kept inv.kept s.0 in
    let x = get_or c.loop-number.bank c.in-Some.number c.index-bank-number.result in
    let read = get_or_default _ _ _ _ r in
    let after = after_hearing g.T.Listener.rules c.args.packet.now c.args.said.target c.args.said.instruction (own x (window (g.M.Memory.cells c.loop-number.memory) c.in-Some.slot)) in
    record {
      can = search rules;
      ends = tt;
      kind = a.kind ∙ inv.kind;
      kinds = a.kinds ∙ inv.kinds;
      number = rw a.moves (c.in-Some.ensures.steps.2 ∙ ap (λ k. k + 1) (inv.number ∙ sym s.3) ∙ sym (count_hit _ _ s.2));
      turned = rw a.moves (hit_turned turned s.2 (idle-window kept) x at r read (search rules) (search rules));
      kept = rw a.moves (hit_kept kept {w = after.vars} s.2 (search rules));
      heard = rw a.moves (byte_more _ _ c.from-heard.ensures (search rules ∙ sym (heard_at turned g.T.Listener.rules c.args.said.target x s.2 (idle-window kept) at r read)) (inv.heard ∙ sym (skip_heard _ _ _ _ _ s.0 s.3)));
      outside = search rules;
      lenders = search rules;
    }

-- the slots that are left are within, and of other kinds
at_end : (g : Over) (c : In-None g) → let from = c.loop-number.number-iterator.iter.from in (from ≤ length c.args.kinds.now) × NextOf (is_kind c.args.kinds.now c.args.kind) (length c.args.kinds.now) from None
at_end g c = (
  subst (λ ks. c.loop-number.number-iterator.iter.from ≤ length ks) c.loop-number.invariant.kinds c.loop-number.number-iterator.iter.within,
  next_in c.loop-number.invariant.kind c.loop-number.invariant.kinds c.in-None.ensures.steps.0,
)

pub returns-clause-answer : goal.returns-clause-answer
returns-clause-answer g c = let e = at_end g c in c.loop-number.invariant.heard ∙ sym (skip_heard _ _ _ _ _ e.0 e.1)

pub returns-clause-turned : goal.returns-clause-turned
returns-clause-turned g c = let e = at_end g c in skip_turned c.loop-number.invariant.turned e.0 e.1

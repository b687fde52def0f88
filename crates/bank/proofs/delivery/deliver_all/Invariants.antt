use Rattle.std.proofs.Common.{◌≡◌}
use Rattle.std.specs.Iterator.Adapters.{enumerate_source, enumerate_count}
use Rattle.bank.specs.Kinds.{count_below, is_kind}
use Rattle.bank.specs.Hearers.{after_hearing}
use Rattle.bank.specs.Banks.{Turned, Kept, hears_at}
use Rattle.bank.proofs.delivery.deliver_all.Given as goal

abbrev pub invariant-loop-number : goal.invariant-loop-number
invariant-loop-number g l =
    let m = g.T.Listener.rules in
    let cells = g.M.Memory.cells in
    let h = is_kind l.kinds l.fn.kind in
    let slots = enumerate_source l.number-iterator in
    record {
      can : (goal.iterator-loop-number g).can_next l.number-iterator;
      ends : (goal.iterator-loop-number g).is_finite l.number-iterator;
      kind : slots.kind ≡ l.fn.kind;
      kinds : slots.kinds.now ≡ l.kinds;
      number : enumerate_count l.number-iterator ≡ count_below h slots.from;
      turned : Turned h slots.from (λ _. after_hearing m l.packet l.said.target l.said.instruction) l.initial.bank (cells l.initial.memory) l.bank (cells l.memory);
      kept : Kept h slots.from (cells l.initial.memory) (cells l.memory);
      heard : l.heard ≡ count_below (hears_at m l.said.target h l.initial.bank (cells l.initial.memory)) slots.from;
      outside : g.M.Memory.outside l.memory ≡ g.M.Memory.outside l.initial.memory;
      lenders : g.M.Memory.lenders l.memory ≡ g.M.Memory.lenders l.initial.memory;
    }

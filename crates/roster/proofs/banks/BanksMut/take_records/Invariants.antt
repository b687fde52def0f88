use Rattle.std.proofs.Common.{◌≡◌}
use Rattle.block.specs.Walking.{walked, stands_at}
use Rattle.roster.specs.Held.{held, SameLenders}
use Rattle.roster.proofs.Takings.{Midway}
use Rattle.roster.proofs.banks.BanksMut.take_records.Given as goal

abbrev pub invariant-loop-item : goal.invariant-loop-item
invariant-loop-item g l =
    Midway l.kinds (held g.M.Memory l.initial.self l.initial.memory) (held g.M.Memory l.self l.memory) l.block (stands_at l.item-iterator) l.taken
    × (walked l.item-iterator ≡ l.block)
    × SameLenders g.M.Memory l.initial.self l.initial.memory l.self l.memory

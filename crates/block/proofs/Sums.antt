-- What a survey comes to with what is left of its block.
use Rattle.std.proofs.Common.{◌≡◌, ℕ, ◌+◌, ◌≤◌, List, length, None, Option, add-zero}
use Rattle.fault.specs.declared.fault.Fault.{Fault}
use Rattle.block.specs.declared.summary.Survey.{Survey}
use Rattle.block.specs.declared.walk.Walk.{Walk}
use Rattle.block.specs.Reading.{Reading, reading, reading_from, carried, end_of, fault_of}
use Rattle.block.specs.Summing.{packet_count, power_up_count, summed}
use Rattle.block.specs.Walking.{walked, stands_at}

-- of a block of n bytes
abbrev pub added : ℕ → Survey → Reading → Survey
added n s r = record { packets = s.packets + packet_count (carried r); power_ups = s.power_ups + power_up_count (carried r); end = end_of n r; fault = fault_of r }

-- of the block b: the walk stands at s, and the survey so far is v
pub record Going (b : List ℕ) (s : Walk) (v : Survey) : Type 0 where
  pub sums : added (length b) v (reading_from b v.end) ≡ summed (length b) (reading b)
  pub over : walked s ≡ b
  pub at : stands_at s ≡ v.end
  pub inside : v.end ≤ length b
  pub counted : v.packets + v.power_ups ≤ v.end
  pub sound : v.fault ≡ None

-- nothing more is counted
pub added_none : (s : Survey) (e : ℕ) (f : Option Fault) → s.end ≡ e → s.fault ≡ f → s ≡ record { packets = s.packets + 0; power_ups = s.power_ups + 0; end = e; fault = f }
added_none s e f at is = rw (← at, ← is, add-zero s.packets, add-zero s.power_ups)

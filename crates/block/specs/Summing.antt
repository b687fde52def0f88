-- How much a block carries.
use Rattle.std.specs.Prelude.{ℕ, suc, cond, List, [], ◌∷◌, length, Ok, Err, Result}
use Rattle.fault.specs.declared.fault.Fault.{Fault}
use Rattle.fault.specs.declared.refusal.Refusal.TheVariants.{BlockLength}
use Rattle.block.specs.declared.summary.Survey.{Survey}
use Rattle.fault.specs.Places.{fault_at}
use Rattle.block.specs.Contents.{Thing, is_block_length}
use Rattle.block.specs.Contents.Thing.{fill, power_up, packet}
use Rattle.block.specs.Reading.{Reading, reading, carried, end_of, fault_of}

-- how many of the records are packets, and how many are power-ups
abbrev pub packet_count : List (ℕ × Thing) → ℕ
packet_count [] = 0
packet_count ((o, fill) ∷ rs) = packet_count rs
packet_count ((o, power_up) ∷ rs) = packet_count rs
packet_count ((o, packet p) ∷ rs) = suc (packet_count rs)

abbrev pub power_up_count : List (ℕ × Thing) → ℕ
power_up_count [] = 0
power_up_count ((o, fill) ∷ rs) = power_up_count rs
power_up_count ((o, power_up) ∷ rs) = suc (power_up_count rs)
power_up_count ((o, packet p) ∷ rs) = power_up_count rs

-- what a reading of a block of n bytes comes to
abbrev pub summed : ℕ → Reading → Survey
summed n r = record { packets = packet_count (carried r); power_ups = power_up_count (carried r); end = end_of n r; fault = fault_of r }

-- the survey of the block b; a bad length is refused
abbrev pub surveyed : List ℕ → Result Survey Fault
surveyed b = cond (is_block_length (length b)) (Ok (summed (length b) (reading b))) (Err (fault_at BlockLength 0))

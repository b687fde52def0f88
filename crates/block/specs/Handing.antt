-- Which part of a block its n-th packet is.
use Rattle.std.specs.Prelude.{ℕ, ◌+◌, ◌-◌, cond, List, [], ◌∷◌, length, take, drop, Some, None, Ok, Err, Option, Result, ◌==◌}
use Rattle.std.specs.Borrow.{Bor}
use Rattle.fault.specs.declared.fault.Fault.{Fault}
use Rattle.fault.specs.declared.refusal.Refusal.TheVariants.{BlockLength, NumberOutOfRange}
use Rattle.fault.specs.Places.{fault_at}
use Rattle.block.specs.Contents.{Thing, is_block_length, part}
use Rattle.block.specs.Contents.Thing.{fill, power_up, packet}
use Rattle.block.specs.Reading.{reading, carried}

-- where the kind byte of the packet stands that n others stand before, and how many bytes it has
abbrev pub packet_place : ℕ → List (ℕ × Thing) → Option (ℕ × ℕ)
packet_place n [] = None
packet_place n ((o, fill) ∷ rs) = packet_place n rs
packet_place n ((o, power_up) ∷ rs) = packet_place n rs
packet_place n ((o, packet p) ∷ rs) = cond (n == 0) (Some (o, length p)) (packet_place (n - 1) rs)

-- the part of the block b behind the kind byte at that place
abbrev pub part_at : Bor (List ℕ) → Option (ℕ × ℕ) → Result (Bor (List ℕ)) Fault
part_at b None = Err (fault_at NumberOutOfRange 0)
part_at b (Some (o, k)) = Ok (part b (o + 1) (take k (drop (o + 1) b.now)))

-- the n-th packet of the block b, counted from 0, as that part of it; a bad length is refused first
abbrev pub handed_out : Bor (List ℕ) → ℕ → Result (Bor (List ℕ)) Fault
handed_out b n =
    cond (is_block_length (length b.now)) (part_at b (packet_place n (carried (reading b.now))))
    (Err (fault_at BlockLength 0))

-- the bytes of such a part, wherever they lie
abbrev pub bytes_in : Result (Bor (List ℕ)) Fault → Result (List ℕ) Fault
bytes_in (Ok p) = Ok p.now
bytes_in (Err e) = Err e

-- Reading and writing undo each other, and why a packet is not written.
use Rattle.std.specs.Prelude.{◌≡◌, ℕ, ◌<◌, List, length, take, Ok, Err, Result}
use Rattle.fault.specs.declared.fault.Fault.{Fault}
use Rattle.fault.specs.declared.refusal.Refusal.TheVariants.{FieldOutOfRange, PlaceTooShort}
use Rattle.fault.specs.Places.{nowhere}
use Rattle.packet.specs.declared.target.Target.{Target}
use Rattle.packet.specs.declared.instruction.Instruction.{Instruction}
use Rattle.packet.specs.declared.packet.Packet.{Packet}
use Rattle.format.specs.Reading.{packet_of, packet_read}
use Rattle.format.specs.Writing.{Coded, encoded}

-- r is an answer to the bytes: what it accepts is written back to the bytes themselves
abbrev pub WrittenBack : List ℕ → Result Packet Fault → Type 0
WrittenBack bs r = (p : Packet) → r ≡ Ok p → encoded p.target p.instruction ≡ Ok bs

-- and it accepts whatever some target and instruction write
abbrev pub AllAccepted : List ℕ → Result Packet Fault → Type 0
AllAccepted bs r = (t : Target) (i : Instruction) → encoded t i ≡ Ok bs → r ≡ Ok (packet_of t i)

-- what was written to the front of a place reads as itself
abbrev pub ReadsBack : Target → Instruction → Result ℕ Fault → List ℕ → Type 0
ReadsBack t i r place = (n : ℕ) → r ≡ Ok n → packet_read (take n place) ≡ Ok (packet_of t i)

-- why a packet is not put into a place: its target or its instruction has no bytes, or they are more than the place has
abbrev pub IsWhy : Coded → List ℕ → Fault → Type 0
IsWhy (Ok bs) place f = (length place < length bs) × (f ≡ nowhere PlaceTooShort)
IsWhy (Err d) place f = f ≡ nowhere FieldOutOfRange

-- so a write is refused with 20 or 21 alone, and with 21 only where the place is too short
abbrev pub Unwritten : Target → Instruction → List ℕ → Result ℕ Fault → Type 0
Unwritten t i place r = (f : Fault) → r ≡ Err f → IsWhy (encoded t i) place f

-- What stands at one place of a block.
use Rattle.std.specs.Prelude.{◌≡◌, ℕ, ◌+◌, ◌<◌, ◌≤◌, Bool, cond, ◌&&◌, List, [], ◌∷◌, length, take, drop, Some, None, Ok, Err, Option, Result, ◌==◌, nat_le, nat_lt, slice_index}
use Rattle.std.specs.Borrow.{Bor}
use Rattle.fault.specs.declared.fault.Fault.{Fault}
use Rattle.fault.specs.declared.refusal.Refusal.TheVariants.{BlockLength, UnknownKind, BodyCutOff, NonzeroFill}
use Rattle.fault.specs.Places.{fault_at}
use Rattle.block.specs.declared.records.Record.{Record}
use Rattle.block.specs.declared.records.Record.TheVariants.{Fill, PowerUp, Packet}
use Rattle.block.specs.declared.records.Carried.{Carried}

-- a block has 1 to 512 bytes
abbrev pub is_block_length : ℕ → Bool
is_block_length n = nat_le 1 n && nat_le n 512

-- any other length is refused
abbrev pub length_checked : ℕ → Result (Unit {0}) Fault
length_checked n = cond (is_block_length n) (Ok tt) (Err (fault_at BlockLength 0))

-- what a record is, with its packet's bytes
pub data Thing : Type 0 where
  fill : Thing
  power_up : Thing
  packet : List ℕ → Thing

-- kinds 03 to 06 hold a packet of that many bytes
abbrev pub kind_is_packet : ℕ → Bool
kind_is_packet k = nat_le 3 k && nat_le k 6

-- where the first byte of a list stands that is not zero, if the list begins at o
unfoldable pub first_nonzero : ℕ → List ℕ → Option ℕ
first_nonzero o [] = None
first_nonzero o (x ∷ xs) = cond (x == 0) (first_nonzero (o + 1) xs) (Some o)

-- the same from the offset o of the block b on
abbrev pub first_nonzero_from : List ℕ → ℕ → Option ℕ
first_nonzero_from b o = first_nonzero o (drop o b)

-- only zero bytes may follow fill
abbrev pub fill_unless : Option ℕ → Result Thing Fault
fill_unless None = Ok fill
fill_unless (Some at) = Err (fault_at NonzeroFill at)

-- the record at o whose kind byte is k and behind which the bytes xs stand
abbrev pub thing_of : ℕ → ℕ → List ℕ → Result Thing Fault
thing_of o k xs =
    cond (k == 0x00) (fill_unless (first_nonzero (o + 1) xs))
    (cond (k == 0x10) (Ok power_up)
    (cond (kind_is_packet k)
    (cond (nat_lt (length xs) k) (Err (fault_at BodyCutOff o)) (Ok (packet (take k xs))))
    (Err (fault_at UnknownKind o))))

-- a record of a block: where it begins, what it is, where the next one begins
pub record Placed : Type 0 where
  pub from : ℕ
  pub thing : Thing
  pub up_to : ℕ

-- where the record t at o ends; after fill nothing is left of the block b
abbrev pub ends_at : List ℕ → ℕ → Thing → ℕ
ends_at b o fill = length b
ends_at b o power_up = o + 1
ends_at b o (packet p) = o + 1 + length p

-- with its place
abbrev pub placed : List ℕ → ℕ → Result Thing Fault → Result (Option Placed) Fault
placed b o (Ok t) = Ok (Some (record { from = o; thing = t; up_to = ends_at b o t }))
placed b o (Err e) = Err e

-- the record of the block b that begins at o, none at the end of b or past it
abbrev pub record_at : List ℕ → ℕ → Result (Option Placed) Fault
record_at b o = cond (nat_lt o (length b)) (placed b o (thing_of o (slice_index b o) (drop (o + 1) b))) (Ok None)

-- what the code holds, without references
abbrev pub thing_in : Record → Thing
thing_in Fill = fill
thing_in PowerUp = power_up
thing_in (Packet p) = packet p.now

abbrev pub placed_in : Carried → Placed
placed_in c = record { from = c.offset; thing = thing_in c.«record»; up_to = c.next }

abbrev pub found : Result (Option Carried) Fault → Result (Option Placed) Fault
found (Ok None) = Ok None
found (Ok (Some c)) = Ok (Some (placed_in c))
found (Err e) = Err e

-- the bytes p that stand in the block b from its offset o on: that very memory, o bytes further
abbrev pub part : Bor (List ℕ) → ℕ → List ℕ → Bor (List ℕ)
part b o p = record { ref_ptr = (b.ref_ptr.0, b.ref_ptr.1 + o); now = p }

-- a packet of a record that begins at o is the part of the block behind the kind byte
abbrev pub LiesIn : Bor (List ℕ) → ℕ → Record → Type 0
LiesIn b o Fill = Unit {0}
LiesIn b o PowerUp = Unit {0}
LiesIn b o (Packet p) = p ≡ part b (o + 1) p.now

-- the next record begins behind this one's kind byte, and within the block or at its end
abbrev pub Within : Bor (List ℕ) → ℕ → Result (Option Carried) Fault → Type 0
Within b o (Ok None) = Unit {0}
Within b o (Ok (Some c)) = (o < c.next) × (c.next ≤ length b.now) × LiesIn b c.offset c.«record»
Within b o (Err e) = Unit {0}

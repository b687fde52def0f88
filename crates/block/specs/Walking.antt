-- A walk over a block, one record at a time.
use Rattle.std.specs.Prelude.{◌≡◌, ℕ, ◌+◌, true, false, List, [], ◌∷◌, length, map, Some, None, Ok, Err, Option, Result}
use Rattle.std.specs.Borrow.{Bor}
use Rattle.std.specs.Iterator.{AlwaysYields}
use Rattle.fault.specs.declared.fault.Fault.{Fault}
use Rattle.fault.specs.declared.refusal.Refusal.TheVariants.{BlockLength}
use Rattle.block.specs.declared.records.Carried.{Carried}
use Rattle.block.specs.declared.records.Record.{Record}
use Rattle.block.specs.declared.records.Record.TheVariants.{Fill, PowerUp, Packet}
use Rattle.block.specs.declared.walk.Walk.{Walk}
use Rattle.fault.specs.Places.{fault_at}
use Rattle.block.specs.Contents.{Thing, Placed, placed_in, record_at, ends_at, is_block_length, part, LiesIn}
use Rattle.block.specs.Contents.Thing.{fill, power_up, packet}
use Rattle.block.specs.Reading.{Reading, reading}
use Rattle.block.specs.Reading.Reading.{done, filled, broken, more}

-- the block that is walked, and where the walk stands
abbrev pub walked : Walk → List ℕ
walked w = w.block.now

abbrev pub stands_at : Walk → ℕ
stands_at w = w.offset

-- the place of the block in memory
abbrev pub lies_at : Walk → ℕ × ℕ
lies_at w = w.block.ref_ptr

-- a new walk over b stands at its front; a bad length is refused
abbrev pub Begins : Bor (List ℕ) → Result Walk Fault → Type 0
Begins b (Ok w) =
    (is_block_length (length b.now) ≡ true) × (walked w ≡ b.now) × (stands_at w ≡ 0)
    × (lies_at w ≡ b.ref_ptr)
Begins b (Err e) = (is_block_length (length b.now) ≡ false) × (e ≡ fault_at BlockLength 0)

-- the item that a call gives at a place where `record_at` says r
abbrev pub item_of : Result (Option Placed) Fault → Option (Result Placed Fault)
item_of (Ok None) = None
item_of (Ok (Some p)) = Some (Ok p)
item_of (Err e) = Some (Err e)

-- where the walk over a block of n bytes stands after a call at o: behind the record, at the end after a fault
abbrev pub afterwards : ℕ → ℕ → Result (Option Placed) Fault → ℕ
afterwards n o (Ok None) = o
afterwards n o (Ok (Some p)) = p.up_to
afterwards n o (Err e) = n

-- what the code holds, without references
abbrev pub item_in : Result Carried Fault → Result Placed Fault
item_in (Ok c) = Ok (placed_in c)
item_in (Err e) = Err e

abbrev pub given_in : Option (Result Carried Fault) → Option (Result Placed Fault)
given_in None = None
given_in (Some x) = Some (item_in x)

-- a packet that is given is a part of the block b
abbrev pub GivenIn : Bor (List ℕ) → Option (Result Carried Fault) → Type 0
GivenIn b None = Unit {0}
GivenIn b (Some (Ok c)) = LiesIn b c.offset c.«record»
GivenIn b (Some (Err e)) = Unit {0}

-- a call of `next` at s gives r and leaves t
pub record Advances (s : Walk) (r : Option (Result Carried Fault)) (t : Walk) : Type 0 where
  pub item : given_in r ≡ item_of (record_at (walked s) (stands_at s))
  pub same : walked t ≡ walked s
  pub moves : stands_at t ≡ afterwards (length (walked s)) (stands_at s) (record_at (walked s) (stands_at s))
  pub lies : lies_at t ≡ lies_at s
  pub within : GivenIn s.block r

-- the item of the record t at o
abbrev pub item_at : List ℕ → ℕ → Thing → Result Placed Fault
item_at b o t = Ok (record { from = o; thing = t; up_to = ends_at b o t })

-- all items of a walk over b: its records, then fill or the fault
abbrev pub items_of : List ℕ → Reading → List (Result Placed Fault)
items_of b done = []
items_of b (filled o) = item_at b o fill ∷ []
items_of b (broken o e) = Err e ∷ []
items_of b (more o t r) = item_at b o t ∷ items_of b r

-- an item as the code holds it, where a packet is the part of the block b behind its kind byte
abbrev pub record_as : Bor (List ℕ) → ℕ → Thing → Record
record_as b o fill = Fill
record_as b o power_up = PowerUp
record_as b o (packet p) = Packet (part b (o + 1) p)

abbrev pub item_as : Bor (List ℕ) → Result Placed Fault → Result Carried Fault
item_as b (Ok p) =
    Ok (record { offset = p.from; «record» = record_as b p.from p.thing; next = p.up_to })
item_as b (Err e) = Err e

-- calls of `next` on a new walk give just those items in turn, and then none
abbrev pub GivesAll : Bor (List ℕ) → Result Walk Fault → Type 0
GivesAll b (Ok w) =
    AlwaysYields Advances (λ x. x) w (map (item_as b) (items_of b.now (reading b.now)))
GivesAll b (Err e) = Unit {0}

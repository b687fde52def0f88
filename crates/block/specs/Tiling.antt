-- What a survey tells of the block itself.
use Rattle.std.specs.Prelude.{◌≡◌, ℕ, ◌+◌, ◌<◌, ◌≤◌, ◌⊎◌, List, [], ◌∷◌, length, take, drop, Some, None, Ok, Err, Option, Result, slice_index, slice_index_or}
use Rattle.std.specs.List.{AllByRecursion}
use Rattle.fault.specs.declared.fault.Fault.{Fault}
use Rattle.fault.specs.declared.refusal.Refusal.TheVariants.{UnknownKind, BodyCutOff, NonzeroFill}
use Rattle.block.specs.declared.summary.Survey.{Survey}
use Rattle.fault.specs.Places.{fault_at}
use Rattle.block.specs.Contents.{Thing}
use Rattle.block.specs.Contents.Thing.{fill, power_up, packet}
use Rattle.block.specs.Reading.{reading, carried, fault_of}

-- a record that can be carried: a power-up, or a packet of 3 to 6 bytes
abbrev pub IsCarried : Thing → Type 0
IsCarried fill = ⊥
IsCarried power_up = Unit {0}
IsCarried (packet p) = (3 ≤ length p) × (length p ≤ 6)

-- its bytes: the kind byte, then the body
abbrev pub bytes_of : Thing → List ℕ
bytes_of fill = 0x00 ∷ []
bytes_of power_up = 0x10 ∷ []
bytes_of (packet p) = length p ∷ p

-- the record t stands in the block b at o
pub record Stands (b : List ℕ) (o : ℕ) (t : Thing) : Type 0 where
  pub kind : IsCarried t
  pub bytes : take (length (bytes_of t)) (drop o b) ≡ bytes_of t

-- the records stand in b one right behind the other, the first at o, and the last ends at e
abbrev pub Tiles : List ℕ → ℕ → List (ℕ × Thing) → ℕ → Type 0
Tiles b o [] e = o ≡ e
Tiles b o ((at, t) ∷ rs) e = (at ≡ o) × Stands b o t × Tiles b (o + length (bytes_of t)) rs e

-- only zero bytes stand in b from o up to e
abbrev pub ZeroFrom : List ℕ → ℕ → ℕ → Type 0
ZeroFrom b o e = (k : ℕ) → o ≤ k → k < e → slice_index b k ≡ 0

-- the byte at e is none of 00, 10 and 03 to 06
pub record Unknown (b : List ℕ) (e : ℕ) (f : Fault) : Type 0 where
  pub is : f ≡ fault_at UnknownKind e
  pub inside : e < length b
  pub not_fill : slice_index_or b e 0 ≡ 0x00 → ⊥
  pub not_power_up : slice_index_or b e 0 ≡ 0x10 → ⊥
  pub not_packet : (slice_index b e < 0x03) ⊎ (0x06 < slice_index b e)

-- the byte at e says how long its packet is, and the block ends before that
pub record CutOff (b : List ℕ) (e : ℕ) (f : Fault) : Type 0 where
  pub is : f ≡ fault_at BodyCutOff e
  pub inside : e < length b
  pub low : 0x03 ≤ slice_index b e
  pub high : slice_index_or b e 0 ≤ 0x06
  pub short : length b < e + 1 + slice_index b e

-- fill stands at e, and the fault is at the first byte after it that is not zero
pub record SpoiltFill (b : List ℕ) (e : ℕ) (f : Fault) : Type 0 where
  pub is : f.refusal ≡ NonzeroFill
  pub after : e < f.offset
  pub inside : f.offset < length b
  pub zeros : ZeroFrom b e f.offset
  pub nonzero : slice_index_or b f.offset 0 ≡ 0 → ⊥

-- why the records of b end at e: with the block, with fill up to its end, or by the fault
abbrev pub EndsBy : List ℕ → ℕ → Option Fault → Type 0
EndsBy b e None = (e ≡ length b) ⊎ ((e < length b) × ZeroFrom b e (length b))
EndsBy b e (Some f) = Unknown b e f ⊎ (CutOff b e f ⊎ SpoiltFill b e f)

-- what a survey that was not refused tells
abbrev pub SurveyTiles : List ℕ → Result Survey Fault → Type 0
SurveyTiles b (Ok s) = Tiles b 0 (carried (reading b)) s.end
SurveyTiles b (Err e) = Unit {0}

abbrev pub SurveyEnds : List ℕ → Result Survey Fault → Type 0
SurveyEnds b (Ok s) = EndsBy b s.end s.fault
SurveyEnds b (Err e) = Unit {0}

abbrev pub CountsNothing : Result Survey Fault → Type 0
CountsNothing (Ok s) = (s.packets ≡ 0) × (s.power_ups ≡ 0) × (s.fault ≡ None)
CountsNothing (Err e) = Unit {0}

-- a block of only zero bytes, however long, carries nothing and has no fault, and no survey counts anything in it
abbrev pub FillIsNothing : List ℕ → Result Survey Fault → Type 0
FillIsNothing b r = AllByRecursion (λ x. x ≡ 0) b → (carried (reading b) ≡ []) × (fault_of (reading b) ≡ None) × CountsNothing r

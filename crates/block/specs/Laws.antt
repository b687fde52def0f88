-- What a survey and the handing out of packets have to do with each other.
use Rattle.std.specs.Prelude.{◌≡◌, ℕ, ◌+◌, ◌<◌, ◌≤◌, ◌⊎◌, true, List, [], ◌∷◌, length, Ok, Err}
use Rattle.std.specs.Borrow.{Bor}
use Rattle.std.specs.List.{slice_get}
use Rattle.std.specs.Option.{ok_or}
use Rattle.fault.specs.declared.refusal.Refusal.TheVariants.{BlockLength, NumberOutOfRange}
use Rattle.fault.specs.Places.{fault_at}
use Rattle.block.specs.declared.summary.Survey.{Survey}
use Rattle.block.specs.Contents.{Thing, is_block_length, length_checked}
use Rattle.block.specs.Contents.Thing.{fill, power_up, packet}
use Rattle.block.specs.Handing.{handed_out, bytes_in}
use Rattle.block.specs.Reading.{reading, carried}
use Rattle.block.specs.Summing.{surveyed}

-- the packets among the records
abbrev pub packets_among : List (ℕ × Thing) → List (List ℕ)
packets_among [] = []
packets_among ((o, fill) ∷ rs) = packets_among rs
packets_among ((o, power_up) ∷ rs) = packets_among rs
packets_among ((o, packet p) ∷ rs) = p ∷ packets_among rs

-- those that the block b carries, in their order
abbrev pub packets_of : List ℕ → List (List ℕ)
packets_of b = packets_among (carried (reading b))

-- the numbers from 0 on name just the packets that a block carries
abbrev pub HandsOutEach : Type 0
HandsOutEach =
    (b : Bor (List ℕ)) (n : ℕ)
    → is_block_length (length b.now) ≡ true
    → bytes_in (handed_out b n)
    ≡ ok_or (slice_get (packets_of b.now) n) (fault_at NumberOutOfRange 0)

-- a survey counts each of these packets, and each record that is carried once
abbrev pub CountsEach : Type 0
CountsEach = (b : List ℕ) (s : Survey) → surveyed b ≡ Ok s → (s.packets ≡ length (packets_of b)) × (s.packets + s.power_ups ≡ length (carried (reading b)))

-- a block of no bytes or of more than 512 is refused by a walk, a handing out and a survey, and any other is surveyed
pub record LengthsRefused (b : List ℕ) : Type 0 where
  pub checked : length_checked (length b) ≡ Err (fault_at BlockLength 0)
  pub handed :
      (lent : Bor (List ℕ)) (n : ℕ) → lent.now ≡ b → handed_out lent n ≡ Err (fault_at BlockLength 0)
  pub survey : surveyed b ≡ Err (fault_at BlockLength 0)

abbrev pub RefusesLengths : Type 0
RefusesLengths = (b : List ℕ) → (length b ≡ 0) ⊎ (512 < length b) → LengthsRefused b

abbrev pub SurveysOthers : Type 0
SurveysOthers = (b : List ℕ) → 1 ≤ length b → length b ≤ 512 → (length_checked (length b) ≡ Ok tt) × ((s : Survey) × (surveyed b ≡ Ok s))

pub record PacketsAgree : Type 0 where
  pub refuses : RefusesLengths
  pub surveys : SurveysOthers
  pub hands_out : HandsOutEach
  pub counts : CountsEach

-- What writes come to, in the words of the track.
use Rattle.std.specs.Prelude.{◌≡◌, ℕ, ◌+◌, ◌-◌, ◌%◌, ◌≤◌, Bool, true, false, cond, List, length, take, drop, replicate, Some, None, ◌≢◌, ◌==◌}
use Rattle.packet.specs.declared.cv.CvNumber.{CvNumber}
use Rattle.packet.specs.declared.instruction.Instruction.{Instruction}
use Rattle.packet.specs.declared.instruction.Instruction.TheVariants.{WriteByte, WriteBit}
use Rattle.state.specs.Bits.{bit_of}
use Rattle.state.specs.Packing.{packed, matches}
use Rattle.decoder.specs.declared.role.Role.{Role}
use Rattle.decoder.specs.declared.role.Role.TheVariants as role
use Rattle.decoder.specs.Accesses.{is_write}
use Rattle.decoder.specs.Alone.{Own, Rules, variable}

-- a packet of at most six bytes waits as it is, with zeros behind it; only the very same packet is its repetition
pub record PacketsWait : Type 0 where
  pub bytes : (bs : List ℕ) → length bs ≤ 6 → take (packed bs).length (packed bs).bytes ≡ bs
  pub zeros : (bs : List ℕ) → length bs ≤ 6 → drop (length bs) (packed bs).bytes ≡ replicate (6 - length bs) 0
  pub itself : (bs : List ℕ) → matches (Some (packed bs)) (packed bs) ≡ true
  pub no_other : (cs bs : List ℕ) → length cs ≤ 6 → length bs ≤ 6 → matches (Some (packed cs)) (packed bs) ≡ true → cs ≡ bs

-- packets write this variable: it is not the seventh nor the eighth of the kind's own
abbrev pub Writable : {X : Type 0} → Rules X → CvNumber → Type 0
Writable m cv = (cv.number ≢ m.offset + 7) × (cv.number ≢ m.offset + 8)

-- the decoder has all of its variables, and this very packet waits, as a write to it or to all
pub record Repeats {X : Type 0} (m : Rules X) (o : Own X) (r : Role) (bs : List ℕ) : Type 0 where
  pub whole : length o.vars ≡ 1024
  pub counts : r ≢ role.Consist
  pub waits : matches (m.waiting o.rec) (packed bs) ≡ true

-- of a kind of decoder. A write waits at first; at its repetition nothing waits, and the variable
-- has the byte, or the bit is as it says and every other bit as it was
pub record WritesTake {X : Type 0} (m : Rules X) : Type 0 where
  pub first : (o : Own X) (r : Role) (bs : List ℕ) (i : Instruction) → is_write i ≡ true → r ≢ role.Consist → matches (m.waiting o.rec) (packed bs) ≡ false → m.waiting (m.obeys o r bs i).rec ≡ Some (packed bs)
  pub over : (o : Own X) (r : Role) (bs : List ℕ) (i : Instruction) → matches (m.waiting o.rec) (packed bs) ≡ true → m.waiting (m.obeys o r bs i).rec ≡ None
  pub byte : (o : Own X) (r : Role) (bs : List ℕ) (cv : CvNumber) (value : ℕ) → Repeats m o r bs → Writable m cv → variable (m.obeys o r bs (WriteByte cv value)).vars cv.number ≡ value
  pub bit : (o : Own X) (r : Role) (bs : List ℕ) (cv : CvNumber) (b k : ℕ) (on : Bool) → Repeats m o r bs → Writable m cv → bit_of (variable (m.obeys o r bs (WriteBit cv b on)).vars cv.number) k ≡ cond (b % 8 == k) on (bit_of (variable o.vars cv.number) k)
  -- and no write, first or repeated, changes another variable
  pub others_byte : (o : Own X) (r : Role) (bs : List ℕ) (cv : CvNumber) (value n : ℕ) → 1 ≤ n → n ≢ cv.number → variable (m.obeys o r bs (WriteByte cv value)).vars n ≡ variable o.vars n
  pub others_bit : (o : Own X) (r : Role) (bs : List ℕ) (cv : CvNumber) (b : ℕ) (on : Bool) (n : ℕ) → 1 ≤ n → n ≢ cv.number → variable (m.obeys o r bs (WriteBit cv b on)).vars n ≡ variable o.vars n

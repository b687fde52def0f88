-- The slots of a kind, one after another.
use Rattle.std.specs.Prelude.{◌≡◌, ℕ, ◌+◌, ◌<◌, ◌≤◌, Bool, true, length, Some, None, Option}
use Rattle.bank.specs.declared.slots.SlotsOf.{SlotsOf}
use Rattle.bank.specs.Kinds.{is_kind, count_below}

-- the next number from i on and below n that passes h; none where no other does
abbrev pub NextOf : (ℕ → Bool) → ℕ → ℕ → Option ℕ → Type 0
NextOf h n i (Some s) = (i ≤ s) × (s < n) × (h s ≡ true) × (count_below h s ≡ count_below h i)
NextOf h n i None = count_below h n ≡ count_below h i

-- where the one after it is looked for
abbrev pub behind : ℕ → Option ℕ → ℕ
behind i None = i
behind i (Some s) = s + 1

-- a call of `next` at s gives r and leaves t
pub record Advances (s : SlotsOf) (r : Option ℕ) (t : SlotsOf) : Type 0 where
  pub kind : t.kind ≡ s.kind
  pub kinds : t.kinds.now ≡ s.kinds.now
  pub next : NextOf (is_kind s.kinds.now s.kind) (length s.kinds.now) s.from r
  pub moves : t.from ≡ behind s.from r

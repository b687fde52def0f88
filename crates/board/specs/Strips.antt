-- What a board on a strip leaves of the memory below the strip.
use Rattle.std.specs.Prelude.{◌≡◌, ℕ, ◌+◌, ◌*◌, ◌<◌, ◌≤◌, List, length, slice_index}
use Rattle.memory.specs.declared.memory.Memory.{Ghosts}
use Rattle.memory.specs.declared.strip.Strip.{Strip}
use Rattle.bank.specs.declared.kind.Kind.{Kind}
use Rattle.script.specs.Boards.{Rest}
use Rattle.roster.specs.declared.banks.BanksMut.{BanksMut}
use Rattle.roster.specs.Held.{held}

module _ {M : Type 0} (m : Ghosts M) (s s' : Strip M) where
  -- the cell below is as it was
  abbrev pub Stays : ℕ → Type 0
  Stays c = slice_index (m.cells s'.below) c ≡ slice_index (m.cells s.below) c

  -- the strip lies where it lay, and all beside it is as it was: the cells before and behind it, and what the memory below
  -- lies in
  pub record BesideKept : Type 0 where
    pub first : s'.first ≡ s.first
    pub count : s'.count ≡ s.count
    pub before : (c : ℕ) → c < s.first → Stays c
    pub behind : (c : ℕ) → s.first + s.count ≤ c → Stays c
    pub further : m.outside s'.below ≡ m.outside s.below

  -- nor is there a cell more or less, or another byte in the strip's cells behind the decoders' windows
  pub record BelowKept (ks : List Kind) : Type 0 where
    pub beside : BesideKept
    pub size : length (m.cells s'.below) ≡ length (m.cells s.below)
    pub spare : (c : ℕ) → s.first + 1024 * length ks ≤ c → Stays c

module _ {M : Type 0} (m : Ghosts M) (strip : Ghosts (Strip M)) where
  pub record StripsKept : Type 0 where
    -- two strips outside of which all is the same lie alike, and have the same cells beside them
    pub beside : (s s' : Strip M) → strip.outside s' ≡ strip.outside s → BesideKept m s s'
    -- so a board that leaves all but its decoders as it was leaves what is below but for their windows
    pub below : (ks : List Kind) (b b' : BanksMut) (s s' : Strip M) → Rest ks (held strip b s) (held strip b' s') → BelowKept m s s' ks

-- The windows of a memory: the slot s owns the 1024 cells from 1024 × s on, a cell for each of its variables.
use Rattle.std.specs.Prelude.{◌≡◌, ℕ, ◌+◌, ◌*◌, ◌^◌, ◌<◌, ◌≤◌, Bool, ◌≢◌, List, length, take, drop, nat_le}

-- the variables of the slot s
unfoldable pub window : List ℕ → ℕ → List ℕ
window cells s = take 1024 (drop (1024 * s) cells)

-- the window of the slot s lies within the cells, and each cell has a number of 64 bits
pub record HasWindow (s : ℕ) (cells : List ℕ) : Type 0 where
  pub room : 1024 * s + 1024 ≤ length cells
  pub small : length cells < 2 ^ 64

-- whether the window of the slot s lies within the cells
abbrev pub has_window : ℕ → List ℕ → Bool
has_window s cells = nat_le (1024 * s + 1024) (length cells)

-- the window of the slot s holds w now; every other window and the count of cells are as they were
pub record Wrote (cells cells' : List ℕ) (s : ℕ) (w : List ℕ) : Type 0 where
  pub size : length cells' ≡ length cells
  pub here : window cells' s ≡ w
  pub there : (t : ℕ) → t ≢ s → window cells' t ≡ window cells t

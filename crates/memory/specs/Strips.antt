-- A strip by what the memory below it means: its cells, and what lies outside of those.
use Rattle.std.specs.Prelude.{ℕ, List, ◌∷◌}
use Rattle.memory.specs.Cells.{Outside, outside_of, put_back, strip_cells, strip_write}
use Rattle.memory.specs.declared.strip.Strip.{Strip}

module _ {M : Type 0} (cells : M → List ℕ) where
  -- the cells below the strip
  abbrev pub cells_below : Strip M → List ℕ
  cells_below s = cells s.below

  -- the strip's own cells
  abbrev pub cells_within : Strip M → List ℕ
  cells_within s = strip_cells (cells s.below) s.first s.count

  -- the cells below once a byte is written to a cell of the strip
  abbrev pub below_written : Strip M → ℕ → ℕ → List ℕ
  below_written s cell b = strip_write (cells s.below) s.first s.count cell b

  -- the cells before the strip, its own, and those behind it
  abbrev pub rejoined : Strip M → List ℕ
  rejoined s = put_back (outside_of (cells s.below) s.first s.count) (cells_within s)

  -- what lies outside of the strip, and outside of all that it lies in
  abbrev pub outsides : (M → List Outside) → Strip M → List Outside
  outsides outer s = outside_of (cells s.below) s.first s.count ∷ outer s.below

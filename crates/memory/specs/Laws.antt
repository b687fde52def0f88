-- Where bytes, and the halves of words, lie among the cells.
use Rattle.std.specs.Prelude.{◌≡◌, ℕ, ◌+◌, ◌*◌, ◌/◌, ◌%◌, List, slice_index}
use Rattle.memory.specs.Cells.{byte_cells, word_cells}

pub record CellsLie : Type 0 where
  -- each byte in the cell of its number
  pub byte : (bs : List ℕ) (k : ℕ) → slice_index (byte_cells bs) k ≡ slice_index bs k % 256
  -- the low byte of a word in the even cell, the high byte in the odd one behind it
  pub low : (ws : List ℕ) (k : ℕ) → slice_index (word_cells ws) (2 * k) ≡ slice_index ws k % 256
  pub high :
      (ws : List ℕ) (k : ℕ) → slice_index (word_cells ws) (2 * k + 1) ≡ slice_index ws k / 256 % 256

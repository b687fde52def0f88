-- What the cells of a memory answer to a read and a write, and the cells of bytes, of words and of a strip.
use Rattle.std.specs.Prelude.{ℕ, ◌+◌, ◌/◌, ◌%◌, ◌<◌, cond, List, [], ◌∷◌, ◌++◌, map, length, take, drop, Ok, Err, Result, nat_le, nat_lt, slice_index, slice_set}
use Rattle.fault.specs.declared.fault.Fault.{Fault}
use Rattle.fault.specs.declared.refusal.Refusal.TheVariants.{CellOutOfRange}
use Rattle.fault.specs.Places.{fault_at}

-- the refusal of a cell
abbrev pub out_of_range : ℕ → Fault
out_of_range cell = fault_at CellOutOfRange cell

-- the byte in a cell, or its refusal
abbrev pub cell_read : List ℕ → ℕ → Result ℕ Fault
cell_read cells cell = cond (nat_lt cell (length cells)) (Ok (slice_index cells cell)) (Err (out_of_range cell))

-- whether a cell can be written
abbrev pub cell_write : List ℕ → ℕ → Result Unit Fault
cell_write cells cell = cond (nat_lt cell (length cells)) (Ok tt) (Err (out_of_range cell))

-- numbers that are bytes, as those in a slice of `u8` are
abbrev pub AreBytes : List ℕ → Type 0
AreBytes bs = (k : ℕ) → k < length bs → slice_index bs k < 256

-- one cell for each byte, its lowest eight bits, which are all of it
abbrev pub byte_cells : List ℕ → List ℕ
byte_cells bytes = map (λ b. b % 256) bytes

-- two cells for each word: the low byte, then the high byte
abbrev pub word_cells : List ℕ → List ℕ
word_cells [] = []
word_cells (w ∷ ws) = w % 256 ∷ w / 256 % 256 ∷ word_cells ws

-- the cells of a strip: those from the first on, as many as the count says and as there are
abbrev pub strip_cells : List ℕ → ℕ → ℕ → List ℕ
strip_cells cells first count = take count (drop first cells)

-- whether a strip lies within the cells; if not, the refusal names its first cell
abbrev pub strip_check : List ℕ → ℕ → ℕ → Result Unit Fault
strip_check cells first count = cond (nat_le (first + count) (length cells)) (Ok tt) (Err (out_of_range first))

-- where a strip lies among the cells below, and the cells there that are not its own
pub record Outside : Type 0 where
  pub first : ℕ
  pub count : ℕ
  pub before : List ℕ
  pub behind : List ℕ

abbrev pub outside_of : List ℕ → ℕ → ℕ → Outside
outside_of cells first count = record { first = first; count = count; before = take first cells; behind = drop (first + count) cells }

-- nothing lies outside of a memory that holds its cells itself
abbrev pub none_outside : List ℕ → List Outside
none_outside cells = []

-- the cells below: those outside with the strip's own between them
abbrev pub put_back : Outside → List ℕ → List ℕ
put_back o cells = o.before ++ (cells ++ o.behind)

-- the cells below a strip after a byte was written to one of the strip's cells, if it has that cell
abbrev pub strip_write : List ℕ → ℕ → ℕ → ℕ → ℕ → List ℕ
strip_write cells first count cell b = cond (nat_lt cell (length (strip_cells cells first count))) (slice_set cells (first + cell) b) cells

-- What holds of the cells of places side by side.
use Rattle.std.specs.Prelude.{◌≡◌, ℕ, ◌^◌, ◌<◌, List, [], ◌∷◌, ◌++◌, length, slice_index}

-- n cells are each place's own, and every cell holds a byte
pub record PlaceLaws {P : Type 0} (n : ℕ) (cells : List P → List ℕ) : Type 0 where
  pub some : 0 < n
  pub small : n < 2 ^ 63
  pub none : cells [] ≡ []
  pub joined : (p : P) (ps : List P) → cells (p ∷ ps) ≡ cells (p ∷ []) ++ cells ps
  pub whole : (p : P) → length (cells (p ∷ [])) ≡ n
  pub fit : (ps : List P) (k : ℕ) → slice_index (cells ps) k < 256

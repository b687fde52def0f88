-- Where bytes, and the halves of words, lie among the cells.
use Rattle.std.proofs.Common.{◌≡◌, ℕ, zero, suc, ◌+◌, ◌*◌, ◌/◌, ◌%◌, List, [], ◌∷◌, get_or, refl, arith}
use Rattle.std.proofs.Math.ListN.{get_or-map}
use Rattle.memory.specs.Cells.{byte_cells, word_cells}

pub byte_lies : (bs : List ℕ) (k : ℕ) → get_or (byte_cells bs) k 0 ≡ get_or bs k 0 % 256
byte_lies bs k = rw (get_or-map (λ b. b % 256) bs k 0) refl

pub low_lies : (ws : List ℕ) (k : ℕ) → get_or (word_cells ws) (2 * k) 0 ≡ get_or ws k 0 % 256
low_lies [] k = refl
low_lies (w ∷ ws) zero = refl
low_lies (w ∷ ws) (suc k) =
    let e : 2 * suc k ≡ suc (suc (2 * k)) = omega arith in
    rw e (low_lies ws k)

pub high_lies : (ws : List ℕ) (k : ℕ) → get_or (word_cells ws) (2 * k + 1) 0 ≡ get_or ws k 0 / 256 % 256
high_lies [] k = refl
high_lies (w ∷ ws) zero = refl
high_lies (w ∷ ws) (suc k) =
    let e : 2 * suc k + 1 ≡ suc (suc (2 * k + 1)) = omega arith in
    rw e (high_lies ws k)

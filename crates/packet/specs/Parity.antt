-- The error byte.
use Rattle.std.specs.Prelude.{ℕ, List, [], ◌∷◌, ◌++◌, bit_xor}

-- the XOR of all bytes of a list
abbrev pub parity : List ℕ → ℕ
parity [] = 0
parity (b ∷ bs) = bit_xor b (parity bs)

-- the bytes, and behind them the one that makes the XOR of all of them zero
abbrev pub sealed : List ℕ → List ℕ
sealed bs = bs ++ (parity bs ∷ [])

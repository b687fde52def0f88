-- Laws of the XOR of a list's bytes.
use Rattle.std.proofs.Common.{◌≡◌, ℕ, List, [], ◌∷◌, ◌++◌, refl, sym, ◌∙◌, arith}
use lib.Bits.{bit_xor, xor_assoc, xor_zero_r, xor_zero_l, xor_self}
use Rattle.packet.specs.Parity.{parity, sealed}

pub parity-append : (xs ys : List ℕ) → parity (xs ++ ys) ≡ bit_xor (parity xs) (parity ys)
parity-append [] ys = refl
parity-append (x ∷ xs) ys = grind (arith, parity-append xs ys, xor_assoc)

-- one byte more
pub parity_more : (bs : List ℕ) (b : ℕ) → parity (bs ++ (b ∷ [])) ≡ bit_xor (parity bs) b
parity_more bs b = search (parity-append bs (b ∷ []), xor_zero_r b)

pub parity-sealed : (bs : List ℕ) → parity (sealed bs) ≡ 0
parity-sealed bs = search (parity_more, xor_self)

-- two numbers whose XOR is zero are the same
pub xor_zero_same : (a b : ℕ) → bit_xor a b ≡ 0 → b ≡ a
xor_zero_same a b e = grind (arith, xor_zero_l b, xor_self a, xor_assoc a a b, xor_zero_r a)

-- where the XOR of all is zero, the last byte is the XOR of those before it
pub parity_last : (bs : List ℕ) (b : ℕ) → parity (bs ++ (b ∷ [])) ≡ 0 → b ≡ parity bs
parity_last bs b e = xor_zero_same (parity bs) b (sym (parity_more bs b) ∙ e)

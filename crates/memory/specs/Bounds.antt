-- How many cells bytes, words and a strip have, and that every cell is a byte: the memories' laws. They stand here
-- since a ghost member may cite no file of `proofs/`.
use Rattle.std.specs.Prelude.{◌≡◌, ℕ, zero, suc, ◌-◌, ◌*◌, ◌%◌, ◌^◌, ◌<◌, min, List, [], ◌∷◌, length, slice_index, refl}
use Rattle.std.proofs.Common.{ap, arith, length-append, length-take, length-drop}
use Rattle.std.proofs.Math.ListN.{get_or-map}
use Rattle.std.proofs.Math.Nat.{mul-suc}
use Rattle.std.proofs.lemmas.Grind.{common_steps}
use Rattle.memory.specs.Cells.{byte_cells, word_cells, strip_cells}
use Rattle.memory.specs.Places.{PlaceLaws}

pub bytes_fit : (bs : List ℕ) (k : ℕ) → slice_index (byte_cells bs) k < 256
bytes_fit bs k = rw (get_or-map (λ b. b % 256) bs k 0) (omega arith)

pub words_fit : (ws : List ℕ) (k : ℕ) → slice_index (word_cells ws) k < 256
words_fit [] k = omega arith
words_fit (w ∷ ws) zero = omega arith
words_fit (w ∷ ws) (suc zero) = omega arith
words_fit (w ∷ ws) (suc (suc k)) = words_fit ws k

pub byte_laws : PlaceLaws 1 byte_cells
byte_laws = record { some = omega arith; small = omega arith; none = refl; joined = λ b bs. refl; whole = λ b. refl; fit = bytes_fit }

pub word_laws : PlaceLaws 2 word_cells
word_laws = record { some = omega arith; small = omega arith; none = refl; joined = λ w ws. refl; whole = λ w. refl; fit = words_fit }

module _ {P : Type 0} {n : ℕ} {cells : List P → List ℕ} (laws : PlaceLaws n cells) where
  pub length_places : (ps : List P) → length (cells ps) ≡ n * length ps
  length_places [] = omega (arith, ap length laws.none)
  length_places (p ∷ ps) = omega (arith, ap length (laws.joined p ps), length-append (cells (p ∷ [])) (cells ps), laws.whole p, length_places ps, mul-suc n (length ps))

  pub places_small : (ps : List P) → n * length ps < 2 ^ 64 → length (cells ps) < 2 ^ 64
  places_small ps h = rw length_places h

pub length_bytes : (bs : List ℕ) → length (byte_cells bs) ≡ length bs
length_bytes bs = omega (arith, length_places byte_laws bs)

pub length_words : (ws : List ℕ) → length (word_cells ws) ≡ 2 * length ws
length_words ws = length_places word_laws ws

module _ (cells : List ℕ) (first count : ℕ) where
  pub length_strip : length (strip_cells cells first count) ≡ min count (length cells - first)
  length_strip = simp (length-take, length-drop)

  pub strip_fits : ((k : ℕ) → slice_index cells k < 256) → (k : ℕ) → slice_index (strip_cells cells first count) k < 256
  strip_fits h k = grind (arith, common_steps, h)

  pub strip_small : length cells < 2 ^ 64 → length (strip_cells cells first count) < 2 ^ 64
  strip_small h = simp (length-take, length-drop) (omega arith)

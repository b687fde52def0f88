-- Where the cells of a place stand among those of places side by side.
use Rattle.std.proofs.Common.{◌≡◌, ℕ, zero, suc, ◌+◌, ◌-◌, ◌*◌, ◌/◌, ◌%◌, ◌<◌, ◌≤◌, List, [], ◌∷◌, length, get_or, set, slice_get, Some, Ok, refl, sym, arith, rules}
use Rattle.std.proofs.Math.Nat.{div-add-mod, mod-lt, mul-suc, mul-div-le, mul-le-mul_left}
use Rattle.std.proofs.lemmas.Nat.{mul-add-lt, div-add-mod'}
use Rattle.std.proofs.lemmas.List.{get_or_append_left, get_or-append-add, set-append_left, set-append_right, set_past}
use Rattle.std.proofs.lemmas.Option.{same_Some, slice_get_within}
use Rattle.memory.specs.Bounds.{length_places}
use Rattle.memory.specs.Cells.{cell_read, cell_write}
use Rattle.memory.specs.Places.{PlaceLaws}

module _ {P : Type 0} {n : ℕ} {cells : List P → List ℕ} (laws : PlaceLaws n cells) where
  -- the cells of the place p at q are those from n * q on
  read_at : (ps : List P) (q r k : ℕ) (p : P) → slice_get ps q ≡ Some p → r < n → k ≡ n * q + r → get_or (cells ps) k 0 ≡ get_or (cells (p ∷ [])) r 0
  read_at [] q r k p e h at = cc
  read_at (x ∷ xs) zero r k p e h at =
      let here : k ≡ r = omega arith in
      let within : r < length (cells (x ∷ [])) = omega (arith, laws.whole x) in
      rw (here, laws.joined x xs, ← same_Some x p e) (get_or_append_left (cells (x ∷ [])) (cells xs) 0 r within)
  read_at (x ∷ xs) (suc q) r k p e h at =
      let there : k ≡ length (cells (x ∷ [])) + (n * q + r) = omega (arith, laws.whole x, mul-suc n q) in
      rw (there, laws.joined x xs, get_or-append-add (cells (x ∷ [])) (cells xs) (n * q + r) 0) (read_at xs q r (n * q + r) p e h refl)

  set_at : (ps : List P) (q r k b : ℕ) (p p' : P) → slice_get ps q ≡ Some p → r < n → k ≡ n * q + r → cells (p' ∷ []) ≡ set (cells (p ∷ [])) r b → cells (set ps q p') ≡ set (cells ps) k b
  set_at [] q r k b p p' e h at c = cc
  set_at (x ∷ xs) zero r k b p p' e h at c =
      let here : k ≡ r = omega arith in
      let within : r < length (cells (x ∷ [])) = omega (arith, laws.whole x) in
      rw (here, laws.joined p' xs, laws.joined x xs, c, ← same_Some x p e) (sym (set-append_left (cells (x ∷ [])) (cells xs) r b within))
  set_at (x ∷ xs) (suc q) r k b p p' e h at c =
      let past : n ≤ k = omega (arith, mul-suc n q) in
      let there : k - n ≡ n * q + r = omega (arith, mul-suc n q) in
      rw (laws.joined x (set xs q p'), laws.joined x xs, set_at xs q r (k - n) b p p' e h there c) (sym (set-append_right (cells (x ∷ [])) (cells xs) n k b (laws.whole x) past))

  module _ (ps : List P) (k : ℕ) where
    pub places_past : length ps ≤ k / n → length (cells ps) ≤ k
    places_past h = omega (arith, length_places laws ps, mul-le-mul_left n h, mul-div-le k n)

    module _ (p : P) (e : slice_get ps (k / n) ≡ Some p) where
      within : k < length (cells ps)
      within = omega (arith, length_places laws ps, mul-add-lt (k / n) n (k % n) (length ps) (slice_get_within ps (k / n) p e) (mod-lt k laws.some), div-add-mod' k n)

      pub places_write : Ok tt ≡ cell_write (cells ps) k
      places_write = let w = within in search rules

      pub places_read : Ok (get_or (cells (p ∷ [])) (k % n) 0) ≡ cell_read (cells ps) k
      places_read =
          let w = within in
          let r = read_at ps (k / n) (k % n) k p e (mod-lt k laws.some) (sym (div-add-mod k n)) in
          search rules

      pub places_set : (p' : P) (b : ℕ) → cells (p' ∷ []) ≡ set (cells (p ∷ [])) (k % n) b → cells (set ps (k / n) p') ≡ set (cells ps) k b
      places_set p' b c = set_at ps (k / n) (k % n) k b p p' e (mod-lt k laws.some) (sym (div-add-mod k n)) c

-- what a read and a write of a place's cell ask for
pub ruleset places = (places_past, places_read, places_write, places_set, slice_get_within, set_past)

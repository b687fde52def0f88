-- The kinds of decoders in the slots of a board, and the number that each slot has within its kind.
use Rattle.std.specs.Prelude.{◌≡◌, ℕ, zero, suc, ◌+◌, ◌<◌, ◌≤◌, Bool, true, false, cond, List, length, Some, None, Option, codes, slice_index_or}
use Rattle.bank.specs.declared.kind.Kind.{Kind}
use Rattle.bank.specs.declared.kind.Kind.TheVariants.{Mobile, Basic, Extended}

-- whether two kinds are one
abbrev pub same_kind : Kind → Kind → Bool
same_kind Mobile Mobile = true
same_kind Mobile Basic = false
same_kind Mobile Extended = false
same_kind Basic Mobile = false
same_kind Basic Basic = true
same_kind Basic Extended = false
same_kind Extended Mobile = false
same_kind Extended Basic = false
same_kind Extended Extended = true

-- the word for a kind, by its bytes
abbrev pub kind_name : Kind → List ℕ
kind_name Mobile = codes "mobile"
kind_name Basic = codes "basic"
kind_name Extended = codes "extended"

-- whether the slot s is one of the kind
unfoldable pub is_kind : List Kind → Kind → ℕ → Bool
is_kind kinds kind s = same_kind kind (slice_index_or kinds s Mobile)

-- how many numbers below s pass a test: of the slots of a kind, the number that the slot s has in its bank
unfoldable pub count_below : (ℕ → Bool) → ℕ → ℕ
count_below h zero = 0
count_below h (suc s) = count_below h s + cond (h s) 1 0

-- how many slots are of the kind
abbrev pub count_of : List Kind → Kind → ℕ
count_of kinds kind = count_below (is_kind kinds kind) (length kinds)

-- the slot below n that passes h and has the number k among those; none where there are not so many
abbrev pub SlotOf : (ℕ → Bool) → ℕ → ℕ → Option ℕ → Type 0
SlotOf h n k (Some s) = (s < n) × (h s ≡ true) × (count_below h s ≡ k)
SlotOf h n k None = count_below h n ≤ k

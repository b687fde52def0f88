-- The binary states, as bits of 256 bytes.
use Rattle.std.specs.Prelude.{ℕ, ◌/◌, ◌%◌, Bool, cond, List, ◌++◌, take, drop, replicate, Some, None, Option, ◌==◌, nat_lt, slice_index, slice_set}
use Rattle.state.specs.Bits.{bit_of, with_bit}

-- all of 1 to 2047 on or off; the bit that would be number 0 is always zero
abbrev pub all_states : Bool → List ℕ
all_states on = cond on (slice_set (replicate 256 255) 0 254) (replicate 256 0)

-- 1 to 127, the others as they are
abbrev pub low_states : List ℕ → Bool → List ℕ
low_states bits on = take 16 (all_states on) ++ drop 16 bits

-- state n, if it is kept
abbrev pub kept_after : List ℕ → ℕ → Bool → List ℕ
kept_after bits n on = cond (n == 0) bits (cond (nat_lt 2047 n) bits (slice_set bits (n / 8) (with_bit (slice_index bits (n / 8)) (n % 8) on)))

abbrev pub state_at : List ℕ → ℕ → Option Bool
state_at bits n = cond (n == 0) None (cond (nat_lt 2047 n) None (Some (bit_of (slice_index bits (n / 8)) (n % 8))))

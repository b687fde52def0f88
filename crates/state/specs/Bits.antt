-- The bits of a byte.
use Rattle.std.specs.Prelude.{ℕ, ◌+◌, ◌*◌, ◌/◌, ◌%◌, ◌^◌, Bool, cond, ◌==◌}

abbrev pub bit_of : ℕ → ℕ → Bool
bit_of x b = x / 2 ^ b % 2 == 1

-- what stands above the bit, the bit, what stands below it
abbrev pub with_bit : ℕ → ℕ → Bool → ℕ
with_bit x b on = (x / 2 ^ b / 2 * 2 + cond on 1 0) * 2 ^ b + x % 2 ^ b

-- What `Display` writes of a list.
use Rattle.std.specs.Prelude.{ℕ, ◌/◌, ◌%◌, Bool, true, List, [], ◌∷◌, length, codes}
use Rattle.std.specs.Fmt.{decimal, digit_glyph}
use Rattle.std.specs.List.{items_where_true, join_by, range_with_len}

-- a byte in two hexadecimal digits, upper case
abbrev pub byte_text : ℕ → List ℕ
byte_text b = digit_glyph true (b / 16) ∷ digit_glyph true (b % 16) ∷ []

-- bytes in hexadecimal, with a blank between two
abbrev pub hex_text : List ℕ → List ℕ
hex_text bytes = join_by byte_text (codes " ") bytes

-- the numbers of the switches that are on; the first has the number 0
unfoldable pub numbers_on : List Bool → List ℕ
numbers_on switches = items_where_true switches (range_with_len 0 (length switches))

-- numbers with commas between, or `none` where there is no number
abbrev pub numbers_text : List ℕ → List ℕ → List ℕ
numbers_text none [] = none
numbers_text none (n ∷ rest) = join_by decimal (codes ",") (n ∷ rest)

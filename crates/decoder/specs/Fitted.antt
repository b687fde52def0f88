-- A decoder as it is fitted: as at power-up, and each of its variables with its first value.
use Rattle.std.specs.Prelude.{ℕ, ◌+◌, ◌/◌, ◌%◌, List, replicate, slice_set}
use Rattle.decoder.specs.declared.records.Mobile.{Mobile}
use Rattle.decoder.specs.declared.role.Address.{Address}
use Rattle.decoder.specs.declared.role.Address.TheVariants.{Short, Long}
use Rattle.decoder.specs.Fresh.{Basic, Extended, fresh_mobile, fresh_basic, fresh_extended}
use Rattle.decoder.specs.Alone.{Own, own}

-- all 1024 variables are 0
unfoldable pub blank : List ℕ
blank = replicate 1024 0

-- variable 1 is 3, 17 is 192, 29 is 2 and 31 is 16
unfoldable pub mobile_defaults : List ℕ
mobile_defaults = slice_set (slice_set (slice_set (slice_set blank 0 3) 16 192) 28 2) 30 16

-- a short address is put into variable 1; a long one into 17 and 18, with 29 = 34, whose bit 5 says that it counts;
-- a long one above 16383 loses its highest bits, but a board fits none above 10239
unfoldable pub mobile_variables : Address → List ℕ
mobile_variables (Short a) = slice_set mobile_defaults 0 a
mobile_variables (Long a) = slice_set (slice_set (slice_set mobile_defaults 16 ((192 + a / 256) % 256)) 17 (a % 256)) 28 34

abbrev pub mobile_fitted : Address → Own Mobile
mobile_fitted a = own fresh_mobile (mobile_variables a)

abbrev pub basic_fitted : ℕ → Own Basic
basic_fitted a = own (fresh_basic a) blank

abbrev pub extended_fitted : ℕ → Own Extended
extended_fitted a = own (fresh_extended a) blank

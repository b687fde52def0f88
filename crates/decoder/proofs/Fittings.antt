-- A decoder as it is fitted has all of its variables.
use Rattle.std.proofs.Common.{◌≡◌, ℕ, length, length-set}
use lib.ListN.{length-replicate}
use Rattle.decoder.specs.declared.role.Address.{Address}
use Rattle.decoder.specs.declared.role.Address.TheVariants.{Short, Long}
use Rattle.decoder.specs.Fitted.{blank, mobile_defaults, mobile_variables}

pub length_blank : length blank ≡ 1024
unfolding blank
length_blank = length-replicate {A = ℕ} 1024 0

length_defaults : length mobile_defaults ≡ 1024
unfolding mobile_defaults
length_defaults = simp length-set length_blank

pub length-mobile : (a : Address) → length (mobile_variables a) ≡ 1024
unfolding mobile_variables
length-mobile (Short a) = simp length-set length_defaults
length-mobile (Long a) = simp length-set length_defaults

-- The words of what is one of two.
use Rattle.std.specs.Prelude.{ℕ, Bool, List, if◌then◌else◌, codes}

abbrev pub direction_text : Bool → List ℕ
direction_text forward = if forward then codes "forward" else codes "reverse"

abbrev pub switched_text : Bool → List ℕ
switched_text on = if on then codes "on" else codes "off"

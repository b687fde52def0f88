-- The bytes that were made for a target or an instruction.
use Rattle.std.specs.Prelude.{ℕ, List, Ok, Err, Result}
use Rattle.arrayvec.specs.ArrayVec.{ArrayVec}
use Rattle.fault.specs.declared.refusal.Refusal.{Refusal}

abbrev pub listed : Result (ArrayVec ℕ) Refusal → Result (List ℕ) Refusal
listed (Ok b) = Ok b.items
listed (Err e) = Err e

-- Where a refusal stands.
use Rattle.std.specs.Prelude.{ℕ}
use Rattle.fault.specs.declared.refusal.Refusal.{Refusal}
use Rattle.fault.specs.declared.fault.Fault.{Fault}

-- the refusal r, which stands at o
abbrev pub fault_at : Refusal → ℕ → Fault
fault_at r o = record { refusal = r; offset = o }

-- a refusal that is about no place
abbrev pub nowhere : Refusal → Fault
nowhere r = fault_at r 0

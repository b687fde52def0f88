-- What one packet does to one decoder.
use Rattle.std.specs.Prelude.{ℕ, Bool, List, is_some}
use Rattle.packet.specs.declared.target.Target.{Target}
use Rattle.packet.specs.declared.instruction.Instruction.{Instruction}
use Rattle.decoder.specs.Alone.{Own, Rules, in_role, obeyed}

module _ {X : Type 0} (m : Rules X) where
  -- whether a decoder hears a packet to the target
  abbrev pub is_heard : Target → Own X → Bool
  is_heard t o = is_some (m.hears o t)

  -- what a packet, these bytes to the target, makes of a decoder
  abbrev pub after_hearing : List ℕ → Target → Instruction → Own X → Own X
  after_hearing bs t i o = obeyed m o bs (in_role m (m.hears o t) i)

-- The latest reply.
use Rattle.std.specs.Prelude.{ℕ, Bool, true, false, cond, ◌&&◌, Some, None, Option}
use Rattle.state.specs.declared.volatile.Reply.{Reply}
use Rattle.state.specs.declared.volatile.Reply.TheVariants as reply
use Rattle.state.specs.Bits.{bit_of}
use Rattle.decoder.specs.declared.effect.Change.{Change}
use Rattle.decoder.specs.declared.effect.Change.TheVariants.{Byte, Bit}
use Rattle.decoder.specs.declared.role.Role.{Role}
use Rattle.decoder.specs.declared.role.Role.TheVariants as role
use Rattle.decoder.specs.declared.effect.Accessed.{Accessed}

abbrev pub is_own : Role → Bool
is_own role.Everyone = false
is_own role.Own = true
is_own role.Consist = false

-- a verify of a byte tells the variable's value, all else an acknowledgment
abbrev pub reply_to : Bool → Change → ℕ → Reply
reply_to false (Byte x) v = reply.Value v
reply_to false (Bit b on) v = reply.Acknowledgment
reply_to true c v = reply.Acknowledgment

abbrev pub answer_of : Option Accessed → Reply
answer_of None = reply.Acknowledgment
answer_of (Some a) = reply_to a.access.writes a.access.change a.value

-- none unless the packet came to the own address, replies were enabled before, and the instruction acted
abbrev pub reply_after : ℕ → Option Accessed → Role → Bool → Option Reply
reply_after config a r acted = cond (is_own r && (bit_of config 3 && acted)) (Some (answer_of a)) None

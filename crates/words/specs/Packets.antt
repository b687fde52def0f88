-- The words of a packet.
use Rattle.std.specs.Prelude.{ℕ, List, ◌++◌, codes}
use Rattle.packet.specs.declared.packet.Packet.{Packet}
use Rattle.words.specs.Instructions.{instruction_text}
use Rattle.words.specs.Targets.{target_text}

abbrev pub packet_text : Packet → List ℕ
packet_text packet = target_text packet.target ++ codes ": " ++ instruction_text packet.instruction

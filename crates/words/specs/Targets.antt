-- The words of a target.
use Rattle.std.specs.Prelude.{ℕ, ◌==◌, if◌then◌else◌, List, ◌++◌, codes}
use Rattle.std.specs.Fmt.{decimal}
use Rattle.packet.specs.declared.target.Target.{Target}
use Rattle.packet.specs.declared.target.Target.TheVariants.{Idle, Broadcast, Short, Long, Basic, Extended}

-- the highest basic and the highest extended address mean all of their kind
abbrev pub target_text : Target → List ℕ
target_text Idle = codes "idle"
target_text Broadcast = codes "all mobiles"
target_text (Short address) = codes "short " ++ decimal address
target_text (Long address) = codes "long " ++ decimal address
target_text (Basic address) = if address == 511 then codes "all basic" else codes "basic " ++ decimal address
target_text (Extended address) = if address == 2047 then codes "all extended" else codes "extended " ++ decimal address

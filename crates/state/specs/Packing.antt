-- A packet that waits, in a place of six bytes.
use Rattle.std.specs.Prelude.{ℕ, min, Bool, false, ◌&&◌, List, ◌++◌, length, take, drop, replicate, Some, None, Option, ◌==◌}
use Rattle.std.specs.Str.{bytes_eq}
use Rattle.state.specs.declared.waiting.WaitingWrite.{WaitingWrite}

-- equal lengths and equal bytes
abbrev pub same_waiting : WaitingWrite → WaitingWrite → Bool
same_waiting p q = p.length == q.length && bytes_eq p.bytes q.bytes

-- this very packet waits
abbrev pub matches : Option WaitingWrite → WaitingWrite → Bool
matches None p = false
matches (Some q) p = same_waiting q p

-- a packet of at most six bytes, and zeros after it
abbrev pub packed : List ℕ → WaitingWrite
packed bs = record { bytes = take (min (length bs) 6) bs ++ drop (min (length bs) 6) (replicate 6 0); length = min (length bs) 6 }

-- What a whole block says, record by record.
use Rattle.std.specs.Prelude.{ℕ, zero, suc, ◌+◌, List, [], ◌∷◌, length, drop, Some, None, Ok, Err, Option}
use Rattle.fault.specs.declared.fault.Fault.{Fault}
use Rattle.block.specs.Contents.{Thing, thing_of}
use Rattle.block.specs.Contents.Thing.{fill, power_up, packet}

-- the records with their offsets, and how they end
pub data Reading : Type 0 where
  -- with the block
  done : Reading
  -- with fill at the offset
  filled : ℕ → Reading
  -- with a fault of the record at the offset
  broken : ℕ → Fault → Reading
  -- a record at the offset, and what comes after it
  more : ℕ → Thing → Reading → Reading

-- the bytes xs from the offset o on, after the first `skip` of them, which belong to a body
unfoldable pub read_on : ℕ → ℕ → List ℕ → Reading
read_on skip o [] = done
read_on (suc skip) o (x ∷ xs) = read_on skip (o + 1) xs
read_on zero o (x ∷ xs) =
    elim (thing_of o x xs) [
      | Ok t ↦ elim t [
        | fill ↦ filled o
        | power_up ↦ more o power_up (read_on zero (o + 1) xs)
        | packet p ↦ more o (packet p) (read_on (length p) (o + 1) xs)
      ]
      | Err e ↦ broken o e
    ]

-- the block b from the offset o on
abbrev pub reading_from : List ℕ → ℕ → Reading
reading_from b o = read_on 0 o (drop o b)

-- the whole block
abbrev pub reading : List ℕ → Reading
reading b = reading_from b 0

-- the records that are carried, with their offsets
abbrev pub carried : Reading → List (ℕ × Thing)
carried done = []
carried (filled o) = []
carried (broken o e) = []
carried (more o t r) = (o, t) ∷ carried r

-- where the carried records end, in a block of n bytes
abbrev pub end_of : ℕ → Reading → ℕ
end_of n done = n
end_of n (filled o) = o
end_of n (broken o e) = o
end_of n (more o t r) = end_of n r

-- the block fault, if there is one
abbrev pub fault_of : Reading → Option Fault
fault_of done = None
fault_of (filled o) = None
fault_of (broken o e) = Some e
fault_of (more o t r) = fault_of r

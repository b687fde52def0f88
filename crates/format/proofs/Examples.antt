-- The table of packets.
use Rattle.std.proofs.Common.{◌≡◌, List, [], ◌∷◌, map, Ok, refl}
use Rattle.std.specs.List.{AllByRecursion}
use Rattle.std.proofs.lemmas.List.Elements.{All-from_recursion}
use Rattle.format.specs.Writing.{Coded, encoded}
use Rattle.format.specs.Examples.{Example, Says, ExamplesRead, table}
use Rattle.format.proofs.Rounds.{written_reads}

-- as a row is written, and as it should be
abbrev written : Example → Coded
written r = encoded r.target r.instruction

abbrev expected : Example → Coded
expected r = Ok r.bytes

-- what is written so reads so, too
each_says : (rs : List Example) → map written rs ≡ map expected rs → AllByRecursion Says rs
each_says [] e = tt
each_says (r ∷ rs) e =
    let w : encoded r.target r.instruction ≡ Ok r.bytes = cc in (
      record { reads = written_reads r.target r.instruction r.bytes w; writes = w },
      each_says rs (cc),
    )

all_written : map written table ≡ map expected table
unfolding encoded
all_written = refl

pub examples : ExamplesRead
examples = All-from_recursion Says table (each_says table all_written)

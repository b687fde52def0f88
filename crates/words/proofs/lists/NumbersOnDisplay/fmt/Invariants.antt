use Rattle.std.proofs.Common.{◌≡◌, take, codes}
use Rattle.std.specs.Fmt.{HasWritten, IsPlainFormatter, decimal}
use Rattle.std.specs.List.{join_by}
use denote.Text.{Utf8}
use denote.Shadow.{shadow}
use Rattle.words.specs.Lists.{numbers_on}
use Rattle.words.proofs.Written.{before_next}
use Rattle.words.proofs.lists.NumbersOnDisplay.fmt.Given as goal

abbrev pub invariant-loop-number : goal.invariant-loop-number
invariant-loop-number g l =
    let listed = numbers_on (take l.number-counter l.self.switches.now) in
    shadow (Utf8 l.separator)
    × (l.separator ≡ before_next (codes ",") listed)
    × (IsPlainFormatter l.fn.f → HasWritten g.W.Write.write_str_gives l.fn.f (join_by decimal (codes ",") listed) l.f)

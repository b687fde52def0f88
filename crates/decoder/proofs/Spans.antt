-- Which functions a group switches. Assumes nothing.
use Rattle.std.proofs.Common.{refl}
use Rattle.decoder.specs.Spans.{GroupsAsCalled}

pub groups_as_called : GroupsAsCalled
groups_as_called = record {
  one = (refl, refl);
  two_low = (refl, refl);
  two_high = (refl, refl);
  f13 = (refl, refl);
  f21 = (refl, refl);
  f29 = (refl, refl);
  f37 = (refl, refl);
  f45 = (refl, refl);
  f53 = (refl, refl);
  f61 = (refl, refl);
}

use Rattle.std.proofs.Common.{refl}
use Rattle.format.specs.Reading.{mobile, cv_access, extended, accessory, long, addressed}
use Rattle.decoder.proofs.laws.examples_hold.Goals as goal

pub returns : goal.returns
unfolding mobile cv_access extended accessory long addressed
returns c = record {
  reset = refl;
  idle_mobile = refl;
  idle_basic = refl;
  idle_extended = refl;
  step28 = refl;
  forward28 = refl;
  light28 = refl;
  step14 = refl;
  light14 = refl;
  step126 = refl;
  light1000 = refl;
  output = refl;
  all_basic = refl;
  aspect = refl;
  state129 = refl;
  twice = refl;
  once = refl;
  between = refl;
  reserved = refl;
  too_long = refl;
}

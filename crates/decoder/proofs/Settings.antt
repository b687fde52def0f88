-- What a setting leaves. Assumes nothing.
use Rattle.std.proofs.Common.{◌≡◌, ℕ, ◌-◌, length, refl, arith, get_or-set_same, get_or-set_other}
use Rattle.packet.specs.declared.cv.CvNumber.{CvNumber}
use Rattle.decoder.specs.Accessories.{AccessoryKind}
use Rattle.decoder.specs.Alone.{Own, Rules, live, mobile_rules, accessory_rules}
use Rattle.decoder.specs.Alone.Event.{setting}
use Rattle.decoder.specs.Settings.{Puts, MobileWaitEnds, AccessoryWaitEnds, SettingsLeave}

-- of any kind
put :
    {X : Type 0} (m : Rules X) (o : Own X) (cv : CvNumber) (x : ℕ)
    → length o.vars ≡ 1024
    → Puts o (live m o (setting cv x)) cv.number x
put m o cv x l =
    record {
      value = get_or-set_same o.vars (cv.number - 1) x 0 (omega (arith, l, cv.least, cv.most));
      others = λ k h ne.
          get_or-set_other o.vars (cv.number - 1) (k - 1) x 0
          (λ e. ne (omega (arith, cv.least)));
    }

pub mobile_settings : SettingsLeave mobile_rules MobileWaitEnds
mobile_settings = record {
  puts = put mobile_rules;
  ends = λ o cv x. record {
    forward = refl;
    speed = refl;
    functions = refl;
    states = refl;
    waiting = refl;
    reply = refl;
  };
}

pub accessory_settings :
    {S : Type 0} (k : AccessoryKind S) → SettingsLeave (accessory_rules k) AccessoryWaitEnds
accessory_settings k = record {
  puts = put (accessory_rules k);
  ends = λ o cv x. record { address = refl; shown = refl; waiting = refl; reply = refl };
}

-- The volatile parts as the power comes up.
use Rattle.std.specs.Prelude.{ℕ, Bool, true, false, List, replicate, None}
use Rattle.state.specs.declared.speed.Speed.TheVariants.{Stop}
use Rattle.state.specs.declared.volatile.MobileState.{MobileState}
use Rattle.state.specs.declared.volatile.AccessoryState.{AccessoryState}

-- stopped, forward, all off, nothing waiting, no reply
abbrev pub mobile_start : MobileState
mobile_start =
    record {
      forward = true;
      speed = Stop;
      functions = record { on = replicate 69 false };
      states = record { bits = replicate 256 0 };
      waiting = None;
      reply = None;
    }

abbrev pub basic_start : AccessoryState (List Bool)
basic_start = record { shown = replicate 8 false; waiting = None; reply = None }

abbrev pub extended_start : AccessoryState ℕ
extended_start = record { shown = 0; waiting = None; reply = None }

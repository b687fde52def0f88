-- The bit of the kept binary states that would be number 0.
use Rattle.std.specs.Prelude.{◌≡◌, ℕ, ◌≤◌, Bool, false, ◌⊎◌, List, slice_index}
use Rattle.state.specs.Bits.{bit_of}
use Rattle.state.specs.Kept.{kept_after}
use Rattle.decoder.specs.declared.records.Mobile.{Mobile}
use Rattle.decoder.specs.declared.role.Address.{Address}
use Rattle.decoder.specs.Fitted.{mobile_fitted}
use Rattle.decoder.specs.Alone.{Own, Event, live, life, mobile_rules}
use Rattle.decoder.specs.Alone.Event.{powered}

-- it is zero
abbrev pub NumberZeroOff : Own Mobile → Type 0
NumberZeroOff o = bit_of (slice_index o.rec.state.states.bits 0) 0 ≡ false

-- it is zero as a decoder is fitted and as the power comes up, and no event sets it. A number that
-- is not kept switches nothing
pub record NumberZeroStaysOff : Type 0 where
  pub fitted : (a : Address) → NumberZeroOff (mobile_fitted a)
  pub power_up : (o : Own Mobile) → NumberZeroOff (live mobile_rules o powered)
  pub lives :
      (o : Own Mobile) (events : List Event)
      → NumberZeroOff o
      → NumberZeroOff (life mobile_rules o events)
  pub others :
      (bits : List ℕ) (n : ℕ) (on : Bool)
      → (n ≡ 0) ⊎ (2048 ≤ n)
      → kept_after bits n on ≡ bits

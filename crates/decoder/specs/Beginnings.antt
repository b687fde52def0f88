-- How a decoder begins: as the power comes up, and as it is fitted.
use Rattle.std.specs.Prelude.{◌≡◌, ℕ, ◌+◌, ◌/◌, ◌%◌, ◌<◌, ◌≤◌, true, false, List, length, Some, None, ◌≢◌}
use Rattle.std.specs.List.{slice_get}
use Rattle.state.specs.declared.speed.Speed.TheVariants.{Stop}
use Rattle.state.specs.declared.volatile.MobileState.{MobileState}
use Rattle.state.specs.Groups.{function_at}
use Rattle.state.specs.Kept.{state_at}
use Rattle.decoder.specs.declared.records.Mobile.{Mobile}
use Rattle.decoder.specs.declared.role.Address.{Address}
use Rattle.decoder.specs.declared.role.Address.TheVariants.{Short, Long}
use Rattle.decoder.specs.Fresh.{Basic, Extended}
use Rattle.decoder.specs.Fitted.{mobile_fitted, basic_fitted, extended_fitted}
use Rattle.decoder.specs.Alone.{Own, variable, live, mobile_rules, basic_rules, extended_rules}
use Rattle.decoder.specs.Alone.Event.{powered}

-- it stands, forward, with every function and every binary state off; nothing waits, and there is no reply
pub record MobileAtRest (s : MobileState) : Type 0 where
  pub forward : s.forward ≡ true
  pub speed : s.speed ≡ Stop
  pub functions : (n : ℕ) → n ≤ 68 → function_at s.functions.on n ≡ Some false
  pub states : (n : ℕ) → 1 ≤ n → n ≤ 2047 → state_at s.states.bits n ≡ Some false
  pub waiting : s.waiting ≡ None
  pub reply : s.reply ≡ None

-- of that address, each output off, or the aspect 0; nothing waits, and there is no reply
pub record BasicAtRest (own : ℕ) (x : Basic) : Type 0 where
  pub address : x.address ≡ own
  pub outputs : (n : ℕ) → n < 8 → slice_get x.state.shown n ≡ Some false
  pub waiting : x.state.waiting ≡ None
  pub reply : x.state.reply ≡ None

pub record ExtendedAtRest (own : ℕ) (x : Extended) : Type 0 where
  pub address : x.address ≡ own
  pub aspect : x.state.shown ≡ 0
  pub waiting : x.state.waiting ≡ None
  pub reply : x.state.reply ≡ None

-- at power-up a decoder is at rest, and keeps its variables, and an accessory decoder its address
pub record PowersUp : Type 0 where
  pub mobile : (o : Own Mobile) → MobileAtRest (live mobile_rules o powered).rec.state
  pub basic : (o : Own Basic) → BasicAtRest o.rec.address (live basic_rules o powered).rec
  pub extended : (o : Own Extended) → ExtendedAtRest o.rec.address (live extended_rules o powered).rec
  pub mobile_keeps : (o : Own Mobile) → (live mobile_rules o powered).vars ≡ o.vars
  pub basic_keeps : (o : Own Basic) → (live basic_rules o powered).vars ≡ o.vars
  pub extended_keeps : (o : Own Extended) → (live extended_rules o powered).vars ≡ o.vars

-- 1024 variables: 1, 17, 18 and 29 as told, 31 is 16 and every other 0
pub record MobileVariables (vars : List ℕ) (one seventeen eighteen twenty_nine : ℕ) : Type 0 where
  pub all : length vars ≡ 1024
  pub cv1 : variable vars 1 ≡ one
  pub cv17 : variable vars 17 ≡ seventeen
  pub cv18 : variable vars 18 ≡ eighteen
  pub cv29 : variable vars 29 ≡ twenty_nine
  pub cv31 : variable vars 31 ≡ 16
  pub others : (n : ℕ) → 1 ≤ n → n ≢ 1 → n ≢ 17 → n ≢ 18 → n ≢ 29 → n ≢ 31 → variable vars n ≡ 0

-- 1024 variables, each of them 0
pub record NoVariables (vars : List ℕ) : Type 0 where
  pub all : length vars ≡ 1024
  pub each : (n : ℕ) → variable vars n ≡ 0

-- a decoder is fitted at rest. A short address stands in variable 1; a long one in 17 and 18, and bit 5 of 29 says so
pub record Fits : Type 0 where
  pub mobile : (a : Address) → MobileAtRest (mobile_fitted a).rec.state
  pub basic : (a : ℕ) → BasicAtRest a (basic_fitted a).rec
  pub extended : (a : ℕ) → ExtendedAtRest a (extended_fitted a).rec
  pub short : (a : ℕ) → MobileVariables (mobile_fitted (Short a)).vars a 192 0 2
  pub long : (a : ℕ) → a ≤ 10239 → MobileVariables (mobile_fitted (Long a)).vars 3 (192 + a / 256) (a % 256) 34
  pub basic_variables : (a : ℕ) → NoVariables (basic_fitted a).vars
  pub extended_variables : (a : ℕ) → NoVariables (extended_fitted a).vars

-- How a mobile decoder goes, by the speed that is sent.
use Rattle.std.specs.Prelude.{◌≡◌, ℕ, ◌+◌, ◌-◌, ◌*◌, ◌%◌, ◌≤◌, Bool, true, false, ◌⊎◌, List, length, Some, None, slice_index_or}
use Rattle.packet.specs.declared.instruction.Instruction.TheVariants as instruction
use Rattle.state.specs.declared.scale.Scale.{Scale}
use Rattle.state.specs.declared.scale.Scale.TheVariants.{Fourteen, TwentyEight, OneTwentySix}
use Rattle.state.specs.declared.speed.Speed.{Speed}
use Rattle.state.specs.declared.speed.Speed.TheVariants.{Stop, EmergencyStop, Running}
use Rattle.state.specs.declared.step.Step.{Step}
use Rattle.state.specs.declared.volatile.MobileState.{MobileState}
use Rattle.state.specs.Bits.{bit_of}
use Rattle.state.specs.Groups.{function_at}
use Rattle.state.specs.Speeds.{speed_at}
use Rattle.decoder.specs.declared.records.Mobile.{Mobile}
use Rattle.decoder.specs.declared.role.Address.TheVariants as address
use Rattle.decoder.specs.declared.role.Role.{Role}
use Rattle.decoder.specs.declared.role.Role.TheVariants as role
use Rattle.decoder.specs.Alone.{Own, variable, mobile_view, mobile_rules}

-- a speed is step n of a scale
abbrev pub IsStep : Speed → Scale → ℕ → Type 0
IsStep speed scale n = (x : Step) × (speed ≡ Running x) × (x.scale ≡ scale) × (x.number ≡ n)

-- the codes of five bits and of seven in their order: stop, emergency stop, and the steps from 1 on. In 28 steps bit 4
-- is the lowest digit; in 14 it does not count
pub record SpeedsInOrder : Type 0 where
  pub stops : (c : ℕ) → c ≤ 1 → (speed_at Fourteen (16 * c) ≡ Stop) × (speed_at TwentyEight (16 * c) ≡ Stop)
  pub halts : (c : ℕ) → c ≤ 1 → (speed_at Fourteen (16 * c + 1) ≡ EmergencyStop) × (speed_at TwentyEight (16 * c + 1) ≡ EmergencyStop)
  pub fourteen : (c n : ℕ) → c ≤ 1 → 1 ≤ n → n ≤ 14 → IsStep (speed_at Fourteen (16 * c + n + 1)) Fourteen n
  pub twenty_eight : (c n : ℕ) → c ≤ 1 → 1 ≤ n → n ≤ 14 → IsStep (speed_at TwentyEight (16 * c + n + 1)) TwentyEight (2 * n - 1 + c)
  pub stop126 : speed_at OneTwentySix 0 ≡ Stop
  pub halt126 : speed_at OneTwentySix 1 ≡ EmergencyStop
  pub one_twenty_six : (n : ℕ) → 1 ≤ n → n ≤ 126 → IsStep (speed_at OneTwentySix (n + 1)) OneTwentySix n

-- a decoder is in no consist, or in that whose address is its own short one
abbrev pub GoesAlone : Own Mobile → Type 0
GoesAlone o = (variable o.vars 19 % 128 ≡ 0) ⊎ ((mobile_view o.vars None).own ≡ Some (address.Short (variable o.vars 19 % 128)))

-- speed acts as it was sent where it is sent to all, or to the own address of a decoder that goes alone
abbrev pub TakesSpeed : Own Mobile → Role → Type 0
TakesSpeed o r = (r ≡ role.Everyone) ⊎ ((r ≡ role.Own) × GoesAlone o)

pub record GoesAsSent (s : MobileState) (to : Bool) (at : Speed) : Type 0 where
  pub forward : s.forward ≡ to
  pub speed : s.speed ≡ at

-- bit 1 of variable 29 chooses among 28 and 14 steps, and in 14 FL is bit 4 of the code. No other function changes, in
-- whatever role the speed is heard, and in 28 steps none at all
pub record SpeedActs : Type 0 where
  pub in126 : (o : Own Mobile) (r : Role) (bs : List ℕ) (forward : Bool) (code : ℕ) → TakesSpeed o r → GoesAsSent (mobile_rules.obeys o r bs (instruction.Speed126 forward code)).rec.state forward (speed_at OneTwentySix code)
  pub in28 : (o : Own Mobile) (r : Role) (bs : List ℕ) (forward : Bool) (code : ℕ) → TakesSpeed o r → bit_of (variable o.vars 29) 1 ≡ true → GoesAsSent (mobile_rules.obeys o r bs (instruction.Speed forward code)).rec.state forward (speed_at TwentyEight code)
  pub in14 : (o : Own Mobile) (r : Role) (bs : List ℕ) (forward : Bool) (code : ℕ) → TakesSpeed o r → bit_of (variable o.vars 29) 1 ≡ false → GoesAsSent (mobile_rules.obeys o r bs (instruction.Speed forward code)).rec.state forward (speed_at Fourteen code)
  pub light : (o : Own Mobile) (r : Role) (bs : List ℕ) (forward : Bool) (code : ℕ) → length o.rec.state.functions.on ≡ 69 → TakesSpeed o r → bit_of (variable o.vars 29) 1 ≡ false → function_at (mobile_rules.obeys o r bs (instruction.Speed forward code)).rec.state.functions.on 0 ≡ Some (bit_of code 4)
  pub functions : (o : Own Mobile) (r : Role) (bs : List ℕ) (forward : Bool) (code k : ℕ) → 1 ≤ k → slice_index_or (mobile_rules.obeys o r bs (instruction.Speed forward code)).rec.state.functions.on k false ≡ slice_index_or o.rec.state.functions.on k false
  pub functions28 : (o : Own Mobile) (r : Role) (bs : List ℕ) (forward : Bool) (code : ℕ) → bit_of (variable o.vars 29) 1 ≡ true → (mobile_rules.obeys o r bs (instruction.Speed forward code)).rec.state.functions ≡ o.rec.state.functions

-- What a setting leaves.
use Rattle.std.specs.Prelude.{◌≡◌, ℕ, ◌≤◌, ◌≢◌, length, None}
use Rattle.packet.specs.declared.cv.CvNumber.{CvNumber}
use Rattle.decoder.specs.declared.records.Mobile.{Mobile}
use Rattle.decoder.specs.declared.records.Accessory.{Accessory}
use Rattle.decoder.specs.Alone.{Own, Rules, variable, live}
use Rattle.decoder.specs.Alone.Event.{setting}

-- only variable n changes, to x
pub record Puts {X : Type 0} (o after : Own X) (n x : ℕ) : Type 0 where
  pub value : variable after.vars n ≡ x
  pub others : (k : ℕ) → 1 ≤ k → k ≢ n → variable after.vars k ≡ variable o.vars k

-- all that the record of a mobile decoder holds is as it was, but that nothing waits
pub record MobileWaitEnds (x after : Mobile) : Type 0 where
  pub forward : after.state.forward ≡ x.state.forward
  pub speed : after.state.speed ≡ x.state.speed
  pub functions : after.state.functions ≡ x.state.functions
  pub states : after.state.states ≡ x.state.states
  pub waiting : after.state.waiting ≡ None
  pub reply : after.state.reply ≡ x.state.reply

-- the same of an accessory decoder
pub record AccessoryWaitEnds {S : Type 0} (x after : Accessory S) : Type 0 where
  pub address : after.address ≡ x.address
  pub shown : after.state.shown ≡ x.state.shown
  pub waiting : after.state.waiting ≡ None
  pub reply : after.state.reply ≡ x.state.reply

-- of a kind of decoder: a setting puts the byte into its variable, and of the record it ends the
-- wait alone
pub record SettingsLeave {X : Type 0} (m : Rules X) (WaitEnds : X → X → Type 0) : Type 0 where
  pub puts :
      (o : Own X) (cv : CvNumber) (x : ℕ)
      → length o.vars ≡ 1024
      → Puts o (live m o (setting cv x)) cv.number x
  pub ends : (o : Own X) (cv : CvNumber) (x : ℕ) → WaitEnds o.rec (live m o (setting cv x)).rec

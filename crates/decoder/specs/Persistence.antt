-- Each bit of a variable is as the last setting or write pair that names it gave it.
use Rattle.std.specs.Prelude.{◌≡◌, ℕ, ◌%◌, ◌≤◌, Bool, false, cond, ◌&&◌, ◌≢◌, List, [], ◌∷◌, reverse, length, Some, None, Option, ◌==◌}
use Rattle.std.specs.List.{AllByRecursion}
use Rattle.std.specs.Str.{bytes_eq}
use Rattle.packet.specs.declared.instruction.Instruction.{Instruction}
use Rattle.format.specs.Reading.{packet_read}
use Rattle.state.specs.Bits.{bit_of}
use Rattle.decoder.specs.declared.effect.Access.{Access}
use Rattle.decoder.specs.declared.effect.Change.{Change}
use Rattle.decoder.specs.declared.effect.Change.TheVariants.{Byte, Bit}
use Rattle.decoder.specs.declared.role.Role.{Role}
use Rattle.decoder.specs.Accesses.{access_of, writes_in}
use Rattle.decoder.specs.Alone.{Own, Rules, Event, variable, hearing, live, life, mobile_rules, basic_rules, extended_rules}
use Rattle.decoder.specs.Alone.Event.{heard, powered, setting}

-- variables that other instructions change too, or that no packet writes
abbrev pub mobile_exceptions : List ℕ
mobile_exceptions = 7 ∷ 8 ∷ 19 ∷ 23 ∷ 24 ∷ 29 ∷ 31 ∷ 32 ∷ []

abbrev pub accessory_exceptions : List ℕ
accessory_exceptions = 519 ∷ 520 ∷ []

-- any other variable
pub record Ordinary (exceptions : List ℕ) (n : ℕ) : Type 0 where
  pub least : 1 ≤ n
  pub most : n ≤ 1024
  pub not_excepted : AllByRecursion (λ e. n ≢ e) exceptions

-- the value that a change gives to bit b, if it names it: a byte names all bits of the variable
abbrev pub changes : ℕ → Change → Option Bool
changes b (Byte x) = Some (bit_of x b)
changes b (Bit k on) = cond (k % 8 == b) (Some on) None

-- the value that a write gives to bit b of variable n, if it names it
abbrev pub names : ℕ → ℕ → Option Access → Option Bool
names n b None = None
names n b (Some a) = cond (a.cv.number == n) (changes b a.change) None

abbrev pub or_else : Option Bool → Bool → Bool
or_else None y = y
or_else (Some x) y = x

-- the event was this very packet, as a write
abbrev pub is_that : Option (List ℕ) → List ℕ → Bool
is_that None bs = false
is_that (Some cs) bs = bytes_eq cs bs

-- the write that a heard packet is, if it is one by the own address or to all; a packet that is not heard is no event
abbrev pub as_write : Option (Role × Instruction) → List ℕ → Option (List ℕ) → Option (List ℕ)
as_write None bs before = before
as_write (Some h) bs before = cond (writes_in h.0 h.1) (Some bs) None

-- what the second write of a pair gives
abbrev pub pair_gives : ℕ → ℕ → Option (Role × Instruction) → List ℕ → Option (List ℕ) → Option Bool
pair_gives n b None bs before = None
pair_gives n b (Some h) bs before = cond (writes_in h.0 h.1 && is_that before bs) (names n b (access_of h.1)) None

-- the events of a decoder that was o at first, the latest in front
module _ {X : Type 0} (m : Rules X) (o : Own X) where
  abbrev pub lived : List Event → Own X
  lived [] = o
  lived (e ∷ past) = live m (lived past) e

  -- the write that the latest event was
  abbrev pub last_write : List Event → Option (List ℕ)
  last_write [] = None
  last_write (heard bs ∷ past) = as_write (hearing m (lived past) (packet_read bs)) bs (last_write past)
  last_write (powered ∷ past) = None
  last_write (setting cv x ∷ past) = None

  -- bit b of variable n as the last setting or write pair that names it gave it, else as it was
  abbrev pub given : ℕ → ℕ → List Event → Bool
  given n b [] = bit_of (variable o.vars n) b
  given n b (heard bs ∷ past) = or_else (pair_gives n b (hearing m (lived past) (packet_read bs)) bs (last_write past)) (given n b past)
  given n b (powered ∷ past) = given n b past
  given n b (setting cv x ∷ past) = cond (cv.number == n) (bit_of x b) (given n b past)

-- over every list of events, from any state with 1024 variables in which nothing waits
abbrev pub Persists : {X : Type 0} → Rules X → List ℕ → Type 0
Persists {X} m exceptions =
    (o : Own X) (events : List Event) (n b : ℕ)
    → length o.vars ≡ 1024
    → m.waiting o.rec ≡ None
    → Ordinary exceptions n
    → bit_of (variable (life m o events).vars n) b ≡ given m o n b (reverse events)

abbrev pub Persistence : Type 0
Persistence = Persists mobile_rules mobile_exceptions × Persists basic_rules accessory_exceptions × Persists extended_rules accessory_exceptions

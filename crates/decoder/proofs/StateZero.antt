-- The bit of the kept binary states that would be number 0. Assumes nothing.
use Rattle.std.proofs.Common.{◌≡◌, ℕ, ◌/◌, ◌%◌, ◌<◌, ◌≤◌, ◌⊎◌, inl, inr, ⊎_elim, arith}
use Rattle.std.proofs.Common.{Bool, true, false, cond, eqb, refl, sym, ap, ◌∙◌}
use Rattle.std.proofs.Common.{List, [], ◌∷◌, get_or, set, None, Some, Option, get_or-set_other}
use Rattle.std.proofs.lemmas.Bool.{cond-false, ne_eqb, cases_eq, cases_lt}
use Rattle.format.specs.Reading.{packet_read}
use Rattle.packet.specs.declared.instruction.Instruction.{Instruction}
use Rattle.packet.specs.declared.instruction.Instruction.TheVariants as instruction
use Rattle.state.specs.declared.scale.Scale.TheVariants.{Fourteen, TwentyEight}
use Rattle.state.specs.declared.volatile.MobileState.{MobileState}
use Rattle.state.specs.Bits.{bit_of, with_bit}
use Rattle.state.specs.Groups.{lit}
use Rattle.state.specs.Kept.{all_states, low_states, kept_after}
use Rattle.state.proofs.Bitwise.{bit_put}
use Rattle.decoder.specs.declared.records.Mobile.{Mobile}
use Rattle.decoder.specs.declared.role.Role.{Role}
use Rattle.decoder.specs.declared.view.MobileView.{MobileView}
use Rattle.state.specs.Packing.{packed}
use Rattle.decoder.specs.Accesses.{access_of}
use Rattle.decoder.specs.Mobiles.{directed, sped, with_functions, sped_short}
use Rattle.decoder.specs.Mobiles.{mobile_acts, mobile_changed}
use Rattle.decoder.specs.Alone.{Own, Event, hearing, obeyed, live, life, mobile_view, mobile_rules}
use Rattle.decoder.specs.Alone.Event.{heard, powered, setting}
use Rattle.decoder.specs.StateZero.{NumberZeroOff, NumberZeroStaysOff}
use Rattle.decoder.proofs.States.{switched_at, not_switched}

abbrev Off : List ℕ → Type 0
Off bits = bit_of (get_or bits 0 0) 0 ≡ false

-- a state of the same byte is another bit, and one of another byte is elsewhere
kept : (bits : List ℕ) (n : ℕ) (on : Bool) → Off bits → Off (kept_after bits n on)
kept bits n on h =
    ⊎_elim (λ l. same (inl l))
    (λ low. ⊎_elim (λ l. same (inr l)) (λ high. put low high) (cases_lt 2047 n)) (cases_lt n 1)
  where
    same : (n < 1) ⊎ (2047 < n) → Off (kept_after bits n on)
    same l = ap (λ bs. bit_of (get_or bs 0 0) 0) (not_switched bits n on l) ∙ h

    y : ℕ
    y = with_bit (get_or bits (n / 8) 0) (n % 8) on

    first : (bs : List ℕ) (k v : ℕ) → k ≡ 0 → bit_of v 0 ≡ false → Off (set bs k v)
    first [] k v e f = refl
    first (b ∷ bs) k v e f = ap (λ j. bit_of (get_or (set (b ∷ bs) j v) 0 0) 0) e ∙ f

    here : 1 ≤ n → n / 8 ≡ 0 → bit_of y 0 ≡ false
    here low e =
        bit_put (get_or bits (n / 8) 0) (n % 8) 0 on
        ∙ cond-false _ _ _ (ne_eqb (n % 8) 0 (λ f. omega arith))
        ∙ ap (λ j. bit_of (get_or bits j 0) 0) e ∙ h

    put : 1 ≤ n → n ≤ 2047 → Off (kept_after bits n on)
    put low high =
        ap (λ bs. bit_of (get_or bs 0 0) 0) (switched_at bits n on low high)
        ∙ ⊎_elim (λ e. first bits (n / 8) y e (here low e))
        (λ ne. ap (λ v. bit_of v 0) (get_or-set_other bits (n / 8) 0 y 0 (λ e. ne (sym e))) ∙ h)
        (cases_eq (n / 8) 0)

all_off : (on : Bool) → Off (all_states on)
all_off true = refl
all_off false = refl

low_off : (bits : List ℕ) (on : Bool) → Off (low_states bits on)
low_off bits true = refl
low_off bits false = refl

chosen : (c : Bool) (xs ys : List ℕ) → Off xs → Off ys → Off (cond c xs ys)
chosen true xs ys h k = h
chosen false xs ys h k = k

short_speed :
    (s : MobileState) (v : MobileView) (forward : Bool) (code : ℕ)
    → Off s.states.bits
    → Off (sped_short s v forward code).states.bits
short_speed s v forward code h = go (bit_of v.config 1)
  where
    in14 : MobileState
    in14 = with_functions (sped s Fourteen forward code) (record { on = lit s.functions.on code })

    go : (c : Bool) → Off (cond c (sped s TwentyEight forward code) in14).states.bits
    go true = h
    go false = h

-- what an instruction that acts makes of the states
changed :
    (s : MobileState) (v : MobileView) (r : Role) (i : Instruction)
    → Off s.states.bits
    → Off (mobile_changed s v r i).states.bits
changed s v r instruction.Reset h = refl
changed s v r instruction.HardReset h = refl
changed s v r (instruction.Speed forward code) h = short_speed s v (directed v r forward) code h
changed s v r (instruction.BinaryStateShort on n) h =
    chosen (eqb n 0) (low_states s.states.bits on) (kept_after s.states.bits n on)
    (low_off s.states.bits on) (kept s.states.bits n on h)
changed s v r (instruction.BinaryStateLong on n) h =
    chosen (eqb n 0) (all_states on) (kept_after s.states.bits n on)
    (all_off on) (kept s.states.bits n on h)
changed s v r i h = h

either :
    (acts : Bool) (s u : MobileState)
    → Off s.states.bits
    → Off u.states.bits
    → Off (cond acts u s).states.bits
either true s u h k = k
either false s u h k = h

obeys :
    (o : Own Mobile) (bs : List ℕ) (h : Option (Role × Instruction))
    → NumberZeroOff o
    → NumberZeroOff (obeyed mobile_rules o bs h)
obeys o bs None z = z
obeys o bs (Some h) z =
    let v = mobile_view o.vars (access_of h.1) in
    either (mobile_acts o.rec.state v h.0 (packed bs) h.1) o.rec.state
    (mobile_changed o.rec.state v h.0 h.1) z (changed o.rec.state v h.0 h.1 z)

event :
    (o : Own Mobile) (e : Event) → NumberZeroOff o → NumberZeroOff (live mobile_rules o e)
event o (heard bs) h = obeys o bs (hearing mobile_rules o (packet_read bs)) h
event o powered h = refl
event o (setting cv x) h = h

lives :
    (o : Own Mobile) (events : List Event)
    → NumberZeroOff o
    → NumberZeroOff (life mobile_rules o events)
lives o [] h = h
lives o (e ∷ es) h = lives (live mobile_rules o e) es (event o e h)

pub number_zero_stays_off : NumberZeroStaysOff
number_zero_stays_off = record {
  fitted = λ a. refl;
  power_up = λ o. refl;
  lives = lives;
  others = λ bits n on h.
      not_switched bits n on (⊎_elim (λ e. inl (omega arith)) (λ l. inr (omega arith)) h);
}

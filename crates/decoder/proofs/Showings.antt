-- What accessory decoders show, and what a mobile decoder keeps. Assumes nothing.
use Rattle.std.proofs.Common.{◌≡◌, ℕ, ◌%◌, Bool, true, false, cond, eqb, ◌≢◌, List, length, get_or, set, None, refl, ap, ◌∙◌, ⊎_elim, sym, arith, get_or-set_same, get_or-set_other}
use Rattle.std.proofs.lemmas.Bool.{true≢false, cases_eq, cond-true, cond-false, eq-eqb, ne_eqb}
use Rattle.packet.specs.declared.instruction.Instruction.{Instruction}
use Rattle.packet.specs.declared.instruction.Instruction.TheVariants.{Reset, HardReset, Speed, Speed126, BinaryStateShort, BinaryStateLong, Output, Aspect}
use Rattle.state.specs.declared.scale.Scale.TheVariants.{Fourteen, TwentyEight}
use Rattle.state.specs.declared.volatile.MobileState.{MobileState}
use Rattle.state.specs.Bits.{bit_of}
use Rattle.state.specs.Groups.{lit}
use Rattle.state.specs.Packing.{packed}
use Rattle.decoder.specs.declared.records.Mobile.{Mobile}
use Rattle.decoder.specs.declared.role.Role.{Role}
use Rattle.decoder.specs.Fresh.{Basic, Extended}
use Rattle.decoder.specs.Mobiles.{is_speed, directed, sped, with_functions, mobile_acts, mobile_changed}
use Rattle.decoder.specs.Alone.{Own, variable, mobile_view, mobile_rules, basic_rules, extended_rules}
use Rattle.decoder.specs.Laws.{OthersKeep, AccessoriesShow}

-- whether or not it acts
kept : {A : Type 0} (f : MobileState → A) (acts : Bool) (s u : MobileState) → f u ≡ f s → f (cond acts u s) ≡ f s
kept f true s u e = e
kept f false s u e = refl

speed_kept : (o : Own Mobile) (r : Role) (bs : List ℕ) (i : Instruction) → is_speed i ≡ false → i ≢ Reset → i ≢ HardReset → (mobile_rules.obeys o r bs i).rec.state.speed ≡ o.rec.state.speed
speed_kept o r bs Reset e a b = absurd (a refl)
speed_kept o r bs HardReset e a b = absurd (b refl)
speed_kept o r bs (Speed forward code) e a b = absurd (true≢false e)
speed_kept o r bs (Speed126 forward code) e a b = absurd (true≢false e)
speed_kept o r bs i e a b = kept (λ s. s.speed) _ o.rec.state _ refl

forward_kept : (o : Own Mobile) (r : Role) (bs : List ℕ) (i : Instruction) → is_speed i ≡ false → i ≢ Reset → i ≢ HardReset → (mobile_rules.obeys o r bs i).rec.state.forward ≡ o.rec.state.forward
forward_kept o r bs Reset e a b = absurd (a refl)
forward_kept o r bs HardReset e a b = absurd (b refl)
forward_kept o r bs (Speed forward code) e a b = absurd (true≢false e)
forward_kept o r bs (Speed126 forward code) e a b = absurd (true≢false e)
forward_kept o r bs i e a b = kept (λ s. s.forward) _ o.rec.state _ refl

short_states : (s : MobileState) (c forward : Bool) (code : ℕ) → (cond c (sped s TwentyEight forward code) (with_functions (sped s Fourteen forward code) (record { on = lit s.functions.on code }))).states ≡ s.states
short_states s true forward code = refl
short_states s false forward code = refl

states_kept : (o : Own Mobile) (r : Role) (bs : List ℕ) (i : Instruction) → ((on : Bool) (n : ℕ) → (i ≢ BinaryStateShort on n) × (i ≢ BinaryStateLong on n)) → i ≢ Reset → i ≢ HardReset → (mobile_rules.obeys o r bs i).rec.state.states ≡ o.rec.state.states
states_kept o r bs Reset h a b = absurd (a refl)
states_kept o r bs HardReset h a b = absurd (b refl)
states_kept o r bs (BinaryStateShort on n) h a b = absurd ((h on n).0 refl)
states_kept o r bs (BinaryStateLong on n) h a b = absurd ((h on n).1 refl)
states_kept o r bs (Speed forward code) h a b =
    kept (λ s. s.states) (mobile_acts o.rec.state (mobile_view o.vars None) r (packed bs) (Speed forward code)) o.rec.state (mobile_changed o.rec.state (mobile_view o.vars None) r (Speed forward code))
    (short_states o.rec.state (bit_of (variable o.vars 29) 1) (directed (mobile_view o.vars None) r forward) code)
states_kept o r bs i h a b = kept (λ s. s.states) _ o.rec.state _ refl

pub others_keep : OthersKeep
others_keep = record { speed = speed_kept; forward = forward_kept; states = states_kept }

switched_at : (os : List Bool) (n k : ℕ) (on : Bool) → length os ≡ 8 → get_or (set os (n % 8) on) k false ≡ cond (eqb (n % 8) k) on (get_or os k false)
switched_at os n k on l = ⊎_elim same other (cases_eq (n % 8) k)
  where
    same : n % 8 ≡ k → get_or (set os (n % 8) on) k false ≡ cond (eqb (n % 8) k) on (get_or os k false)
    same e =
        ap (λ j. get_or (set os (n % 8) on) j false) (sym e) ∙ get_or-set_same os (n % 8) on false (omega (arith, l))
        ∙ sym (cond-true _ _ _ (eq-eqb (n % 8) k e))

    other : (n % 8 ≡ k → ⊥) → get_or (set os (n % 8) on) k false ≡ cond (eqb (n % 8) k) on (get_or os k false)
    other ne = get_or-set_other os (n % 8) k on false (λ e. ne (sym e)) ∙ sym (cond-false _ _ _ (ne_eqb (n % 8) k ne))

basic_others : (o : Own Basic) (r : Role) (bs : List ℕ) (i : Instruction) → ((n : ℕ) (on : Bool) → i ≢ Output n on) → (basic_rules.obeys o r bs i).rec.state.shown ≡ o.rec.state.shown
basic_others o r bs (Output n on) h = absurd (h n on refl)
basic_others o r bs i h = refl

extended_others : (o : Own Extended) (r : Role) (bs : List ℕ) (i : Instruction) → ((n : ℕ) → i ≢ Aspect n) → (extended_rules.obeys o r bs i).rec.state.shown ≡ o.rec.state.shown
extended_others o r bs (Aspect n) h = absurd (h n refl)
extended_others o r bs i h = refl

pub accessories_show : AccessoriesShow
accessories_show = record {
  output = λ o r bs n k on l h. switched_at o.rec.state.shown n k on l;
  aspect = λ o r bs n. refl;
  basic_others = basic_others;
  extended_others = extended_others;
  basic_address = λ o r bs i. refl;
  extended_address = λ o r bs i. refl;
}

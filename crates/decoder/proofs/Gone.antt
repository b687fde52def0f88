-- How a mobile decoder goes, and the functions that are told. Assumes nothing.
use Rattle.std.proofs.Common.{◌≡◌, ℕ, ◌+◌, ◌-◌, ◌*◌, ◌%◌, ◌≤◌, Bool, true, false, cond, not, ◌&&◌, eqb, List, length, get_or, Some, Option, None, subst, sym, refl, ap, ◌∙◌, ⊎_elim, arith, get_or-set_same, get_or-set_other}
use Rattle.std.proofs.lemmas.Bool.{false≢true, eq-eqb, ne_eqb, cond-true, cond-false}
use Rattle.std.proofs.lemmas.Bool.Decides.{nat_tests}
use Rattle.packet.specs.declared.instruction.Instruction.TheVariants as instruction
use Rattle.state.specs.declared.scale.Scale.{Scale}
use Rattle.state.specs.declared.scale.Scale.TheVariants.{Fourteen, TwentyEight, OneTwentySix}
use Rattle.state.specs.declared.functions.Functions.{Functions}
use Rattle.state.specs.declared.speed.Speed.{Speed}
use Rattle.state.specs.declared.speed.Speed.TheVariants.{Stop, EmergencyStop, Running}
use Rattle.state.specs.declared.volatile.MobileState.{MobileState}
use Rattle.state.specs.declared.volatile.Reply.{Reply}
use Rattle.state.specs.declared.waiting.WaitingWrite.{WaitingWrite}
use Rattle.state.specs.Bits.{bit_of}
use Rattle.state.specs.Groups.{function_at, lit}
use Rattle.state.specs.Scales.{code_of, number_at}
use Rattle.state.specs.Speeds.{speed_at, step_at}
use Rattle.decoder.specs.declared.records.Mobile.{Mobile}
use Rattle.decoder.specs.declared.role.Role.{Role}
use Rattle.decoder.specs.declared.role.Role.TheVariants as role
use Rattle.decoder.specs.Hearing.{is_short, in_consist}
use Rattle.decoder.specs.Mobiles.{directed, sped, with_functions, mobile_changed, mobile_noted}
use Rattle.decoder.specs.Alone.{Own, variable, mobile_view, mobile_rules}
use Rattle.decoder.specs.Going.{IsStep, SpeedsInOrder, GoesAlone, TakesSpeed, GoesAsSent, SpeedActs}
use Rattle.decoder.specs.Laws.{FunctionsTold}

-- a code that is above 1 is that of its step
runs : (s : Scale) (code n : ℕ) → 2 ≤ code_of s code → number_at s code ≡ n → IsStep (speed_at s code) s n
runs s code n h e = (step_at s code, cond-false _ _ _ (ne_eqb (code_of s code) 0 (λ f. omega arith)) ∙ cond-false _ _ _ (ne_eqb (code_of s code) 1 (λ f. omega arith)), refl, e)

stopped : (s : Scale) (code : ℕ) → code_of s code ≡ 0 → speed_at s code ≡ Stop
stopped s code e = ap (λ c. cond (eqb c 0) Stop (cond (eqb c 1) EmergencyStop (Running (step_at s code)))) e

halted : (s : Scale) (code : ℕ) → code_of s code ≡ 1 → speed_at s code ≡ EmergencyStop
halted s code e = ap (λ c. cond (eqb c 0) Stop (cond (eqb c 1) EmergencyStop (Running (step_at s code)))) e

pub speeds_in_order : SpeedsInOrder
speeds_in_order = record {
  stops = λ c h. (stopped Fourteen (16 * c) (omega arith), stopped TwentyEight (16 * c) (omega arith));
  halts = λ c h. (halted Fourteen (16 * c + 1) (omega arith), halted TwentyEight (16 * c + 1) (omega arith));
  fourteen = λ c n h l m. runs Fourteen (16 * c + n + 1) n (omega arith) (omega arith);
  twenty_eight = λ c n h l m. runs TwentyEight (16 * c + n + 1) (2 * n - 1 + c) (omega arith) (omega arith);
  stop126 = refl;
  halt126 = refl;
  one_twenty_six = λ n l m. runs OneTwentySix (n + 1) n (omega arith) (omega arith);
}

-- speed acts by this role
pub speed_is_taken : (o : Own Mobile) (r : Role) → TakesSpeed o r → (p : Role → Type 0) → p role.Everyone → (GoesAlone o → p role.Own) → p r
speed_is_taken o r h p x y = ⊎_elim (λ e. subst p (sym e) x) (λ e. subst p (sym e.0) (y e.1)) h

pub not_in_consist : (o : Own Mobile) → GoesAlone o → not (in_consist (mobile_view o.vars None)) ≡ true
not_in_consist o h =
    ⊎_elim
    (λ e. ap (λ b. not (not b && not (is_short (variable o.vars 19 % 128) (mobile_view o.vars None).own))) (eq-eqb (variable o.vars 19 % 128) 0 e))
    (λ e. its_own (eqb (variable o.vars 19 % 128) 0) _ (ap (is_short (variable o.vars 19 % 128)) e ∙ eq-eqb (variable o.vars 19 % 128) _ refl))
    h
  where
    its_own : (none mine : Bool) → mine ≡ true → not (not none && not mine) ≡ true
    its_own true mine e = refl
    its_own false mine e = ap (λ b. not (not b)) e

module _ (s u : MobileState) (w : Option WaitingWrite) (reply : Option Reply) where
  as_sent : (acts : Bool) {to : Bool} {at : Speed} → acts ≡ true → u.forward ≡ to → u.speed ≡ at → GoesAsSent (mobile_noted (cond acts u s) w reply) to at
  as_sent true e f g = record { forward = f; speed = g }
  as_sent false e f g = absurd (false≢true e)

  functions_then : (acts : Bool) → acts ≡ true → (mobile_noted (cond acts u s) w reply).functions ≡ u.functions
  functions_then true e = refl
  functions_then false e = absurd (false≢true e)

  -- whether or not it acts
  functions_stay : (acts : Bool) → u.functions ≡ s.functions → (mobile_noted (cond acts u s) w reply).functions ≡ s.functions
  functions_stay true e = e
  functions_stay false e = refl

  function_stays : (acts : Bool) (k : ℕ) → get_or u.functions.on k false ≡ get_or s.functions.on k false → get_or (mobile_noted (cond acts u s) w reply).functions.on k false ≡ get_or s.functions.on k false
  function_stays true k e = e
  function_stays false k e = refl

module _ (o : Own Mobile) (bs : List ℕ) (forward : Bool) (code : ℕ) where
  in126 : (r : Role) → TakesSpeed o r → GoesAsSent (mobile_rules.obeys o r bs (instruction.Speed126 forward code)).rec.state forward (speed_at OneTwentySix code)
  in126 r h =
      speed_is_taken o r h (λ q. GoesAsSent (mobile_rules.obeys o q bs (instruction.Speed126 forward code)).rec.state forward (speed_at OneTwentySix code))
      (as_sent o.rec.state (mobile_changed o.rec.state (mobile_view o.vars None) role.Everyone (instruction.Speed126 forward code)) _ _ true refl refl refl)
      (λ e. as_sent o.rec.state _ _ _ _ (not_in_consist o e) refl refl)

  in28 : (r : Role) → TakesSpeed o r → bit_of (variable o.vars 29) 1 ≡ true → GoesAsSent (mobile_rules.obeys o r bs (instruction.Speed forward code)).rec.state forward (speed_at TwentyEight code)
  in28 r h c =
      let long : (x y : MobileState) → cond (bit_of (variable o.vars 29) 1) x y ≡ x = λ x y. cond-true _ x y c in
      speed_is_taken o r h (λ q. GoesAsSent (mobile_rules.obeys o q bs (instruction.Speed forward code)).rec.state forward (speed_at TwentyEight code))
      (as_sent o.rec.state (mobile_changed o.rec.state (mobile_view o.vars None) role.Everyone (instruction.Speed forward code)) _ _ true refl (ap (λ (s : MobileState). s.forward) (long _ _)) (ap (λ (s : MobileState). s.speed) (long _ _)))
      (λ e. as_sent o.rec.state _ _ _ _ (not_in_consist o e) (ap (λ (s : MobileState). s.forward) (long _ _)) (ap (λ (s : MobileState). s.speed) (long _ _)))

  in14 : (r : Role) → TakesSpeed o r → bit_of (variable o.vars 29) 1 ≡ false → GoesAsSent (mobile_rules.obeys o r bs (instruction.Speed forward code)).rec.state forward (speed_at Fourteen code)
  in14 r h c =
      let short : (x y : MobileState) → cond (bit_of (variable o.vars 29) 1) x y ≡ y = λ x y. cond-false _ x y c in
      speed_is_taken o r h (λ q. GoesAsSent (mobile_rules.obeys o q bs (instruction.Speed forward code)).rec.state forward (speed_at Fourteen code))
      (as_sent o.rec.state (mobile_changed o.rec.state (mobile_view o.vars None) role.Everyone (instruction.Speed forward code)) _ _ true refl (ap (λ (s : MobileState). s.forward) (short _ _)) (ap (λ (s : MobileState). s.speed) (short _ _)))
      (λ e. as_sent o.rec.state _ _ _ _ (not_in_consist o e) (ap (λ (s : MobileState). s.forward) (short _ _)) (ap (λ (s : MobileState). s.speed) (short _ _)))

  light : (r : Role) → length o.rec.state.functions.on ≡ 69 → TakesSpeed o r → bit_of (variable o.vars 29) 1 ≡ false → function_at (mobile_rules.obeys o r bs (instruction.Speed forward code)).rec.state.functions.on 0 ≡ Some (bit_of code 4)
  light r l h c =
      let short : (x y : MobileState) → cond (bit_of (variable o.vars 29) 1) x y ≡ y = λ x y. cond-false _ x y c in
      let there : get_or (lit o.rec.state.functions.on code) 0 false ≡ bit_of code 4 = get_or-set_same o.rec.state.functions.on 0 (bit_of code 4) false (omega (arith, l)) in
      let told : (f : Functions) → f ≡ record { on = lit o.rec.state.functions.on code } → function_at f.on 0 ≡ Some (bit_of code 4) = λ f e. ap (λ (g : Functions). Some (get_or g.on 0 false)) e ∙ ap Some there in
      speed_is_taken o r h (λ q. function_at (mobile_rules.obeys o q bs (instruction.Speed forward code)).rec.state.functions.on 0 ≡ Some (bit_of code 4))
      (told _ (functions_then o.rec.state (mobile_changed o.rec.state (mobile_view o.vars None) role.Everyone (instruction.Speed forward code)) None None true refl ∙ ap (λ (s : MobileState). s.functions) (short _ _)))
      (λ e. told _ (functions_then o.rec.state _ None None _ (not_in_consist o e) ∙ ap (λ (s : MobileState). s.functions) (short _ _)))

  functions : (r : Role) (k : ℕ) → 1 ≤ k → get_or (mobile_rules.obeys o r bs (instruction.Speed forward code)).rec.state.functions.on k false ≡ get_or o.rec.state.functions.on k false
  functions r k h = function_stays o.rec.state _ None None _ k (other (bit_of (variable o.vars 29) 1))
    where
      other : (c : Bool) → get_or (cond c (sped o.rec.state TwentyEight (directed (mobile_view o.vars None) r forward) code) (with_functions (sped o.rec.state Fourteen (directed (mobile_view o.vars None) r forward) code) (record { on = lit o.rec.state.functions.on code }))).functions.on k false ≡ get_or o.rec.state.functions.on k false
      other true = refl
      other false = get_or-set_other o.rec.state.functions.on 0 k (bit_of code 4) false (omega (arith, h))

  functions28 : (r : Role) → bit_of (variable o.vars 29) 1 ≡ true → (mobile_rules.obeys o r bs (instruction.Speed forward code)).rec.state.functions ≡ o.rec.state.functions
  functions28 r c = functions_stay o.rec.state _ None None _ (ap (λ (s : MobileState). s.functions) (cond-true _ _ _ c))

pub speed_acts : SpeedActs
speed_acts = record {
  in126 = λ o r bs forward code h. in126 o bs forward code r h;
  in28 = λ o r bs forward code h c. in28 o bs forward code r h c;
  in14 = λ o r bs forward code h c. in14 o bs forward code r h c;
  light = λ o r bs forward code l h c. light o bs forward code r l h c;
  functions = λ o r bs forward code k h. functions o bs forward code r k h;
  functions28 = λ o r bs forward code c. functions28 o bs forward code r c;
}

pub functions_told : FunctionsTold
functions_told = record {
  told = λ fs n h. grind (arith, nat_tests);
  beyond = λ fs n h. grind (arith, nat_tests);
}

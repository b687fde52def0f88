-- What a hard reset leaves, and speed in a consist. Assumes nothing.
use Rattle.std.proofs.Common.{◌≡◌, ℕ, ◌+◌, ◌-◌, ◌%◌, ◌≤◌, Bool, true, false, cond, not, ◌&&◌, eqb, ◌≢◌, List, length, get_or, set, Some, None, Option, refl, ap, ◌∙◌, arith, length-set, get_or-set_same, get_or-set_other}
use Rattle.std.proofs.lemmas.Bool.{true≢false, false≢true}
use Rattle.std.proofs.lemmas.Bool.Decides.{nat_tests}
use Rattle.packet.specs.declared.instruction.Instruction.{Instruction}
use Rattle.packet.specs.declared.instruction.Instruction.TheVariants.{Speed, Speed126, AdvancedAddressing, Consist, AccelerationAdjustment, DecelerationAdjustment}
use Rattle.packet.specs.declared.target.Target.TheVariants as target
use Rattle.state.specs.declared.scale.Scale.TheVariants.{Fourteen, TwentyEight}
use Rattle.state.specs.declared.volatile.MobileState.{MobileState}
use Rattle.state.specs.declared.volatile.Reply.{Reply}
use Rattle.state.specs.declared.waiting.WaitingWrite.{WaitingWrite}
use Rattle.state.specs.Bits.{bit_of, with_bit}
use Rattle.state.specs.Groups.{function_at, lit}
use Rattle.state.specs.Speeds.{speed_at}
use Rattle.state.specs.Starting.{mobile_start}
use Rattle.decoder.specs.declared.records.Mobile.{Mobile}
use Rattle.decoder.specs.declared.role.Address.{Address}
use Rattle.decoder.specs.declared.role.Role.{Role}
use Rattle.decoder.specs.declared.role.Role.TheVariants as role
use Rattle.decoder.specs.Hearing.{is_short, is_consist}
use Rattle.decoder.specs.Mobiles.{is_speed, sped, with_functions, mobile_noted}
use Rattle.decoder.specs.Alone.{Own, own, variable, mobile_view, mobile_rules}
use Rattle.decoder.specs.Going.{GoesAsSent}
use Rattle.decoder.specs.Laws.{HardResetLeaves, HardResets, SpeedInConsist, InstructionsPut}
use Rattle.decoder.specs.Settings.{Puts}

module _ (vars : List ℕ) (l : length vars ≡ 1024) where
  abbrev after19 : List ℕ
  after19 = set vars 18 0

  abbrev after29 : List ℕ
  after29 = set after19 28 2

  abbrev after31 : List ℕ
  after31 = set after29 30 16

  abbrev after32 : List ℕ
  after32 = set after31 31 0

  long29 : length after19 ≡ 1024
  long29 = length-set vars 18 0 ∙ l

  long31 : length after29 ≡ 1024
  long31 = length-set after19 28 2 ∙ long29

  long32 : length after31 ≡ 1024
  long32 = length-set after29 30 16 ∙ long31

  at19 : get_or after32 18 0 ≡ 0
  at19 = get_or-set_other after31 31 18 0 0 (omega arith) ∙ get_or-set_other after29 30 18 16 0 (omega arith) ∙ get_or-set_other after19 28 18 2 0 (omega arith) ∙ get_or-set_same vars 18 0 0 (omega (arith, l))

  at29 : get_or after32 28 0 ≡ 2
  at29 = get_or-set_other after31 31 28 0 0 (omega arith) ∙ get_or-set_other after29 30 28 16 0 (omega arith) ∙ get_or-set_same after19 28 2 0 (omega (arith, long29))

  at31 : get_or after32 30 0 ≡ 16
  at31 = get_or-set_other after31 31 30 0 0 (omega arith) ∙ get_or-set_same after29 30 16 0 (omega (arith, long31))

  at32 : get_or after32 31 0 ≡ 0
  at32 = get_or-set_same after31 31 0 0 (omega (arith, long32))

  elsewhere : (k : ℕ) → k ≢ 18 → k ≢ 28 → k ≢ 30 → k ≢ 31 → get_or after32 k 0 ≡ get_or vars k 0
  elsewhere k a b c d = get_or-set_other after31 31 k 0 0 d ∙ get_or-set_other after29 30 k 16 0 c ∙ get_or-set_other after19 28 k 2 0 b ∙ get_or-set_other vars 18 k 0 0 a

leaves : (o : Own Mobile) (s : MobileState) (l : length o.vars ≡ 1024) → s ≡ mobile_noted mobile_start None s.reply → HardResetLeaves o (own (record { state = s }) (after32 o.vars l))
leaves o s l e =
    record {
      state = e;
      cv19 = at19 o.vars l;
      cv29 = at29 o.vars l;
      cv31 = at31 o.vars l;
      cv32 = at32 o.vars l;
      others = λ n h a b c d. elsewhere o.vars l (n - 1) (λ f. a (omega arith)) (λ f. b (omega arith)) (λ f. c (omega arith)) (λ f. d (omega arith));
    }

pub hard_resets : HardResets
hard_resets o role.Everyone bs l n = leaves o _ l refl
hard_resets o role.Own bs l n = leaves o _ l refl
hard_resets o role.Consist bs l n = absurd (n refl)

-- an address that is heard as the consist's is not the own, and the consist has it
in_it : (a consist : ℕ) (own : Option Address) → cond (is_short a own) (Some role.Own) (cond (is_consist a consist) (Some role.Consist) None) ≡ Some role.Consist → (not (eqb (consist % 128) 0) && not (is_short (consist % 128) own)) ≡ true
in_it a consist own h = grind (arith, nat_tests)

ignored : (o : Own Mobile) (a : ℕ) (bs : List ℕ) (i : Instruction) → mobile_rules.hears o (target.Short a) ≡ Some role.Consist → is_speed i ≡ true → mobile_rules.obeys o role.Own bs i ≡ own (record { state = mobile_noted o.rec.state None None }) o.vars
ignored o a bs (Speed forward code) h e = let c = in_it a (variable o.vars 19) (mobile_view o.vars None).own h in grind (arith, nat_tests)
ignored o a bs (Speed126 forward code) h e = let c = in_it a (variable o.vars 19) (mobile_view o.vars None).own h in grind (arith, nat_tests)
ignored o a bs i h e = absurd (false≢true e)

-- a speed in 28 or in 14 steps
module _ (s : MobileState) (forward : Bool) (code : ℕ) (w : Option WaitingWrite) (reply : Option Reply) where
  abbrev short : Bool → MobileState
  short c = mobile_noted (cond c (sped s TwentyEight forward code) (with_functions (sped s Fourteen forward code) (record { on = lit s.functions.on code }))) w reply

  goes28 : (c : Bool) → c ≡ true → GoesAsSent (short c) forward (speed_at TwentyEight code)
  goes28 true e = record { forward = refl; speed = refl }
  goes28 false e = absurd (false≢true e)

  goes14 : (c : Bool) → c ≡ false → GoesAsSent (short c) forward (speed_at Fourteen code)
  goes14 false e = record { forward = refl; speed = refl }
  goes14 true e = absurd (true≢false e)

  lights : (c : Bool) → length s.functions.on ≡ 69 → c ≡ false → function_at (short c).functions.on 0 ≡ Some (bit_of code 4)
  lights false l e = ap Some (get_or-set_same s.functions.on 0 (bit_of code 4) false (omega (arith, l)))
  lights true l e = absurd (true≢false e)

pub speed_in_consist : SpeedInConsist
speed_in_consist = record {
  ignored = ignored;
  in126 = λ o bs forward code. record { forward = refl; speed = refl };
  in28 = λ o bs forward code c. goes28 o.rec.state _ code _ _ _ c;
  in14 = λ o bs forward code c. goes14 o.rec.state _ code _ _ _ c;
  light = λ o bs forward code l c. lights o.rec.state _ code None None _ l c;
}

-- one variable of a decoder is put
puts : (o : Own Mobile) (x : Mobile) (n y : ℕ) → length o.vars ≡ 1024 → 1 ≤ n → n ≤ 1024 → Puts o (own x (set o.vars (n - 1) y)) n y
puts o x n y l least most =
    record {
      value = get_or-set_same o.vars (n - 1) y 0 (omega (arith, l));
      others = λ k h ne. get_or-set_other o.vars (n - 1) (k - 1) y 0 (λ e. ne (omega arith));
    }

pub instructions_put : InstructionsPut
instructions_put = record { consist = consist; acceleration = acceleration; deceleration = deceleration; advanced = advanced }
  where
    consist : (o : Own Mobile) (r : Role) (bs : List ℕ) (reversed : Bool) (a : ℕ) → length o.vars ≡ 1024 → r ≢ role.Consist → Puts o (mobile_rules.obeys o r bs (Consist reversed a)) 19 (cond reversed 128 0 + a % 128)
    consist o role.Everyone bs reversed a l ne = puts o _ 19 _ l (omega arith) (omega arith)
    consist o role.Own bs reversed a l ne = puts o _ 19 _ l (omega arith) (omega arith)
    consist o role.Consist bs reversed a l ne = absurd (ne refl)

    acceleration : (o : Own Mobile) (r : Role) (bs : List ℕ) (x : ℕ) → length o.vars ≡ 1024 → r ≢ role.Consist → Puts o (mobile_rules.obeys o r bs (AccelerationAdjustment x)) 23 x
    acceleration o role.Everyone bs x l ne = puts o _ 23 _ l (omega arith) (omega arith)
    acceleration o role.Own bs x l ne = puts o _ 23 _ l (omega arith) (omega arith)
    acceleration o role.Consist bs x l ne = absurd (ne refl)

    deceleration : (o : Own Mobile) (r : Role) (bs : List ℕ) (x : ℕ) → length o.vars ≡ 1024 → r ≢ role.Consist → Puts o (mobile_rules.obeys o r bs (DecelerationAdjustment x)) 24 x
    deceleration o role.Everyone bs x l ne = puts o _ 24 _ l (omega arith) (omega arith)
    deceleration o role.Own bs x l ne = puts o _ 24 _ l (omega arith) (omega arith)
    deceleration o role.Consist bs x l ne = absurd (ne refl)

    advanced : (o : Own Mobile) (r : Role) (bs : List ℕ) (on : Bool) → length o.vars ≡ 1024 → r ≢ role.Consist → Puts o (mobile_rules.obeys o r bs (AdvancedAddressing on)) 29 (with_bit (variable o.vars 29) 5 on)
    advanced o role.Everyone bs on l ne = puts o _ 29 _ l (omega arith) (omega arith)
    advanced o role.Own bs on l ne = puts o _ 29 _ l (omega arith) (omega arith)
    advanced o role.Consist bs on l ne = absurd (ne refl)

-- How a decoder begins. Assumes nothing.
use Rattle.std.proofs.Common.{◌≡◌, ℕ, ◌+◌, ◌-◌, ◌/◌, ◌%◌, ◌<◌, ◌≤◌, false, ◌≢◌, get_or, set, replicate, slice_get, Some, refl, ap, ◌∙◌, ⊎_elim, arith, get_or-set_other}
use Rattle.std.proofs.lemmas.List.{get_or-replicate, get_or_past, length-replicate}
use Rattle.std.proofs.lemmas.Option.{slice_get-get_or}
use Rattle.std.proofs.lemmas.Bool.{cases_lt}
use Rattle.std.proofs.lemmas.Bool.Decides.{nat_tests}
use Rattle.state.specs.Starting.{mobile_start, basic_start, extended_start}
use Rattle.decoder.specs.declared.role.Address.TheVariants.{Short, Long}
use Rattle.decoder.specs.Fitted.{blank, mobile_defaults, mobile_variables}
use Rattle.decoder.specs.Beginnings.{MobileAtRest, BasicAtRest, ExtendedAtRest, PowersUp, MobileVariables, NoVariables, Fits}
use Rattle.decoder.proofs.Fittings.{length_blank, length-mobile}
use Rattle.decoder.proofs.States.{together}

-- each of a list of zeros is 0, also past its end
zeros_at : (n k : ℕ) → get_or {A = ℕ} (replicate n 0) k 0 ≡ 0
zeros_at n k = ⊎_elim (λ l. get_or-replicate n k 0 0 l) (λ h. get_or_past {X = ℕ} (replicate n 0) k 0 (omega (arith, h, length-replicate {A = ℕ} n 0))) (cases_lt k n)

off_at : (n k : ℕ) → k < n → get_or (replicate n false) k false ≡ false
off_at n k h = get_or-replicate n k false false h

at_start : MobileAtRest mobile_start
at_start = record {
  forward = refl;
  speed = refl;
  functions = λ n h. let e = off_at 69 n (omega arith) in grind (arith, nat_tests);
  states = λ n low high. together false n low high;
  waiting = refl;
  reply = refl;
}

outputs_off : (n : ℕ) → n < 8 → slice_get (replicate 8 false) n ≡ Some false
outputs_off n h = slice_get-get_or (replicate 8 false) n false h ∙ ap Some (off_at 8 n h)

basic_start_rests : (a : ℕ) → BasicAtRest a (record { address = a; state = basic_start })
basic_start_rests a = record { address = refl; outputs = outputs_off; waiting = refl; reply = refl }

extended_start_rests : (a : ℕ) → ExtendedAtRest a (record { address = a; state = extended_start })
extended_start_rests a = record { address = refl; aspect = refl; waiting = refl; reply = refl }

pub powers_up : PowersUp
powers_up = record {
  mobile = λ o. at_start;
  basic = λ o. basic_start_rests o.rec.address;
  extended = λ o. extended_start_rests o.rec.address;
  mobile_keeps = λ o. refl;
  basic_keeps = λ o. refl;
  extended_keeps = λ o. refl;
}

blank_at : (k : ℕ) → get_or blank k 0 ≡ 0
unfolding blank
blank_at k = zeros_at 1024 k

defaults_at : (k : ℕ) → k ≢ 0 → k ≢ 16 → k ≢ 28 → k ≢ 30 → get_or mobile_defaults k 0 ≡ 0
unfolding mobile_defaults
defaults_at k a b c d =
    get_or-set_other (set (set (set blank 0 3) 16 192) 28 2) 30 k 16 0 d ∙ get_or-set_other (set (set blank 0 3) 16 192) 28 k 2 0 c
    ∙ get_or-set_other (set blank 0 3) 16 k 192 0 b ∙ get_or-set_other blank 0 k 3 0 a ∙ blank_at k

short_variables : (a : ℕ) → MobileVariables (mobile_variables (Short a)) a 192 0 2
unfolding blank mobile_defaults mobile_variables
short_variables a = record {
  all = length-mobile (Short a);
  cv1 = refl;
  cv17 = refl;
  cv18 = refl;
  cv29 = refl;
  cv31 = refl;
  others = λ n h a1 a17 a18 a29 a31. get_or-set_other mobile_defaults 0 (n - 1) a 0 (λ e. a1 (omega arith)) ∙ defaults_at (n - 1) (λ e. a1 (omega arith)) (λ e. a17 (omega arith)) (λ e. a29 (omega arith)) (λ e. a31 (omega arith));
}

long_variables : (a : ℕ) → a ≤ 10239 → MobileVariables (mobile_variables (Long a)) 3 (192 + a / 256) (a % 256) 34
unfolding blank mobile_defaults mobile_variables
long_variables a l = record {
  all = length-mobile (Long a);
  cv1 = refl;
  cv17 = omega arith;
  cv18 = refl;
  cv29 = refl;
  cv31 = refl;
  others = λ n h a1 a17 a18 a29 a31.
      get_or-set_other (set (set mobile_defaults 16 ((192 + a / 256) % 256)) 17 (a % 256)) 28 (n - 1) 34 0 (λ e. a29 (omega arith)) ∙ get_or-set_other (set mobile_defaults 16 ((192 + a / 256) % 256)) 17 (n - 1) (a % 256) 0 (λ e. a18 (omega arith))
      ∙ get_or-set_other mobile_defaults 16 (n - 1) ((192 + a / 256) % 256) 0 (λ e. a17 (omega arith))
      ∙ defaults_at (n - 1) (λ e. a1 (omega arith)) (λ e. a17 (omega arith)) (λ e. a29 (omega arith)) (λ e. a31 (omega arith));
}

no_variables : NoVariables blank
no_variables = record { all = length_blank; each = λ n. blank_at (n - 1) }

pub fits : Fits
fits = record {
  mobile = λ a. at_start;
  basic = basic_start_rests;
  extended = extended_start_rests;
  short = short_variables;
  long = long_variables;
  basic_variables = λ a. no_variables;
  extended_variables = λ a. no_variables;
}

-- Who hears what. Assumes nothing.
use Rattle.std.proofs.Common.{◌≡◌, ℕ, ◌+◌, ◌/◌, ◌%◌, Bool, true, false, cond, eqb, ◌≢◌, Some, None, Option, sym, refl, ap, ◌∙◌, arith}
use Rattle.std.proofs.lemmas.Bool.{cond-true, cond-false, eq-eqb, ne_eqb}
use Rattle.std.proofs.lemmas.Bool.Decides.{nat_tests}
use Rattle.packet.specs.declared.target.Target.{Target}
use Rattle.packet.specs.declared.target.Target.TheVariants as target
use Rattle.decoder.specs.declared.records.Mobile.{Mobile}
use Rattle.decoder.specs.declared.role.Address.{Address}
use Rattle.decoder.specs.declared.role.Address.TheVariants as address
use Rattle.decoder.specs.declared.role.Role.{Role}
use Rattle.decoder.specs.declared.role.Role.TheVariants as role
use Rattle.decoder.specs.Fresh.{Basic, Extended}
use Rattle.decoder.specs.Alone.{Own, variable, mobile_rules, basic_rules, extended_rules, mobile_view}
use Rattle.decoder.specs.Fitted.{blank, mobile_defaults, mobile_variables, mobile_fitted}
use Rattle.decoder.specs.Hearing.{own_address, is_short, is_long, is_consist, consist_of, mobile_role, by_accessory}
use Rattle.decoder.specs.Laws.{HearsItsOwn, HasAnAddress, HearsItsKind, HearsAll, HearsAsAddressed, is_mobile_address, target_at}

own_short : (a : ℕ) → is_mobile_address (address.Short a) ≡ true → own_address 2 a 192 0 ≡ Some (address.Short a)
own_short a h = cond-true _ _ _ h

own_long : (a : ℕ) → is_mobile_address (address.Long a) ≡ true → own_address 34 3 ((192 + a / 256) % 256) (a % 256) ≡ Some (address.Long a)
own_long a h = grind (arith, nat_tests)

by_short : (a : ℕ) (v : Option Address) → v ≡ Some (address.Short a) → is_short a v ≡ true
by_short a v e = ap (is_short a) e ∙ eq-eqb a a refl

by_long : (a : ℕ) (v : Option Address) → v ≡ Some (address.Long a) → is_long a v ≡ true
by_long a v e = ap (is_long a) e ∙ eq-eqb a a refl

short_heard : (a : ℕ) → is_mobile_address (address.Short a) ≡ true → mobile_role (mobile_view (mobile_variables (address.Short a)) None) (target.Short a) ≡ Some role.Own
unfolding blank mobile_defaults mobile_variables
short_heard a h = cond-true _ _ _ (by_short a _ (own_short a h))

long_heard : (a : ℕ) → is_mobile_address (address.Long a) ≡ true → mobile_role (mobile_view (mobile_variables (address.Long a)) None) (target.Long a) ≡ Some role.Own
unfolding blank mobile_defaults mobile_variables
long_heard a h = cond-true _ _ _ (by_long a _ (own_long a h))

heard_there : (own all : ℕ) → by_accessory own all own ≡ Some role.Own
heard_there own all = cond-true _ _ _ (eq-eqb own own refl)

pub hears_its_own : HearsItsOwn
hears_its_own = record {
  mobile = at;
  basic = λ a. heard_there a 511;
  extended = λ a. heard_there a 2047;
}
  where
    at : (a : Address) → is_mobile_address a ≡ true → mobile_rules.hears (mobile_fitted a) (target_at a) ≡ Some role.Own
    at (address.Short a) h = short_heard a h
    at (address.Long a) h = long_heard a h

pub has_an_address : HasAnAddress
has_an_address config short high low (address.Short a) l e = grind (arith, nat_tests)
has_an_address config short high low (address.Long a) l e = grind (arith, nat_tests)

pub hears_its_kind : HearsItsKind
hears_its_kind = record { mobile = λ o a. (refl, refl, refl); basic = basic; extended = extended }
  where
    basic : (o : Own Basic) (t : Target) (r : Role) → basic_rules.hears o t ≡ Some r → (a : ℕ) × (t ≡ target.Basic a)
    basic o (target.Basic a) r e = (a, refl)
    basic o t r e = cc

    extended : (o : Own Extended) (t : Target) (r : Role) → extended_rules.hears o t ≡ Some r → (a : ℕ) × (t ≡ target.Extended a)
    extended o (target.Extended a) r e = (a, refl)
    extended o t r e = cc

pub hears_all : HearsAll
hears_all = record {
  mobile = λ o. refl;
  basic = λ o ne. to_all o.rec.address 511 ne;
  extended = λ o ne. to_all o.rec.address 2047 ne;
  basic_others = λ o a ne all. cond-false _ _ _ (ne_eqb a o.rec.address ne) ∙ cond-false _ _ _ (ne_eqb a 511 all);
  extended_others = λ o a ne all. cond-false _ _ _ (ne_eqb a o.rec.address ne) ∙ cond-false _ _ _ (ne_eqb a 2047 all);
}
  where
    to_all : (own all : ℕ) → own ≢ all → by_accessory own all all ≡ Some role.Everyone
    to_all own all ne = cond-false _ _ _ (ne_eqb all own (λ e. ne (sym e))) ∙ cond-true _ _ _ (eq-eqb all all refl)

-- the two ways to tell the consist's address
consist_is : (c a : ℕ) (mine : Bool) → cond mine (Some role.Own) (cond (is_consist a c) (Some role.Consist) None) ≡ Some role.Consist → cond (eqb (c % 128) 0) None (Some (c % 128)) ≡ Some a
consist_is c a mine h = grind (arith, nat_tests)

-- a packet that is heard as its own is to the address that stands
own_short_is : (a : ℕ) (other : Bool) (v : Option Address) → cond (is_short a v) (Some role.Own) (cond other (Some role.Consist) None) ≡ Some role.Own → v ≡ Some (address.Short a)
own_short_is a true None h = cc
own_short_is a false None h = cc
own_short_is a true (Some (address.Long b)) h = cc
own_short_is a false (Some (address.Long b)) h = cc
own_short_is a other (Some (address.Short b)) h = ap (λ n. Some (address.Short n)) (grind (arith, nat_tests))

own_long_is : (a : ℕ) (v : Option Address) → cond (is_long a v) (Some role.Own) None ≡ Some role.Own → v ≡ Some (address.Long a)
own_long_is a None h = cc
own_long_is a (Some (address.Short b)) h = cc
own_long_is a (Some (address.Long b)) h = ap (λ n. Some (address.Long n)) (grind (arith, nat_tests))

-- and the address of the consist is another
not_short : (a : ℕ) (v : Option Address) → v ≢ Some (address.Short a) → is_short a v ≡ false
not_short a None ne = refl
not_short a (Some (address.Short b)) ne = ne_eqb a b (λ e. ne (ap (λ n. Some (address.Short n)) (sym e)))
not_short a (Some (address.Long b)) ne = refl

consist_at : (c a : ℕ) → cond (eqb (c % 128) 0) None (Some (c % 128)) ≡ Some a → is_consist a c ≡ true
consist_at c a h = grind (arith, nat_tests)

-- a long address is no consist's, and only a broadcast is to all
long_is_own : (c : Bool) → cond c (Some role.Own) None ≢ Some role.Consist
long_is_own true h = let z : ◌≡◌ {A = ℕ} 0 1 = cc in absurd (omega arith)
long_is_own false h = let z : ◌≡◌ {A = ℕ} 0 1 = cc in absurd (omega arith)

none_is_all : (c d : Bool) (r : Role) → r ≢ role.Everyone → cond c (Some role.Own) (cond d (Some r) None) ≢ Some role.Everyone
none_is_all true d r ne h = let z : ◌≡◌ {A = ℕ} 0 1 = cc in absurd (omega arith)
none_is_all false true r ne h = ne cc
none_is_all false false r ne h = let z : ◌≡◌ {A = ℕ} 0 1 = cc in absurd (omega arith)

pub hears_as_addressed : HearsAsAddressed
hears_as_addressed = record {
  own = own;
  at_own = at_own;
  consist = consist;
  everyone = everyone;
  basic = λ o. heard_there o.rec.address 511;
  extended = λ o. heard_there o.rec.address 2047;
  at_consist = λ o a h ne. cond-false _ _ _ (not_short a (mobile_view o.vars None).own ne) ∙ cond-true _ _ _ (consist_at (variable o.vars 19) a h);
}
  where
    own : (o : Own Mobile) (t : Target) → mobile_rules.hears o t ≡ Some role.Own → (a : Address) × ((mobile_view o.vars None).own ≡ Some a) × (t ≡ target_at a)
    own o (target.Short a) h = (address.Short a, own_short_is a _ _ h, refl)
    own o (target.Long a) h = (address.Long a, own_long_is a _ h, refl)
    own o t h = cc

    consist : (o : Own Mobile) (t : Target) → mobile_rules.hears o t ≡ Some role.Consist → (a : ℕ) × (consist_of (mobile_view o.vars None) ≡ Some a) × (t ≡ target.Short a)
    consist o (target.Short a) h = (a, consist_is (variable o.vars 19) a _ h, refl)
    consist o (target.Long a) h = absurd (long_is_own _ h)
    consist o t h = cc

    everyone : (o : Own Mobile) (t : Target) → mobile_rules.hears o t ≡ Some role.Everyone → t ≡ target.Broadcast
    everyone o target.Broadcast h = refl
    everyone o (target.Short a) h = absurd (none_is_all _ _ role.Consist (λ e. let z : ◌≡◌ {A = ℕ} 0 1 = cc in omega arith) h)
    everyone o (target.Long a) h = absurd (none_is_all _ false role.Consist (λ e. let z : ◌≡◌ {A = ℕ} 0 1 = cc in omega arith) h)
    everyone o t h = cc

    at_own : (o : Own Mobile) (a : Address) → (mobile_view o.vars None).own ≡ Some a → mobile_rules.hears o (target_at a) ≡ Some role.Own
    at_own o (address.Short a) e = cond-true _ _ _ (by_short a _ e)
    at_own o (address.Long a) e = cond-true _ _ _ (by_long a _ e)

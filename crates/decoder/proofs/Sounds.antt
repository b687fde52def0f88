-- What the two kinds of accessory decoders have in common. Assumes nothing.
use Rattle.std.proofs.Common.{◌≡◌, ℕ, Bool, false, ◌&&◌, List, Some, None, Option, is_some, refl, arith}
use Rattle.std.proofs.lemmas.Bool.Decides.{nat_tests}
use Rattle.packet.specs.declared.instruction.Instruction.{Instruction}
use Rattle.packet.specs.declared.instruction.Instruction.TheVariants.{Output, Aspect}
use Rattle.packet.specs.declared.target.Target.{Target}
use Rattle.packet.specs.declared.target.Target.TheVariants.{Basic, Extended}
use Rattle.decoder.specs.declared.effect.Access.{Access}
use Rattle.decoder.specs.declared.role.Role.TheVariants as role
use Rattle.decoder.specs.Accesses.{access_of}
use Rattle.decoder.specs.Accessories.{AccessoryKind, basic_kind, extended_kind}
use Rattle.decoder.specs.Hearing.{by_accessory}

abbrev pub Apart : {Y : Type 0} → Option Y → Option Access → Type 0
Apart own a = (is_some own && is_some a) ≡ false

-- the instructions that it shows are no long forms, it hears by no consist address, and nothing waits at first
pub record Sound {S : Type 0} (k : AccessoryKind S) : Type 0 where
  pub apart : (s : S) (i : Instruction) → Apart (k.after s i) (access_of i)
  pub alone : (own : ℕ) (t : Target) → k.role own t ≡ Some role.Consist → ⊥
  pub fresh : k.start.waiting ≡ None

output_apart : (os : List Bool) (i : Instruction) → Apart (basic_kind.after os i) (access_of i)
output_apart os (Output number on) = refl
output_apart os i = refl

aspect_apart : (a : ℕ) (i : Instruction) → Apart (extended_kind.after a i) (access_of i)
aspect_apart a (Aspect number) = refl
aspect_apart a i = refl

no_consist : (own all a : ℕ) → by_accessory own all a ≡ Some role.Consist → ⊥
no_consist own all a e = grind (arith, nat_tests)

basic_alone : (own : ℕ) (t : Target) → basic_kind.role own t ≡ Some role.Consist → ⊥
basic_alone own (Basic a) e = no_consist own 511 a e
basic_alone own t e = let z : ◌≡◌ {A = ℕ} 0 1 = cc in omega arith

extended_alone : (own : ℕ) (t : Target) → extended_kind.role own t ≡ Some role.Consist → ⊥
extended_alone own (Extended a) e = no_consist own 2047 a e
extended_alone own t e = let z : ◌≡◌ {A = ℕ} 0 1 = cc in omega arith

pub basic_sound : Sound basic_kind
basic_sound = record { apart = output_apart; alone = basic_alone; fresh = refl }

pub extended_sound : Sound extended_kind
extended_sound = record { apart = aspect_apart; alone = extended_alone; fresh = refl }

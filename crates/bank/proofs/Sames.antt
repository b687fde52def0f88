-- `==` on kinds, as the definitions tell two kinds apart.
use Rattle.std.proofs.Common.{◌≡◌, refl}
use denote.Enum.Bare.{sameb}
use Rattle.bank.specs.declared.kind.Kind.{Kind}
use Rattle.bank.specs.declared.kind.Kind.TheVariants.{Mobile, Basic, Extended}
use Rattle.bank.specs.contracts.kind.Kind.{the_type}
use Rattle.bank.specs.Kinds.{same_kind}

pub same_by : (a b : Kind) → sameb the_type a b ≡ same_kind b a
same_by Mobile Mobile = refl
same_by Basic Basic = refl
same_by Extended Extended = refl
same_by _ _ = refl

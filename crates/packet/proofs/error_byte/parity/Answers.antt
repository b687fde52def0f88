use Rattle.std.proofs.Common.{◌≡◌, refl, rules, subst}
use Rattle.std.proofs.lemmas.Fn.{fold_over, slice_gives, fronts}
use Rattle.packet.specs.Parity.{parity}
use Rattle.packet.proofs.Parities.{parity_more}
use Rattle.packet.proofs.error_byte.parity.Goals as goal

pub returns : goal.returns
returns c = subst (λ l. c.fold.result ≡ parity l) c.iter.ensures.rest
    (fold_over fronts (λ y. y.now) _ (λ ys n. n ≡ parity ys) _ (λ ys a x b f' j k. let more = parity_more ys x.now in search rules)
    _ _ _ _ (slice_gives c.iter.result) refl c.fold.ensures.ran)

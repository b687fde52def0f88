-- Each bit of a fitted decoder's variables is as the last event that names it gave it.
use Rattle.std.proofs.Common.{◌≡◌, ℕ, List, reverse, Some, Result, sym, refl, ap, ◌∙◌}
use Rattle.state.specs.Bits.{bit_of}
use Rattle.decoder.specs.Alone.{Event, variable, mobile_rules, basic_rules, extended_rules}
use Rattle.decoder.specs.Fitted.{mobile_fitted, basic_fitted, extended_fitted}
use Rattle.decoder.specs.Persistence.{Ordinary, mobile_exceptions, accessory_exceptions}
use Rattle.decoder.proofs.Fittings.{length_blank, length-mobile}
use Rattle.decoder.proofs.Lawfuls.{mobile_lawful, basic_lawful, extended_lawful}
use Rattle.decoder.proofs.Persisted.{persists}
use Rattle.bank.specs.declared.kind.Kind.{Kind}
use Rattle.script.specs.declared.fit.Fit.{Fit}
use Rattle.script.specs.declared.fit.Fit.TheVariants.{Mobile, Basic, Extended}
use Rattle.script.specs.declared.call.Call.{Call}
use Rattle.fault.specs.declared.fault.Fault.{Fault}
use Rattle.script.specs.declared.answer.Answer.{Answer}
use Rattle.script.specs.Decoders.{lives, variables_of}
use Rattle.script.specs.Boards.{Lent}
use Rattle.script.specs.Fittings.{fit_kind, fitted}
use Rattle.script.specs.Promises.{Ran, Persistent, exceptions, last_given, events, alone_after}
use Rattle.script.proofs.Alones.{ends_alone}

lived : (f : Fit) (es : List Event) (v b : ℕ) → Ordinary (exceptions (fit_kind f)) v → bit_of (variable (variables_of (lives (fitted f) es)) v) b ≡ last_given (fitted f) v b (reverse es)
unfolding lives
lived (Mobile a) es v b o = persists mobile_rules mobile_exceptions mobile_lawful (mobile_fitted a) es v b (length-mobile a) refl o
lived (Basic a) es v b o = persists basic_rules accessory_exceptions basic_lawful (basic_fitted a) es v b length_blank refl o
lived (Extended a) es v b o = persists extended_rules accessory_exceptions extended_lawful (extended_fitted a) es v b length_blank refl o

pub is_persistent : {fits : List Fit} {calls : List Call} {l : Lent} {ks : List Kind} {l' : Lent} {numbers : List (Result ℕ Fault)} {answers : List (Result Answer Fault)} → Ran fits calls l ks l' numbers answers → Persistent fits calls l ks l'
is_persistent {calls = calls} r n f d v b e at o =
    let same : Some d ≡ Some (alone_after n f calls) = sym at ∙ ends_alone r n f e in
    let is : d ≡ alone_after n f calls = cc in
    ap (λ d. bit_of (variable (variables_of d) v) b) is ∙ lived f (events n (fitted f) calls) v b o

-- What the kinds of decoders have alike.
use Rattle.std.proofs.Common.{◌≡◌, ℕ, true, false, List, is_some, sym, refl, ap, ◌∙◌, subst, ap₂, ⊎_elim, true≢false}
use Rattle.std.proofs.lemmas.Bool.{cases_Bool}
use Rattle.format.specs.Reading.{packet_read}
use Rattle.memory.specs.Cells.{Outside}
use Rattle.decoder.specs.Alone.{Own, Rules, Event, hearing, life, mobile_rules, basic_rules, extended_rules}
use Rattle.bank.specs.declared.kind.Kind.{Kind}
use Rattle.bank.specs.declared.kind.Kind.TheVariants.{Mobile, Basic, Extended}
use Rattle.bank.specs.Kinds.{same_kind}
use Rattle.script.specs.Decoders.{kind_of, lives, hears, variables_of, RecordOf, decoder_as}
use Rattle.script.specs.Boards.{Lent, lent, bank_of}
use Rattle.script.proofs.Names.{same_is}

-- a fact of every kind: by each alone, or by one and by all that are apart from it
pub each : (P : Kind → Type 0) → P Mobile → P Basic → P Extended → (k : Kind) → P k
each P m b e Mobile = m
each P m b e Basic = b
each P m b e Extended = e

pub one_and_others : (P : Kind → Type 0) (k : Kind) → P k → ((i : Kind) → same_kind i k ≡ false → P i) → (i : Kind) → P i
one_and_others P k here there i = ⊎_elim (λ e. subst P (sym (same_is i k e)) here) (λ e. there i e) (cases_Bool (same_kind i k))

-- ---- a decoder by its kind

abbrev pub rules_of : (k : Kind) → Rules (RecordOf k)
rules_of Mobile = mobile_rules
rules_of Basic = basic_rules
rules_of Extended = extended_rules

pub kind_as : (k : Kind) (o : Own (RecordOf k)) → kind_of (decoder_as k o) ≡ k
kind_as Mobile o = refl
kind_as Basic o = refl
kind_as Extended o = refl

pub variables_as : (k : Kind) (o : Own (RecordOf k)) → variables_of (decoder_as k o) ≡ o.vars
variables_as Mobile o = refl
variables_as Basic o = refl
variables_as Extended o = refl

pub lives_as : (k : Kind) (o : Own (RecordOf k)) (es : List Event) → lives (decoder_as k o) es ≡ decoder_as k (life (rules_of k) o es)
unfolding lives
lives_as Mobile o es = refl
lives_as Basic o es = refl
lives_as Extended o es = refl

pub hears_as : (k : Kind) (o : Own (RecordOf k)) (bs : List ℕ) → hears (decoder_as k o) bs ≡ is_some (hearing (rules_of k) o (packet_read bs))
unfolding hears
hears_as Mobile o bs = refl
hears_as Basic o bs = refl
hears_as Extended o bs = refl

-- ---- the banks of the other kinds

abbrev pub SameBanksBut : Kind → Lent → Lent → Type 0
SameBanksBut k l l' = (i : Kind) → same_kind i k ≡ false → bank_of i l' ≡ bank_of i l

-- what is lent with another bank of the kind k, and another memory
abbrev pub with_bank : (k : Kind) → List (RecordOf k) → List ℕ → List Outside → Lent → Lent
with_bank Mobile xs cells outside l = lent xs l.basics l.extendeds cells outside
with_bank Basic xs cells outside l = lent l.mobiles xs l.extendeds cells outside
with_bank Extended xs cells outside l = lent l.mobiles l.basics xs cells outside

itself : {A : Type 0} → true ≡ false → A
itself e = absurd (true≢false e)

pub others_stay : (k : Kind) (xs : List (RecordOf k)) (cells : List ℕ) (outside : List Outside) (l : Lent) → SameBanksBut k l (with_bank k xs cells outside l)
others_stay Mobile xs cells outside l = each _ itself (λ _. refl) (λ _. refl)
others_stay Basic xs cells outside l = each _ (λ _. refl) itself (λ _. refl)
others_stay Extended xs cells outside l = each _ (λ _. refl) (λ _. refl) itself

-- what is the same by its parts
pub same_lent : (l l' : Lent) → ((k : Kind) → bank_of k l' ≡ bank_of k l) → l'.cells ≡ l.cells → l'.outside ≡ l.outside → l' ≡ l
same_lent l l' banks cells outside =
    ap (λ ms. lent ms l'.basics l'.extendeds l'.cells l'.outside) (banks Mobile)
    ∙ ap₂ (λ bs es. lent l.mobiles bs es l'.cells l'.outside) (banks Basic) (banks Extended)
    ∙ ap₂ (λ cells outside. lent l.mobiles l.basics l.extendeds cells outside) cells outside

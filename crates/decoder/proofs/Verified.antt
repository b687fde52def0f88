-- What writes come to. Assumes nothing.
use Rattle.std.proofs.Common.{◌≡◌, ℕ, ◌+◌, ◌-◌, ◌%◌, ◌≤◌, Bool, true, false, cond, not, ◌&&◌, eqb, ◌≢◌, List, length, Some, None, Option, refl, ap, ◌∙◌, arith, get_or-set_same, get_or-set_other}
use Rattle.std.proofs.lemmas.Bool.{true≢false, false≢true}
use Rattle.std.proofs.lemmas.Bool.Decides.{nat_tests}
use Rattle.packet.specs.declared.cv.CvNumber.{CvNumber}
use Rattle.packet.specs.declared.instruction.Instruction.{Instruction}
use Rattle.packet.specs.declared.instruction.Instruction.TheVariants.{WriteByte, WriteBit}
use Rattle.state.specs.declared.waiting.WaitingWrite.{WaitingWrite}
use Rattle.state.specs.Bits.{bit_of, with_bit}
use Rattle.state.specs.Packing.{matches}
use Rattle.state.proofs.Bitwise.{bit_put}
use Rattle.decoder.specs.declared.records.Mobile.{Mobile}
use Rattle.decoder.specs.declared.role.Role.{Role}
use Rattle.decoder.specs.declared.role.Role.TheVariants as role
use Rattle.decoder.specs.declared.effect.Effect.TheVariants as effect
use Rattle.decoder.specs.Accesses.{barred, is_write, waits_after}
use Rattle.decoder.specs.Alone.{Own, variable, applied, mobile_rules, basic_rules, extended_rules}
use Rattle.decoder.specs.LongForms.{Writable, Repeats, WritesTake}

-- a variable that is put, and the others
module _ (vars : List ℕ) (cv : CvNumber) (x : ℕ) where
  put : (acts : Bool) → acts ≡ true → length vars ≡ 1024 → variable (applied (cond acts (Some (effect.Put cv x)) None) vars) cv.number ≡ x
  put true e l = get_or-set_same vars (cv.number - 1) x 0 (omega (arith, l, cv.least, cv.most))
  put false e l = absurd (false≢true e)

  beside : (acts : Bool) (n : ℕ) → 1 ≤ n → n ≢ cv.number → variable (applied (cond acts (Some (effect.Put cv x)) None) vars) n ≡ variable vars n
  beside true n h ne = get_or-set_other vars (cv.number - 1) (n - 1) x 0 (omega (arith, cv.least))
  beside false n h ne = refl

-- a repetition acts, unless it is barred
pub acting : (same bar : Bool) → same ≡ true → bar ≡ false → (same && not bar) ≡ true
acting true false e f = refl
acting true true e f = absurd (true≢false f)
acting false bar e f = absurd (false≢true e)

pub not_barred : (offset n : ℕ) → n ≢ offset + 7 → n ≢ offset + 8 → barred offset n ≡ false
not_barred offset n no7 no8 = grind (arith, nat_tests)

-- a write waits, and its repetition ends the wait
first_waits : (same : Bool) (p : WaitingWrite) → same ≡ false → cond (not same) (Some p) None ≡ Some p
first_waits same p e = ap (λ s. cond (not s) (Some p) None) e

second_ends : (writes same : Bool) (p : WaitingWrite) → same ≡ true → cond (writes && not same) (Some p) None ≡ None
second_ends true same p e = ap (λ s. cond (not s) (Some p) None) e
second_ends false same p e = refl

waits_first : (w : Option WaitingWrite) (r : Role) (p : WaitingWrite) (i : Instruction) → is_write i ≡ true → r ≢ role.Consist → matches w p ≡ false → waits_after w r p i ≡ Some p
waits_first w role.Everyone p i e ne f = go (is_write i) e
  where
    go : (c : Bool) → c ≡ true → cond (c && not (matches w p)) (Some p) None ≡ Some p
    go true e = first_waits (matches w p) p f
    go false e = absurd (false≢true e)
waits_first w role.Own p i e ne f = go (is_write i) e
  where
    go : (c : Bool) → c ≡ true → cond (c && not (matches w p)) (Some p) None ≡ Some p
    go true e = first_waits (matches w p) p f
    go false e = absurd (false≢true e)
waits_first w role.Consist p i e ne f = absurd (ne refl)

-- a bit that is put
bit_after : (v b k y : ℕ) (on : Bool) → y ≡ with_bit v (b % 8) on → bit_of y k ≡ cond (eqb (b % 8) k) on (bit_of v k)
bit_after v b k y on e = ap (λ z. bit_of z k) e ∙ bit_put v (b % 8) k on

pub mobile_writes : WritesTake mobile_rules
mobile_writes = record {
  first = λ o r bs i e ne f. waits_first _ r _ i e ne f;
  over = λ o r bs i f. second_ends _ _ _ f;
  byte = byte;
  bit = bit;
  others_byte = others_byte;
  others_bit = others_bit;
}
  where
    byte : (o : Own Mobile) (r : Role) (bs : List ℕ) (cv : CvNumber) (value : ℕ) → Repeats mobile_rules o r bs → Writable mobile_rules cv → variable (mobile_rules.obeys o r bs (WriteByte cv value)).vars cv.number ≡ value
    byte o role.Everyone bs cv value h w = put o.vars cv value _ (acting _ _ h.waits (not_barred 0 cv.number w.0 w.1)) h.whole
    byte o role.Own bs cv value h w = put o.vars cv value _ (acting _ _ h.waits (not_barred 0 cv.number w.0 w.1)) h.whole
    byte o role.Consist bs cv value h w = absurd (h.counts refl)

    bit : (o : Own Mobile) (r : Role) (bs : List ℕ) (cv : CvNumber) (b k : ℕ) (on : Bool) → Repeats mobile_rules o r bs → Writable mobile_rules cv → bit_of (variable (mobile_rules.obeys o r bs (WriteBit cv b on)).vars cv.number) k ≡ cond (eqb (b % 8) k) on (bit_of (variable o.vars cv.number) k)
    bit o role.Everyone bs cv b k on h w = bit_after _ b k _ on (put o.vars cv _ _ (acting _ _ h.waits (not_barred 0 cv.number w.0 w.1)) h.whole)
    bit o role.Own bs cv b k on h w = bit_after _ b k _ on (put o.vars cv _ _ (acting _ _ h.waits (not_barred 0 cv.number w.0 w.1)) h.whole)
    bit o role.Consist bs cv b k on h w = absurd (h.counts refl)

    others_byte : (o : Own Mobile) (r : Role) (bs : List ℕ) (cv : CvNumber) (value n : ℕ) → 1 ≤ n → n ≢ cv.number → variable (mobile_rules.obeys o r bs (WriteByte cv value)).vars n ≡ variable o.vars n
    others_byte o role.Everyone bs cv value n h ne = beside o.vars cv value _ n h ne
    others_byte o role.Own bs cv value n h ne = beside o.vars cv value _ n h ne
    others_byte o role.Consist bs cv value n h ne = refl

    others_bit : (o : Own Mobile) (r : Role) (bs : List ℕ) (cv : CvNumber) (b : ℕ) (on : Bool) (n : ℕ) → 1 ≤ n → n ≢ cv.number → variable (mobile_rules.obeys o r bs (WriteBit cv b on)).vars n ≡ variable o.vars n
    others_bit o role.Everyone bs cv b on n h ne = beside o.vars cv _ _ n h ne
    others_bit o role.Own bs cv b on n h ne = beside o.vars cv _ _ n h ne
    others_bit o role.Consist bs cv b on n h ne = refl

pub basic_writes : WritesTake basic_rules
basic_writes = record {
  first = λ o r bs i e ne f. waits_first _ r _ i e ne f;
  over = λ o r bs i f. second_ends _ _ _ f;
  byte = λ o r bs cv value h w. put o.vars cv value _ (acting _ _ h.waits (not_barred 512 cv.number w.0 w.1)) h.whole;
  bit = λ o r bs cv b k on h w. bit_after _ b k _ on (put o.vars cv _ _ (acting _ _ h.waits (not_barred 512 cv.number w.0 w.1)) h.whole);
  others_byte = λ o r bs cv value n h ne. beside o.vars cv value _ n h ne;
  others_bit = λ o r bs cv b on n h ne. beside o.vars cv _ _ n h ne;
}

pub extended_writes : WritesTake extended_rules
extended_writes = record {
  first = λ o r bs i e ne f. waits_first _ r _ i e ne f;
  over = λ o r bs i f. second_ends _ _ _ f;
  byte = λ o r bs cv value h w. put o.vars cv value _ (acting _ _ h.waits (not_barred 512 cv.number w.0 w.1)) h.whole;
  bit = λ o r bs cv b k on h w. bit_after _ b k _ on (put o.vars cv _ _ (acting _ _ h.waits (not_barred 512 cv.number w.0 w.1)) h.whole);
  others_byte = λ o r bs cv value n h ne. beside o.vars cv value _ n h ne;
  others_bit = λ o r bs cv b on n h ne. beside o.vars cv _ _ n h ne;
}

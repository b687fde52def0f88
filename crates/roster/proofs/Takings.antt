-- A block in the middle: the records before the offset o have acted.
use Rattle.std.proofs.Common.{◌≡◌, ℕ, ◌+◌, ◌≤◌, Bool, true, false, List, map, length, Some, None, Ok, Err, Result, sym, refl, ap, ◌∙◌, arith}
use Rattle.std.proofs.lemmas.Bool.{cond-true}
use Rattle.fault.specs.declared.fault.Fault.{Fault}
use Rattle.fault.specs.declared.refusal.Refusal.{Refusal}
use Rattle.block.specs.declared.records.Carried.{Carried}
use Rattle.block.specs.Contents.{Thing, Placed, is_block_length, record_at, ends_at, thing_in, placed_in, found}
use Rattle.block.specs.Contents.Thing.{fill, power_up, packet}
use Rattle.block.specs.Reading.{reading, reading_from, carried, fault_of}
use Rattle.block.proofs.Shapes.{Found, told_as, later, ends_inside}
use Rattle.block.proofs.Steps.{passing, reads_as, reads_end}
use Rattle.memory.specs.declared.memory.Memory.{Ghosts}
use Rattle.bank.specs.declared.kind.Kind.{Kind}
use Rattle.script.specs.declared.taken.Taken.{Taken}
use Rattle.script.specs.Decoders.{Decoder}
use Rattle.script.specs.Boards.{Lent, decoders, Rest}
use Rattle.script.specs.Calls.{met, sent, noted, nothing_taken, counted, counts, after_records, with_fault, taking, given}
use Rattle.roster.specs.declared.banks.BanksMut.{BanksMut}
use Rattle.roster.specs.Held.{SameLenders}
use Rattle.roster.proofs.Decks.{rest_then}
use Rattle.roster.proofs.Sendings.{fill_met}

abbrev pub packets_in : Taken → ℕ
packets_in t = t.heard + t.unheard + t.refused

-- ---- one packet more

noted_few : (t : Taken) (o : ℕ) (r : Result Bool Refusal) → packets_in (noted t o r) ≤ packets_in t + 1
noted_few t o (Ok true) = omega arith
noted_few t o (Ok false) = omega arith
noted_few t o (Err e) = omega arith

counted_few : (t : Taken) (ds : List Decoder) (o : ℕ) (th : Thing) → packets_in (counted t ds o th) ≤ packets_in t + 1
counted_few t ds o fill = omega arith
counted_few t ds o power_up = omega arith
counted_few t ds o (packet p) = noted_few t o (sent ds p)

noted_fault : (t : Taken) (o : ℕ) (r : Result Bool Refusal) → (noted t o r).fault ≡ t.fault
noted_fault t o (Ok true) = refl
noted_fault t o (Ok false) = refl
noted_fault t o (Err e) = refl

counted_fault : (t : Taken) (ds : List Decoder) (o : ℕ) (th : Thing) → (counted t ds o th).fault ≡ t.fault
counted_fault t ds o fill = refl
counted_fault t ds o power_up = refl
counted_fault t ds o (packet p) = noted_fault t o (sent ds p)

-- ---- the lenders

module _ {M : Type 0} {m : Ghosts M} {b b' b'' : BanksMut} {x x' x'' : M} where
  pub lenders_then : SameLenders m b x b' x' → SameLenders m b' x' b'' x'' → SameLenders m b x b'' x''
  lenders_then h k = record {
    mobiles = k.mobiles ∙ h.mobiles;
    basics = k.basics ∙ h.basics;
    extendeds = k.extendeds ∙ h.extendeds;
    memory = k.memory ∙ h.memory;
  }

-- ---- one record more

module _ (b : List ℕ) (o : ℕ) (t : Taken) (ds : List Decoder) where
  on_counts : (th : Thing) (next : ℕ) → next ≡ ends_at b o th → counts t ds (carried (passing b o th next)) ≡ counts (counted t ds o th) (map (met th) ds) (carried (reading_from b next))
  on_counts fill next e = sym (ap (λ r. counts t (map (met fill) ds) (carried r)) (reads_end b next (omega arith)))
  on_counts power_up next e = refl
  on_counts (packet p) next e = refl

  on_after : (th : Thing) (next : ℕ) → next ≡ ends_at b o th → after_records ds (carried (passing b o th next)) ≡ after_records (map (met th) ds) (carried (reading_from b next))
  on_after fill next e = sym (ap (λ r. after_records (map (met fill) ds) (carried r)) (reads_end b next (omega arith)) ∙ fill_met ds)
  on_after power_up next e = refl
  on_after (packet p) next e = refl

  on_fault : (th : Thing) (next : ℕ) → next ≡ ends_at b o th → fault_of (passing b o th next) ≡ fault_of (reading_from b next)
  on_fault fill next e = sym (ap fault_of (reads_end b next (omega arith)))
  on_fault power_up next e = refl
  on_fault (packet p) next e = refl

-- what is left gives the counts, the decoders and the fault of the whole block
pub record Midway (ks : List Kind) (l l' : Lent) (b : List ℕ) (o : ℕ) (t : Taken) : Type 0 where
  pub counts_are : counts t (decoders ks l') (carried (reading_from b o)) ≡ counts nothing_taken (decoders ks l) (carried (reading b))
  pub after_is : after_records (decoders ks l') (carried (reading_from b o)) ≡ after_records (decoders ks l) (carried (reading b))
  pub fault_is : fault_of (reading_from b o) ≡ fault_of (reading b)
  pub no_fault : t.fault ≡ None
  pub rest : Rest ks l l'
  pub few : packets_in t ≤ o
  pub inside : o ≤ length b

-- and at its end they are those
pub record Ended (ks : List Kind) (l l' : Lent) (b : List ℕ) (t : Taken) : Type 0 where
  pub answer : Ok t ≡ taking (decoders ks l) b
  pub after : decoders ks l' ≡ after_records (decoders ks l) (given b)

module _ {ks : List Kind} {l l' : Lent} {b : List ℕ} {o : ℕ} {t : Taken} (m : Midway ks l l' b o t) where
  module _ (c : Carried) (e : found (Ok (Some c)) ≡ record_at b o) where
    is_found : Found b o (placed_in c)
    is_found = told_as b o (found (Ok (Some c))) e

    pub midway_more : {l'' : Lent} {t' : Taken} → t' ≡ counted t (decoders ks l') c.offset (thing_in c.«record») → decoders ks l'' ≡ map (met (thing_in c.«record»)) (decoders ks l') → Rest ks l' l'' → Midway ks l l'' b c.next t'
    midway_more {l''} {t'} q a r =
        let th = thing_in c.«record» in
        let ds = decoders ks l' in
        let on : reading_from b o ≡ passing b o th c.next = reads_as b o (found (Ok (Some c))) e in
        let at : c.offset ≡ o = ap (λ (p : Placed). p.from) is_found.is in
        let next : c.next ≡ ends_at b o th = ap (λ (p : Placed). p.up_to) is_found.is in
        let t-is : t' ≡ counted t ds o th = q ∙ ap (λ o. counted t ds o th) at in
        record {
          counts_are =
              ap (λ ds. counts t' ds (carried (reading_from b c.next))) a ∙ ap (λ t. counts t (map (met th) ds) (carried (reading_from b c.next))) t-is
              ∙ sym (ap (λ r. counts t ds (carried r)) on ∙ on_counts b o t ds th c.next next) ∙ m.counts_are;
          after_is =
              ap (λ ds. after_records ds (carried (reading_from b c.next))) a ∙ sym (ap (λ r. after_records ds (carried r)) on ∙ on_after b o t ds th c.next next) ∙ m.after_is;
          fault_is = sym (ap fault_of on ∙ on_fault b o t ds th c.next next) ∙ m.fault_is;
          no_fault = ap (λ (t : Taken). t.fault) t-is ∙ counted_fault t ds o th ∙ m.no_fault;
          rest = rest_then m.rest r;
          few = omega (arith, ap packets_in t-is, counted_few t ds o th, later b o (placed_in c) is_found, m.few);
          inside = ends_inside b o (placed_in c) is_found;
        }

  -- the walk ends by a fault, or without one
  module _ (long : is_block_length (length b) ≡ true) where
    pub midway_fault : (f : Fault) → found (Err f) ≡ record_at b o → Ended ks l l' b (with_fault t (Some f))
    midway_fault f e =
        let on = reads_as b o (Err f) e in record {
          answer =
              ap Ok (ap (λ r. with_fault (counts t (decoders ks l') (carried r)) (fault_of r)) (sym on)
              ∙ ap (λ s. with_fault s (fault_of (reading_from b o))) m.counts_are ∙ ap (with_fault (counts nothing_taken (decoders ks l) (carried (reading b)))) m.fault_is)
              ∙ sym (cond-true _ _ _ long);
          after = ap (λ r. after_records (decoders ks l') (carried r)) (sym on) ∙ m.after_is ∙ ap (after_records (decoders ks l)) (sym (cond-true _ _ _ long));
        }

    pub midway_all : found (Ok None) ≡ record_at b o → Ended ks l l' b t
    midway_all e =
        let on = reads_as b o (Ok None) e in record {
          answer =
              ap Ok (ap (λ f. with_fault t f) m.no_fault
              ∙ ap (λ r. with_fault (counts t (decoders ks l') (carried r)) (fault_of r)) (sym on)
              ∙ ap (λ s. with_fault s (fault_of (reading_from b o))) m.counts_are ∙ ap (with_fault (counts nothing_taken (decoders ks l) (carried (reading b)))) m.fault_is)
              ∙ sym (cond-true _ _ _ long);
          after = ap (λ r. after_records (decoders ks l') (carried r)) (sym on) ∙ m.after_is ∙ ap (after_records (decoders ks l)) (sym (cond-true _ _ _ long));
        }

-- The rules of the three kinds are lawful. Assumes nothing.
use Rattle.std.proofs.Common.{◌≡◌, ℕ, ◌+◌, ◌-◌, ◌%◌, Bool, true, false, cond, not, ◌&&◌, ◌||◌, eqb, ltb, ◌≢◌, List, length, set, Some, None, Option, is_some, sym, refl, ap, ◌∙◌, ⊎_elim, arith, length-set}
use Rattle.std.proofs.lemmas.Bool.{true≢false, cases_eq, cond-true, cond-false, eq-eqb, ne_eqb}
use Rattle.std.proofs.lemmas.Bool.Decides.{nat_tests}
use Rattle.packet.specs.declared.instruction.Instruction.{Instruction}
use Rattle.packet.specs.declared.instruction.Instruction.TheVariants.{NoOperation, HardReset, AdvancedAddressing, Consist, Speed, Speed126, BinaryStateLong, AccelerationAdjustment, DecelerationAdjustment, VerifyByte, WriteByte, VerifyBit, WriteBit}
use Rattle.state.specs.declared.waiting.WaitingWrite.{WaitingWrite}
use Rattle.state.specs.Bits.{bit_of}
use Rattle.state.specs.Packing.{packed, matches}
use Rattle.state.proofs.Bitwise.{bit_put}
use Rattle.decoder.specs.declared.effect.Access.{Access}
use Rattle.decoder.specs.declared.effect.Change.{Change}
use Rattle.decoder.specs.declared.effect.Change.TheVariants.{Byte, Bit}
use Rattle.decoder.specs.declared.effect.Effect.{Effect}
use Rattle.decoder.specs.declared.effect.Effect.TheVariants as effect
use Rattle.decoder.specs.declared.role.Role.{Role}
use Rattle.decoder.specs.declared.role.Role.TheVariants as role
use Rattle.decoder.specs.Accesses.{access, access_of, agrees, result, barred, writes_by, is_write, writes_in, access_acts, accessed}
use Rattle.packet.specs.declared.target.Target.{Target}
use Rattle.decoder.specs.declared.records.Mobile.{Mobile}
use Rattle.decoder.specs.declared.records.Accessory.{Accessory}
use Rattle.decoder.specs.Mobiles.{access_effect, speed_acts, fully_acts, is_speed, mobile_effect}
use Rattle.decoder.specs.Accessories.{AccessoryKind, basic_kind, extended_kind}
use Rattle.decoder.specs.Alone.{Own, variable, named, mobile_view, applied, mobile_rules, accessory_rules, basic_rules, extended_rules}
use Rattle.decoder.specs.Persistence.{Ordinary, names, changes, or_else, mobile_exceptions, accessory_exceptions}
use Rattle.decoder.proofs.Sounds.{Apart, Sound, basic_sound, extended_sound}
use Rattle.decoder.proofs.Persisted.{Lawful, bit, put_same, put_other}

applied-length : (e : Option Effect) (vars : List ℕ) → length (applied e vars) ≡ length vars
applied-length None vars = refl
applied-length (Some (effect.Put cv x)) vars = length-set vars (cv.number - 1) x
applied-length (Some effect.HardReset) vars = simp length-set

module _ {exceptions : List ℕ} (n b : ℕ) (free : Ordinary exceptions n) where
  -- the bit that a change names becomes as it says
  changed_bit : (c : Change) (v : ℕ) → bit_of (result c v) b ≡ or_else (changes b c) (bit_of v b)
  changed_bit (Byte x) v = refl
  changed_bit (Bit k on) v = let e = bit_put v (k % 8) b on in grind (arith, nat_tests)

  -- a byte is put into the variable that a write names
  put_names : (vars : List ℕ) (a : Access) → length vars ≡ 1024 → bit n b (set vars (a.cv.number - 1) (result a.change (variable vars a.cv.number))) ≡ or_else (names n b (Some a)) (bit n b vars)
  put_names vars a l = ⊎_elim same other (cases_eq a.cv.number n)
    where
      x : ℕ
      x = result a.change (variable vars a.cv.number)

      same : a.cv.number ≡ n → bit n b (set vars (a.cv.number - 1) x) ≡ or_else (names n b (Some a)) (bit n b vars)
      same e =
          put_same n b free vars a.cv.number x l e ∙ changed_bit a.change (variable vars a.cv.number)
          ∙ ap (λ k. or_else (changes b a.change) (bit_of (variable vars k) b)) e
          ∙ sym (ap (λ z. or_else z (bit n b vars)) (cond-true (eqb a.cv.number n) _ _ (eq-eqb a.cv.number n e)))

      other : (a.cv.number ≡ n → ⊥) → bit n b (set vars (a.cv.number - 1) x) ≡ or_else (names n b (Some a)) (bit n b vars)
      other e =
          put_other n b free vars a.cv.number x a.cv.least (λ f. e (sym f))
          ∙ sym (ap (λ z. or_else z (bit n b vars)) (cond-false (eqb a.cv.number n) _ _ (ne_eqb a.cv.number n e)))

  -- a barred variable is none of those that are left
  barred-names : (offset : ℕ) (a : Access) → n ≢ offset + 7 → n ≢ offset + 8 → barred offset a.cv.number ≡ true → names n b (Some a) ≡ None
  barred-names offset a no7 no8 e = cond-false (eqb a.cv.number n) _ _ (ne_eqb a.cv.number n (λ f. grind (arith, nat_tests)))

  -- a long form acts at its repetition, unless its variable is barred
  access_names :
      (offset : ℕ) (vars : List ℕ) (w : Option WaitingWrite) (p : WaitingWrite) (a : Access)
      → n ≢ offset + 7 → n ≢ offset + 8
      → length vars ≡ 1024
      → bit n b (applied (cond (access_acts w p (accessed (Some a) (named offset vars (Some a)))) (access_effect (accessed (Some a) (named offset vars (Some a)))) None) vars)
      ≡ or_else (cond (a.writes && matches w p) (names n b (Some a)) None) (bit n b vars)
  access_names offset vars w p a no7 no8 l =
      go a.writes (matches w p) (barred offset a.cv.number) (agrees a.change (variable vars a.cv.number)) (barred-names offset a no7 no8)
    where
      go : (W M B G : Bool) → (B ≡ true → names n b (Some a) ≡ None) → bit n b (applied (cond (cond W (M && not B) G) (cond W (Some (effect.Put a.cv (result a.change (variable vars a.cv.number)))) None) None) vars) ≡ or_else (cond (W && M) (names n b (Some a)) None) (bit n b vars)
      go false M B true f = refl
      go false M B false f = refl
      go true false B G f = refl
      go true true true G f = sym (ap (λ z. or_else z (bit n b vars)) (f refl))
      go true true false G f = put_names vars a l

-- both ways nothing
pub same_cond : (c : Bool) (vars : List ℕ) → applied (cond c None None) vars ≡ vars
same_cond true vars = refl
same_cond false vars = refl

module _ (o : Own Mobile) (bs : List ℕ) (n b : ℕ) (l : length o.vars ≡ 1024) (free : Ordinary mobile_exceptions n) where
  abbrev W : Option WaitingWrite
  W = o.rec.state.waiting

  abbrev p : WaitingWrite
  p = packed bs

  no7 : n ≢ 0 + 7
  no7 = free.not_excepted.0

  no8 : n ≢ 0 + 8
  no8 = free.not_excepted.1.0

  -- by the own address or to all
  full :
      (r : Role) (i : Instruction)
      → bit n b (applied (cond (fully_acts o.rec.state (mobile_view o.vars (access_of i)) r p i) (mobile_effect (mobile_view o.vars (access_of i)) i) None) o.vars)
      ≡ or_else (cond (is_write i && matches W p) (names n b (access_of i)) None) (bit n b o.vars)
  full r HardReset = put_other n b free _ 32 0 (omega arith) free.not_excepted.1.1.1.1.1.1.1.0 ∙ put_other n b free _ 31 16 (omega arith) free.not_excepted.1.1.1.1.1.1.0 ∙ put_other n b free _ 29 2 (omega arith) free.not_excepted.1.1.1.1.1.0 ∙ put_other n b free o.vars 19 0 (omega arith) free.not_excepted.1.1.0
  full r (AdvancedAddressing on) = put_other n b free o.vars 29 _ (omega arith) free.not_excepted.1.1.1.1.1.0
  full r (Consist reversed address) = put_other n b free o.vars 19 _ (omega arith) free.not_excepted.1.1.0
  full r (Speed forward code) = ap (bit n b) (same_cond (speed_acts (mobile_view o.vars None) r) o.vars)
  full r (Speed126 forward code) = ap (bit n b) (same_cond (speed_acts (mobile_view o.vars None) r) o.vars)
  full r (BinaryStateLong on number) = ap (bit n b) (same_cond (not (ltb 2047 number)) o.vars)
  full r (AccelerationAdjustment value) = put_other n b free o.vars 23 _ (omega arith) free.not_excepted.1.1.1.0
  full r (DecelerationAdjustment value) = put_other n b free o.vars 24 _ (omega arith) free.not_excepted.1.1.1.1.0
  full r (VerifyByte cv value) = access_names n b free 0 o.vars W p (access cv false (Byte value)) no7 no8 l
  full r (WriteByte cv value) = access_names n b free 0 o.vars W p (access cv true (Byte value)) no7 no8 l
  full r (VerifyBit cv bit value) = access_names n b free 0 o.vars W p (access cv false (Bit bit value)) no7 no8 l
  full r (WriteBit cv bit value) = access_names n b free 0 o.vars W p (access cv true (Bit bit value)) no7 no8 l
  full r i = refl

  -- by the consist address no variable changes
  consist_keeps : (i : Instruction) → applied (cond (is_speed i) (mobile_effect (mobile_view o.vars (access_of i)) i) None) o.vars ≡ o.vars
  consist_keeps NoOperation = refl
  consist_keeps i = refl

  mobile_writes :
      (r : Role) (i : Instruction)
      → bit n b (mobile_rules.obeys o r bs i).vars
      ≡ or_else (cond (writes_in r i && matches W p) (names n b (access_of i)) None) (bit n b o.vars)
  mobile_writes role.Everyone i = full role.Everyone i
  mobile_writes role.Own i = full role.Own i
  mobile_writes role.Consist i = ap (bit n b) (consist_keeps i)

pub mobile_lawful : Lawful mobile_rules mobile_exceptions
mobile_lawful = record {
  size = λ o r bs i. applied-length _ o.vars;
  waits = λ o r bs i. refl;
  starts = λ x. refl;
  unwaits = λ x. refl;
  writes = λ o t r bs i n b h l free. mobile_writes o bs n b l free r i;
}

-- an accessory decoder, by what it shows after an instruction, and by the long form that this is
module _ (vars : List ℕ) (n b : ℕ) (l : length vars ≡ 1024) (free : Ordinary accessory_exceptions n) where
  accessory_any :
      {Y : Type 0} (own : Option Y) (a : Option Access) (w : Option WaitingWrite) (p : WaitingWrite)
      → Apart own a
      → bit n b (applied (cond (is_some own || access_acts w p (accessed a (named 512 vars a))) (access_effect (accessed a (named 512 vars a))) None) vars)
      ≡ or_else (cond (writes_by a && matches w p) (names n b a) None) (bit n b vars)
  accessory_any own None w p h = ap (bit n b) (same_cond (is_some own || false) vars)
  accessory_any None (Some a) w p h = access_names n b free 512 vars w p a free.not_excepted.0 free.not_excepted.1.0 l
  accessory_any (Some y) (Some a) w p h = absurd (true≢false h)

module _ {S : Type 0} (k : AccessoryKind S) (sound : Sound k) where
  accessory_writes :
      (o : Own (Accessory S)) (t : Target) (r : Role) (bs : List ℕ) (i : Instruction) (n b : ℕ)
      → k.role o.rec.address t ≡ Some r
      → length o.vars ≡ 1024
      → Ordinary accessory_exceptions n
      → bit n b ((accessory_rules k).obeys o r bs i).vars
      ≡ or_else (cond (writes_in r i && matches o.rec.state.waiting (packed bs)) (names n b (access_of i)) None) (bit n b o.vars)
  accessory_writes o t role.Everyone bs i n b h l free = accessory_any o.vars n b l free (k.after o.rec.state.shown i) (access_of i) o.rec.state.waiting (packed bs) (sound.apart _ i)
  accessory_writes o t role.Own bs i n b h l free = accessory_any o.vars n b l free (k.after o.rec.state.shown i) (access_of i) o.rec.state.waiting (packed bs) (sound.apart _ i)
  accessory_writes o t role.Consist bs i n b h l free = absurd (sound.alone o.rec.address t h)

  accessory_lawful : Lawful (accessory_rules k) accessory_exceptions
  accessory_lawful = record {
    size = λ o r bs i. applied-length _ o.vars;
    waits = λ o r bs i. refl;
    starts = λ x. sound.fresh;
    unwaits = λ x. refl;
    writes = accessory_writes;
  }

pub basic_lawful : Lawful basic_rules accessory_exceptions
basic_lawful = accessory_lawful basic_kind basic_sound

pub extended_lawful : Lawful extended_rules accessory_exceptions
extended_lawful = accessory_lawful extended_kind extended_sound

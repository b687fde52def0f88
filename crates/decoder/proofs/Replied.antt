-- What acts, and what is answered. Assumes nothing.
use Rattle.std.proofs.Common.{◌≡◌, ℕ, ◌+◌, ◌%◌, ◌≤◌, ◌<◌, ◌⊎◌, ◌≢◌, inl, inr, ⊎_elim, arith}
use Rattle.std.proofs.Common.{Bool, true, false, cond, not, ◌&&◌, eqb, ltb, is_some}
use Rattle.std.proofs.Common.{List, Some, None, Option, refl, sym, ap, ◌∙◌}
use Rattle.std.proofs.lemmas.Bool.{true≢false, false≢true, eq-eqb, ne_eqb, cases_lt}
use Rattle.std.proofs.lemmas.Bool.Decides.{nat_tests}
use Rattle.packet.specs.declared.cv.CvNumber.{CvNumber}
use Rattle.packet.specs.declared.instruction.Instruction.{Instruction}
use Rattle.packet.specs.declared.instruction.Instruction.TheVariants as instruction
use Rattle.state.specs.declared.volatile.Reply.{Reply}
use Rattle.state.specs.declared.volatile.Reply.TheVariants as reply
use Rattle.state.specs.Bits.{bit_of}
use Rattle.state.specs.Packing.{packed, matches}
use Rattle.decoder.specs.declared.effect.Access.{Access}
use Rattle.decoder.specs.declared.records.Mobile.{Mobile}
use Rattle.decoder.specs.declared.records.Accessory.{Accessory}
use Rattle.decoder.specs.declared.role.Address.{Address}
use Rattle.decoder.specs.declared.role.Address.TheVariants as address
use Rattle.decoder.specs.declared.role.Role.{Role}
use Rattle.decoder.specs.declared.role.Role.TheVariants as role
use Rattle.decoder.specs.Accesses.{access_of, access_acts, accessed, barred, same_truth, writes_by, mobile_offset, accessory_offset}
use Rattle.decoder.specs.Accessories.{AccessoryKind, basic_kind, extended_kind, accessory_acts}
use Rattle.decoder.specs.Fresh.{Basic, Extended}
use Rattle.decoder.specs.Hearing.{is_short, in_consist}
use Rattle.decoder.specs.Mobiles.{mobile_acts}
use Rattle.decoder.specs.Replies.{answer_of}
use Rattle.decoder.specs.Alone.{Own, Rules, variable, named, as_heard, mobile_view, accessory_view}
use Rattle.decoder.specs.Alone.{mobile_rules, basic_rules, extended_rules}
use Rattle.decoder.specs.Going.{GoesAlone}
use Rattle.decoder.specs.Replying.{LongFormActs, WriteActs, MobileActs, BasicActs, ExtendedActs}
use Rattle.decoder.specs.Replying.{reply_due, RepliesNeedAll}
use Rattle.decoder.proofs.Gone.{not_in_consist}
use Rattle.decoder.proofs.Verified.{acting, not_barred}

-- a bit agrees where it is as it is said to be
same_bit : (x y : Bool) → x ≡ y → same_truth x y ≡ true
same_bit true true e = refl
same_bit false false e = refl
same_bit true false e = absurd (true≢false e)
same_bit false true e = absurd (false≢true e)

other_bit : (x y : Bool) → x ≢ y → same_truth x y ≡ false
other_bit true true e = absurd (e refl)
other_bit false false e = absurd (e refl)
other_bit true false e = refl
other_bit false true e = refl

free : (offset n : ℕ) → barred offset n ≡ false → (n ≢ offset + 7) × (n ≢ offset + 8)
free offset n e = (λ f. grind (arith, nat_tests), λ f. grind (arith, nat_tests))

abbrev number_at : Option Access → ℕ
number_at None = 0
number_at (Some a) = a.cv.number

read_only : {n k x y : ℕ} → n ≡ k → (n ≢ x) × (n ≢ y) → (k ≡ x) ⊎ (k ≡ y) → ⊥
read_only e h = ⊎_elim (λ f. h.0 (e ∙ f)) (λ f. h.1 (e ∙ f))

-- a long form, by whether it acts
module _ {X : Type 0} (m : Rules X) (o : Own X) (bs : List ℕ) where
  write_stays :
      (cv : CvNumber)
      → ¬ WriteActs m o bs cv
      → (matches (m.waiting o.rec) (packed bs) && not (barred m.offset cv.number)) ≡ false
  write_stays cv h =
      go (matches (m.waiting o.rec) (packed bs)) (barred m.offset cv.number) refl refl
    where
      go :
          (same bar : Bool)
          → matches (m.waiting o.rec) (packed bs) ≡ same
          → barred m.offset cv.number ≡ bar
          → (same && not bar) ≡ false
      go true false e f = absurd (h (e, free m.offset cv.number f))
      go true true e f = refl
      go false bar e f = refl

  abbrev acts : Option Access → Bool
  acts a =
      access_acts (m.waiting o.rec) (packed bs) (accessed a (named m.offset o.vars a))

  written :
      (cv : CvNumber)
      → WriteActs m o bs cv
      → (matches (m.waiting o.rec) (packed bs) && not (barred m.offset cv.number)) ≡ true
  written cv h = acting _ _ h.0 (not_barred m.offset cv.number h.1.0 h.1.1)

  acts_then : (i : Instruction) → LongFormActs m o bs i → acts (access_of i) ≡ true
  acts_then (instruction.VerifyByte cv x) h = eq-eqb x (variable o.vars cv.number) (sym h)
  acts_then (instruction.VerifyBit cv b y) h = same_bit _ y h
  acts_then (instruction.WriteByte cv x) h = written cv h
  acts_then (instruction.WriteBit cv b y) h = written cv h
  acts_then i h = absurd h

  acts_not : (i : Instruction) → ¬ LongFormActs m o bs i → acts (access_of i) ≡ false
  acts_not (instruction.VerifyByte cv x) h =
      ne_eqb x (variable o.vars cv.number) (λ e. h (sym e))
  acts_not (instruction.VerifyBit cv b y) h = other_bit _ y h
  acts_not (instruction.WriteByte cv x) h = write_stays cv h
  acts_not (instruction.WriteBit cv b y) h = write_stays cv h
  acts_not i h = refl

  -- no write that acts names a read-only variable
  writes :
      (i : Instruction) (a : Access)
      → access_of i ≡ Some a
      → a.writes ≡ true
      → LongFormActs m o bs i
      → (a.cv.number ≡ m.offset + 7) ⊎ (a.cv.number ≡ m.offset + 8)
      → ⊥
  writes (instruction.WriteByte cv x) a e w h k = read_only (ap number_at e) h.1 k
  writes (instruction.WriteBit cv b y) a e w h k = read_only (ap number_at e) h.1 k
  writes i a e w h k = false≢true (ap writes_by e ∙ w)

-- the reply by the own address, by whether replies are enabled and the packet acts
told :
    (enabled acts : Bool) (x y : Reply)
    → enabled ≡ true
    → acts ≡ true
    → x ≡ y
    → cond (enabled && acts) (Some x) None ≡ Some y
told true true x y e f g = ap Some g
told true false x y e f g = absurd (false≢true f)
told false acts x y e f g = absurd (false≢true e)

untold :
    (enabled acts : Bool) (x : Reply)
    → acts ≡ false
    → cond (enabled && acts) (Some x) None ≡ None
untold true acts x e = ap (λ c. cond c (Some x) None) e
untold false acts x e = refl

silent :
    (enabled acts : Bool) (x : Reply)
    → enabled ≡ false
    → cond (enabled && acts) (Some x) None ≡ None
silent enabled acts x e = ap (λ c. cond (c && acts) (Some x) None) e

-- the answer, by the variable that an access names
abbrev answer : ℕ → List ℕ → Option Access → Reply
answer offset vars a = answer_of (accessed a (named offset vars a))

-- of a kind: there is no reply but by the own address, and what decides there is what acts
module _ {X : Type 0} (m : Rules X) (latest : X → Option Reply) where
  record Replies (Acts : Own X → List ℕ → Instruction → Type 0) : Type 0 where
    everyone :
        (o : Own X) (bs : List ℕ) (i : Instruction)
        → latest (m.obeys o role.Everyone bs i).rec ≡ None
    consist :
        (o : Own X) (bs : List ℕ) (i : Instruction)
        → latest (m.obeys o role.Consist bs i).rec ≡ None
    acts : Own X → List ℕ → Instruction → Bool
    own :
        (o : Own X) (bs : List ℕ) (i : Instruction)
        → latest (m.obeys o role.Own bs i).rec
        ≡ cond (bit_of (variable o.vars (m.offset + 29)) 3 && acts o bs i)
        (Some (answer m.offset o.vars (access_of i))) None
    then : (o : Own X) (bs : List ℕ) (i : Instruction) → Acts o bs i → acts o bs i ≡ true
    else_not : (o : Own X) (bs : List ℕ) (i : Instruction) → ¬ Acts o bs i → acts o bs i ≡ false
    says :
        (o : Own X) (bs : List ℕ) (i : Instruction)
        → Acts o bs i
        → answer m.offset o.vars (access_of i) ≡ reply_due i
    long :
        (o : Own X) (bs : List ℕ) (i : Instruction) (a : Access)
        → access_of i ≡ Some a
        → Acts o bs i
        → LongFormActs m o bs i

  need_all :
      (Acts : Own X → List ℕ → Instruction → Type 0)
      → Replies Acts
      → RepliesNeedAll m latest Acts
  need_all Acts k = record {
    answered = λ o bs i e h. k.own o bs i ∙ told _ _ _ _ e (k.then o bs i h) (k.says o bs i h);
    disabled = disabled;
    not_own = not_own;
    not_acted = not_acted;
    read_only = read_only_silent;
  }
    where
      disabled :
          (o : Own X) (r : Role) (bs : List ℕ) (i : Instruction)
          → bit_of (variable o.vars (m.offset + 29)) 3 ≡ false
          → latest (m.obeys o r bs i).rec ≡ None
      disabled o role.Everyone bs i e = k.everyone o bs i
      disabled o role.Own bs i e = k.own o bs i ∙ silent _ _ _ e
      disabled o role.Consist bs i e = k.consist o bs i

      not_own :
          (o : Own X) (r : Role) (bs : List ℕ) (i : Instruction)
          → r ≢ role.Own
          → latest (m.obeys o r bs i).rec ≡ None
      not_own o role.Everyone bs i h = k.everyone o bs i
      not_own o role.Own bs i h = absurd (h refl)
      not_own o role.Consist bs i h = k.consist o bs i

      not_acted :
          (o : Own X) (bs : List ℕ) (i : Instruction)
          → ¬ Acts o bs i
          → latest (m.obeys o role.Own bs i).rec ≡ None
      not_acted o bs i h = k.own o bs i ∙ untold _ _ _ (k.else_not o bs i h)

      read_only_silent :
          (o : Own X) (r : Role) (bs : List ℕ) (i : Instruction) (a : Access)
          → access_of i ≡ Some a
          → a.writes ≡ true
          → (a.cv.number ≡ m.offset + 7) ⊎ (a.cv.number ≡ m.offset + 8)
          → latest (m.obeys o r bs i).rec ≡ None
      read_only_silent o role.Everyone bs i a e w h = k.everyone o bs i
      read_only_silent o role.Own bs i a e w h =
          not_acted o bs i (λ t. writes m o bs i a e w (k.long o bs i a e t) h)
      read_only_silent o role.Consist bs i a e w h = k.consist o bs i

-- a decoder goes alone unless it is in the consist of another address
not_short :
    (a : ℕ) (own : Option Address) → own ≢ Some (address.Short a) → is_short a own ≡ false
not_short a None h = refl
not_short a (Some (address.Short b)) h =
    ne_eqb a b (λ e. h (ap (λ n. Some (address.Short n)) (sym e)))
not_short a (Some (address.Long b)) h = refl

speed_ignored :
    (o : Own Mobile) → ¬ GoesAlone o → not (in_consist (mobile_view o.vars None)) ≡ false
speed_ignored o h =
    go (eqb a 0) (is_short a (mobile_view o.vars None).own)
    (ne_eqb a 0 (λ e. h (inl e)))
    (not_short a (mobile_view o.vars None).own (λ e. h (inr e)))
  where
    a : ℕ
    a = variable o.vars 19 % 128

    go : (none mine : Bool) → none ≡ false → mine ≡ false → not (not none && not mine) ≡ false
    go false false e f = refl
    go true mine e f = absurd (true≢false e)
    go false true e f = absurd (true≢false f)

kept_number : (n : ℕ) → n ≤ 2047 → not (ltb 2047 n) ≡ true
kept_number n h = grind (arith, nat_tests)

above : (n : ℕ) → 2047 < n → not (ltb 2047 n) ≡ false
above n h = grind (arith, nat_tests)

-- whether a packet acts by the own address
abbrev mobile_acted : Own Mobile → List ℕ → Instruction → Bool
mobile_acted o bs i =
    mobile_acts o.rec.state (mobile_view o.vars (access_of i)) role.Own (packed bs) i

abbrev accessory_acted :
    {S : Type 0} → AccessoryKind S → Own (Accessory S) → List ℕ → Instruction → Bool
accessory_acted k o bs i =
    accessory_acts k o.rec.state (accessory_view o.vars (access_of i)) (as_heard role.Own bs i)

module _ (o : Own Mobile) (bs : List ℕ) where
  mobile_then : (i : Instruction) → MobileActs o bs i → mobile_acted o bs i ≡ true
  mobile_then (instruction.Speed forward code) h = not_in_consist o h
  mobile_then (instruction.Speed126 forward code) h = not_in_consist o h
  mobile_then (instruction.BinaryStateLong on n) h = kept_number n h
  mobile_then (instruction.VerifyByte cv x) h =
      acts_then mobile_rules o bs (instruction.VerifyByte cv x) h
  mobile_then (instruction.WriteByte cv x) h =
      acts_then mobile_rules o bs (instruction.WriteByte cv x) h
  mobile_then (instruction.VerifyBit cv b y) h =
      acts_then mobile_rules o bs (instruction.VerifyBit cv b y) h
  mobile_then (instruction.WriteBit cv b y) h =
      acts_then mobile_rules o bs (instruction.WriteBit cv b y) h
  mobile_then instruction.NoOperation h = absurd h
  mobile_then (instruction.Output n on) h = absurd h
  mobile_then (instruction.Aspect n) h = absurd h
  mobile_then i h = refl

  mobile_not : (i : Instruction) → ¬ MobileActs o bs i → mobile_acted o bs i ≡ false
  mobile_not (instruction.Speed forward code) h = speed_ignored o h
  mobile_not (instruction.Speed126 forward code) h = speed_ignored o h
  mobile_not (instruction.BinaryStateLong on n) h =
      ⊎_elim (λ l. above n l) (λ l. absurd (h l)) (cases_lt 2047 n)
  mobile_not (instruction.VerifyByte cv x) h =
      acts_not mobile_rules o bs (instruction.VerifyByte cv x) h
  mobile_not (instruction.WriteByte cv x) h =
      acts_not mobile_rules o bs (instruction.WriteByte cv x) h
  mobile_not (instruction.VerifyBit cv b y) h =
      acts_not mobile_rules o bs (instruction.VerifyBit cv b y) h
  mobile_not (instruction.WriteBit cv b y) h =
      acts_not mobile_rules o bs (instruction.WriteBit cv b y) h
  mobile_not instruction.NoOperation h = refl
  mobile_not (instruction.Output n on) h = refl
  mobile_not (instruction.Aspect n) h = refl
  mobile_not i h = absurd (h tt)

  mobile_answer :
      (i : Instruction)
      → MobileActs o bs i
      → answer mobile_offset o.vars (access_of i) ≡ reply_due i
  mobile_answer (instruction.VerifyByte cv x) h = ap reply.Value h
  mobile_answer i h = refl

  mobile_long :
      (i : Instruction) (a : Access)
      → access_of i ≡ Some a
      → MobileActs o bs i
      → LongFormActs mobile_rules o bs i
  mobile_long (instruction.VerifyByte cv x) a e h = h
  mobile_long (instruction.WriteByte cv x) a e h = h
  mobile_long (instruction.VerifyBit cv b y) a e h = h
  mobile_long (instruction.WriteBit cv b y) a e h = h
  mobile_long i a e h = absurd (false≢true (ap is_some e))

module _ (o : Own Basic) (bs : List ℕ) where
  basic_then :
      (i : Instruction)
      → BasicActs o bs i
      → accessory_acted basic_kind o bs i ≡ true
  basic_then (instruction.Output n on) h = refl
  basic_then i h = acts_then basic_rules o bs i h

  basic_not :
      (i : Instruction)
      → ¬ BasicActs o bs i
      → accessory_acted basic_kind o bs i ≡ false
  basic_not (instruction.Output n on) h = absurd (h tt)
  basic_not i h = acts_not basic_rules o bs i h

  basic_answer :
      (i : Instruction)
      → BasicActs o bs i
      → answer accessory_offset o.vars (access_of i) ≡ reply_due i
  basic_answer (instruction.VerifyByte cv x) h = ap reply.Value h
  basic_answer i h = refl

  basic_long :
      (i : Instruction) (a : Access)
      → access_of i ≡ Some a
      → BasicActs o bs i
      → LongFormActs basic_rules o bs i
  basic_long (instruction.Output n on) a e h = absurd (false≢true (ap is_some e))
  basic_long i a e h = h

module _ (o : Own Extended) (bs : List ℕ) where
  extended_then :
      (i : Instruction)
      → ExtendedActs o bs i
      → accessory_acted extended_kind o bs i ≡ true
  extended_then (instruction.Aspect n) h = refl
  extended_then i h = acts_then extended_rules o bs i h

  extended_not :
      (i : Instruction)
      → ¬ ExtendedActs o bs i
      → accessory_acted extended_kind o bs i ≡ false
  extended_not (instruction.Aspect n) h = absurd (h tt)
  extended_not i h = acts_not extended_rules o bs i h

  extended_answer :
      (i : Instruction)
      → ExtendedActs o bs i
      → answer accessory_offset o.vars (access_of i) ≡ reply_due i
  extended_answer (instruction.VerifyByte cv x) h = ap reply.Value h
  extended_answer i h = refl

  extended_long :
      (i : Instruction) (a : Access)
      → access_of i ≡ Some a
      → ExtendedActs o bs i
      → LongFormActs extended_rules o bs i
  extended_long (instruction.Aspect n) a e h = absurd (false≢true (ap is_some e))
  extended_long i a e h = h

pub mobile_replies : RepliesNeedAll mobile_rules (λ x. x.state.reply) MobileActs
mobile_replies = need_all mobile_rules (λ x. x.state.reply) MobileActs (record {
  everyone = λ o bs i. refl;
  consist = λ o bs i. refl;
  acts = mobile_acted;
  own = λ o bs i. refl;
  then = mobile_then;
  else_not = mobile_not;
  says = mobile_answer;
  long = mobile_long;
})

pub basic_replies : RepliesNeedAll basic_rules (λ x. x.state.reply) BasicActs
basic_replies = need_all basic_rules (λ x. x.state.reply) BasicActs (record {
  everyone = λ o bs i. refl;
  consist = λ o bs i. refl;
  acts = accessory_acted basic_kind;
  own = λ o bs i. refl;
  then = basic_then;
  else_not = basic_not;
  says = basic_answer;
  long = basic_long;
})

pub extended_replies : RepliesNeedAll extended_rules (λ x. x.state.reply) ExtendedActs
extended_replies = need_all extended_rules (λ x. x.state.reply) ExtendedActs (record {
  everyone = λ o bs i. refl;
  consist = λ o bs i. refl;
  acts = accessory_acted extended_kind;
  own = λ o bs i. refl;
  then = extended_then;
  else_not = extended_not;
  says = extended_answer;
  long = extended_long;
})

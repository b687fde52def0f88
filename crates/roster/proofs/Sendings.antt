-- One packet for all decoders.
use Rattle.std.proofs.Common.{◌≡◌, ℕ, zero, suc, ◌*◌, ◌<◌, ◌≤◌, Bool, true, false, cond, ◌&&◌, ◌||◌, ltb, List, [], ◌∷◌, map, length, get_or, is_some, Some, None, Ok, Err, Option, Result, sym, refl, ap, ◌∙◌, subst, ap₂, ◌⊎◌, ⊎_elim, true≢false, arith}
use Rattle.std.proofs.lemmas.Bool.{le-leb, and_from, cases_Bool, cond-true}
use Rattle.fault.specs.declared.fault.Fault.{Fault}
use Rattle.fault.specs.declared.refusal.Refusal.{Refusal}
use Rattle.packet.specs.declared.instruction.Instruction.{Instruction}
use Rattle.packet.specs.declared.packet.Packet.{Packet}
use Rattle.packet.specs.declared.target.Target.{Target}
use Rattle.packet.specs.declared.target.Target.TheVariants as target
use Rattle.format.specs.Reading.{Told, packet_read}
use Rattle.format.proofs.Nowhere.{placeless}
use Rattle.block.specs.Contents.Thing.{fill, power_up, packet}
use Rattle.memory.specs.Cells.{Outside}
use Rattle.decoder.specs.declared.records.Mobile as mobile-record
use Rattle.decoder.specs.Fresh as accessory-record
use Rattle.decoder.specs.declared.role.Role.{Role}
use Rattle.decoder.specs.Alone.{Own, Rules, own, in_role, hearing, obeyed, live, life, mobile_rules, basic_rules, extended_rules}
use Rattle.decoder.specs.Alone.Event.{heard, powered}
use Rattle.bank.specs.declared.kind.Kind.{Kind}
use Rattle.bank.specs.declared.kind.Kind.TheVariants.{Mobile, Basic, Extended}
use Rattle.bank.specs.Kinds.{same_kind, is_kind, count_below, count_of}
use Rattle.bank.specs.Windows.{window}
use Rattle.bank.specs.Hearers.{is_heard, after_hearing}
use Rattle.bank.specs.Banks.{own_at, Turned, Kept, passes, hears_at, has_records, is_enough, unless_short, lent_too_short}
use Rattle.bank.proofs.Counts.{count_less, count_none, count_skip, passes_at}
use Rattle.bank.proofs.Turns.{after_turned, before_turned, kept_beyond}
use Rattle.script.specs.Decoders.{Decoder, lives, hears, RecordOf, decoder_as}
use Rattle.script.specs.Decoders.Decoder.{mobile, basic, extended}
use Rattle.script.specs.Lending.{IsEnough}
use Rattle.script.proofs.Lendings.{enough, lent_from}
use Rattle.script.specs.Boards.{Lent, lent, bank_of, spare_of, is_lent, decoder_at, decoders, Rest}
use Rattle.script.specs.Calls.{met, some_hears}
use Rattle.script.proofs.Lives.{lives_none}
use Rattle.roster.proofs.Alike.{each, rules_of, lives_as, hears_as}
use Rattle.roster.proofs.Decks.{is_kind_lem, not_two, as_kind, by_kinds, rest_of}
use Rattle.roster.proofs.Counts.{count_cong, or_false, some_hear}

-- ---- what one decoder does

module _ {X : Type 0} (m : Rules X) (o : Own X) (bs : List ℕ) where
  met_or_not : life m o (cond (is_some (hearing m o (packet_read bs))) (heard bs ∷ []) []) ≡ obeyed m o bs (hearing m o (packet_read bs))
  met_or_not = go (hearing m o (packet_read bs)) refl
    where
      go : (h : Option (Role × Instruction)) → hearing m o (packet_read bs) ≡ h → life m o (cond (is_some h) (heard bs ∷ []) []) ≡ obeyed m o bs h
      go None e = refl
      go (Some h) e = ap (obeyed m o bs) e

  met-told : (q : Packet) → packet_read bs ≡ Ok q → life m o (cond (is_some (hearing m o (packet_read bs))) (heard bs ∷ []) []) ≡ after_hearing m bs q.target q.instruction o
  met-told q e = met_or_not ∙ ap (λ t. obeyed m o bs (hearing m o t)) e

  some_role : (r : Option Role) (i : Instruction) → is_some (in_role m r i) ≡ is_some r
  some_role None i = refl
  some_role (Some r) i = refl

  hears-told : (q : Packet) → packet_read bs ≡ Ok q → is_some (hearing m o (packet_read bs)) ≡ is_heard m q.target o
  hears-told q e = ap (λ t. is_some (hearing m o t)) e ∙ some_role (m.hears o q.target) q.instruction

pub met_as : (bs : List ℕ) (q : Packet) → packet_read bs ≡ Ok q → (k : Kind) (o : Own (RecordOf k)) → decoder_as k (after_hearing (rules_of k) bs q.target q.instruction o) ≡ met (packet bs) (decoder_as k o)
met_as bs q e k o =
    sym (ap (λ b. lives (decoder_as k o) (cond b (heard bs ∷ []) [])) (hears_as k o bs) ∙ lives_as k o _ ∙ ap (decoder_as k) (met-told (rules_of k) o bs q e))

powered_as : (k : Kind) (o : Own (RecordOf k)) → decoder_as k (live (rules_of k) o powered) ≡ met power_up (decoder_as k o)
powered_as k o = sym (lives_as k o (powered ∷ []))

-- a refused packet is heard by nobody
deaf : (bs : List ℕ) (r : Refusal) → packet_read bs ≡ Err r → (d : Decoder) → hears d bs ≡ false
unfolding hears
deaf bs r e (mobile o) = ap (λ t. is_some (hearing mobile_rules o t)) e
deaf bs r e (basic o) = ap (λ t. is_some (hearing basic_rules o t)) e
deaf bs r e (extended o) = ap (λ t. is_some (hearing extended_rules o t)) e

map_same : (f : Decoder → Decoder) → ((d : Decoder) → f d ≡ d) → (ds : List Decoder) → map f ds ≡ ds
map_same f e [] = refl
map_same f e (d ∷ ds) = ap₂ ◌∷◌ (e d) (map_same f e ds)

unread_met :
    (bs : List ℕ) (t : Told) (f : Fault)
    → packet_read bs ≡ t
    → Err f ≡ placeless t
    → (ds : List Decoder) → map (met (packet bs)) ds ≡ ds
unread_met bs (Ok q) f e is = cc
unread_met bs (Err r) f e is =
    let unheard = λ (d : Decoder). ap (λ b. lives d (cond b (heard bs ∷ []) [])) (deaf bs r e d) in
    map_same (met (packet bs)) (λ d. unheard d ∙ lives_none d)

pub refused_met :
    (bs : List ℕ) (f : Fault)
    → Err f ≡ placeless (packet_read bs)
    → (ds : List Decoder) → map (met (packet bs)) ds ≡ ds
refused_met bs f = unread_met bs (packet_read bs) f refl

pub fill_met : (ds : List Decoder) → map (met fill) ds ≡ ds
fill_met = map_same (met fill) lives_none

-- ---- who hears

module _ {X : Type 0} (m : Rules X) (t : Target) (h : ℕ → Bool) (bank : List X) where
  hears_same : (cells cells' : List ℕ) (s : ℕ) → (h s ≡ true → window cells' s ≡ window cells s) → hears_at m t h bank cells' s ≡ hears_at m t h bank cells s
  unfolding hears_at
  hears_same cells cells' s same =
      ⊎_elim
      (λ e. ap (λ w. h s && passes (λ x. is_heard m t (own x w)) bank (count_below h s)) (same e))
      (λ e. ap (λ b. b && passes (λ x. is_heard m t (own x (window cells' s))) bank (count_below h s)) e ∙ sym (ap (λ b. b && passes (λ x. is_heard m t (own x (window cells s))) bank (count_below h s)) e))
      (cases_Bool (h s))

  hears-own : (x : X) (cells : List ℕ) (s n : ℕ) → s < n → count_below h n ≤ length bank → h s ≡ true → hears_at m t h bank cells s ≡ is_heard m t (own_at h x bank cells s)
  unfolding hears_at
  hears-own x cells s n l room e =
      ap (λ b. b && passes (λ x. is_heard m t (own x (window cells s))) bank (count_below h s)) e
      ∙ passes_at (λ x. is_heard m t (own x (window cells s))) bank (count_below h s) x (omega (arith, count_less h s n l e))

  hears_not : (cells : List ℕ) (s : ℕ) → h s ≡ false → hears_at m t h bank cells s ≡ false
  unfolding hears_at
  hears_not cells s e = ap (λ b. b && passes (λ x. is_heard m t (own x (window cells s))) bank (count_below h s)) e

-- ---- what is lent is enough

pub still_lent : {ks : List Kind} {l l' : Lent} → Rest ks l l' → is_lent ks l ≡ true → is_lent ks l' ≡ true
still_lent {ks} {l} {l'} r e =
    let h = enough ks l e in
    lent_from ks l' (record { records = λ k. omega (arith, r.sizes k, h.records k); cells = omega (arith, r.size, h.cells) })

-- ---- all decoders

module _ (ks : List Kind) (l : Lent) (room : IsEnough ks l) (bs : List ℕ) (q : Packet) (told : packet_read bs ≡ Ok q) where
  abbrev heard_of : (k : Kind) → List ℕ → ℕ → Bool
  heard_of k c = hears_at (rules_of k) q.target (is_kind ks k) (bank_of k l) c

  own_heard : (k : Kind) (s : ℕ) → s < length ks → is_kind ks k s ≡ true → hears (decoder_at ks l s) bs ≡ heard_of k l.cells s
  own_heard k s low h =
      ap (λ d. hears d bs) (as_kind ks l k s h) ∙ hears_as k _ bs ∙ hears-told (rules_of k) _ bs q told
      ∙ sym (hears-own (rules_of k) q.target (is_kind ks k) (bank_of k l) (spare_of k) l.cells s (length ks) low (room.records k) h)

  none_heard : (j k : Kind) (s : ℕ) → same_kind j k ≡ false → is_kind ks j s ≡ true → heard_of k l.cells s ≡ false
  none_heard j k s apart h =
      hears_not (rules_of k) q.target (is_kind ks k) (bank_of k l) l.cells s (⊎_elim (λ i. absurd (not_two ks j k s apart h i)) (λ i. i) (cases_Bool (is_kind ks k s)))

  each_hears : (s : ℕ) → s < length ks → hears (decoder_at ks l s) bs ≡ (heard_of Mobile l.cells s || (heard_of Basic l.cells s || heard_of Extended l.cells s))
  each_hears s low = go (get_or ks s Mobile) (is_kind_lem ks (get_or ks s Mobile) s refl)
    where
      go : (k : Kind) → is_kind ks k s ≡ true → hears (decoder_at ks l s) bs ≡ (heard_of Mobile l.cells s || (heard_of Basic l.cells s || heard_of Extended l.cells s))
      go Mobile h =
          own_heard Mobile s low h
          ∙ sym (ap₂ (λ b e. heard_of Mobile l.cells s || (b || e)) (none_heard Mobile Basic s refl h) (none_heard Mobile Extended s refl h) ∙ or_false _)
      go Basic h =
          own_heard Basic s low h
          ∙ sym (ap₂ (λ m e. m || (heard_of Basic l.cells s || e)) (none_heard Basic Mobile s refl h) (none_heard Basic Extended s refl h) ∙ or_false _)
      go Extended h =
          own_heard Extended s low h
          ∙ sym (ap₂ (λ m b. m || (b || heard_of Extended l.cells s)) (none_heard Extended Mobile s refl h) (none_heard Extended Basic s refl h))

-- ---- three deliveries, to the mobile decoders, then the basic ones, then the extended ones

-- what came of one, to the kind k, which some decoders heard
pub record Delivery (ks : List Kind) (bs : List ℕ) (q : Packet) (k : Kind) (bank bank' : List (RecordOf k)) (c c' : List ℕ) (heard : ℕ) : Type 0 where
  pub count : heard ≡ count_below (hears_at (rules_of k) q.target (is_kind ks k) bank c) (length ks)
  pub turned : Turned (is_kind ks k) (length ks) (λ _. after_hearing (rules_of k) bs q.target q.instruction) bank c bank' c'
  pub kept : Kept (is_kind ks k) (length ks) c c'
  pub room : 1024 * length ks ≤ length c'

ok_is : {A : Type 0} (b : Bool) (a v : A) (r : Result A Fault) → r ≡ unless_short b a → b ≡ true → r ≡ Ok v → v ≡ a
ok_is b a v r e t o = let q : Ok v ≡ Ok a = sym o ∙ e ∙ cond-true b (Ok a) (Err lent_too_short) t in cc

pub delivered : {bs : List ℕ} {q : Packet} (ks : List Kind) (k : Kind) {bank bank' : List (RecordOf k)} {c c' : List ℕ} {heard : ℕ} (r : Result ℕ Fault) → count_of ks k ≤ length bank → 1024 * length ks ≤ length c → r ≡ unless_short (is_enough ks k bank c) (count_below (hears_at (rules_of k) q.target (is_kind ks k) bank c) (length ks)) → r ≡ Ok heard → (is_enough ks k bank c ≡ true → Turned (is_kind ks k) (length ks) (λ _. after_hearing (rules_of k) bs q.target q.instruction) bank c bank' c') → (is_enough ks k bank c ≡ true → Kept (is_kind ks k) (length ks) c c') → Delivery ks bs q k bank bank' c c' heard
delivered ks k {bank} {c = c} {c' = c'} r room cells e o turned kept =
    let t = and_from _ _ (le-leb (count_of ks k) (length bank) room) (le-leb (1024 * length ks) (length c) cells) in
    record { count = ok_is _ _ _ r e t o; turned = turned t; kept = kept t; room = subst (λ n. 1024 * length ks ≤ n) (sym (kept t).size) cells }

-- no decoder of the kind hears a packet to the target
abbrev pub Deaf : Kind → Target → Type 0
Deaf k t = (o : Own (RecordOf k)) → (rules_of k).hears o t ≡ None

pub idle_deaf : {t : Target} → t ≡ target.Idle → (k : Kind) → Deaf k t
idle_deaf e = each _ (subst (Deaf Mobile) (sym e) (λ o. refl)) (subst (Deaf Basic) (sym e) (λ o. refl)) (subst (Deaf Extended) (sym e) (λ o. refl))

-- those of mobile decoders
abbrev pub IsMobile : Target → Type 0
IsMobile t = (t ≡ target.Broadcast) ⊎ (((a : ℕ) × (t ≡ target.Short a)) ⊎ ((a : ℕ) × (t ≡ target.Long a)))

accessory_deaf : (k : Kind) → same_kind k Mobile ≡ false → {t : Target} → IsMobile t → Deaf k t
accessory_deaf Mobile e = absurd (true≢false e)
accessory_deaf Basic e = ⊎_elim (λ e. subst (Deaf Basic) (sym e) (λ o. refl)) (⊎_elim (λ a. subst (Deaf Basic) (sym a.1) (λ o. refl)) (λ a. subst (Deaf Basic) (sym a.1) (λ o. refl)))
accessory_deaf Extended e = ⊎_elim (λ e. subst (Deaf Extended) (sym e) (λ o. refl)) (⊎_elim (λ a. subst (Deaf Extended) (sym a.1) (λ o. refl)) (λ a. subst (Deaf Extended) (sym a.1) (λ o. refl)))

and_false : (b : Bool) → (b && false) ≡ false
and_false true = refl
and_false false = refl

none_pass : {X : Type 0} (p : X → Bool) → ((x : X) → p x ≡ false) → (xs : List X) (n : ℕ) → passes p xs n ≡ false
none_pass p e [] n = refl
none_pass p e (x ∷ xs) zero = e x
none_pass p e (x ∷ xs) (suc n) = none_pass p e xs n

-- what comes of none, where no decoder of the kind hears
pub undelivered : {bs : List ℕ} {q : Packet} (ks : List Kind) (k : Kind) {bank : List (RecordOf k)} {c : List ℕ} → Deaf k q.target → 1024 * length ks ≤ length c → Delivery ks bs q k bank bank c c 0
unfolding hears_at
undelivered {bs} {q} ks k {bank} {c} unheard room = record {
  count = sym (count_skip _ 0 (length ks) (omega arith) (λ s _ _. none_hears s) ∙ count_none _);
  turned = record {
    len = refl;
    here = λ x s _ _. sym (ap (λ r. obeyed (rules_of k) (own_at (is_kind ks k) x bank c s) bs (in_role (rules_of k) r q.instruction)) (unheard _));
    beyond = λ x j _. refl;
  };
  kept = record { size = refl; there = λ s _. refl };
  room = room;
}
  where
    none_hears : (s : ℕ) → hears_at (rules_of k) q.target (is_kind ks k) bank c s ≡ false
    none_hears s = ap (λ b. is_kind ks k s && b) (none_pass _ (λ x. ap is_some (unheard (own x (window c s)))) bank _) ∙ and_false (is_kind ks k s)

-- what they come to
pub record Sent (ks : List Kind) (l l' : Lent) (bs : List ℕ) (heard : Bool) : Type 0 where
  pub answer : heard ≡ some_hears (decoders ks l) bs
  pub after : decoders ks l' ≡ map (met (packet bs)) (decoders ks l)
  pub rest : Rest ks l l'

module _ (ks : List Kind) (l l' : Lent) (c₁ c₂ : List ℕ) (bs : List ℕ) (q : Packet) (told : packet_read bs ≡ Ok q) (i j k : ℕ) where
  module _ (m : Delivery ks bs q Mobile l.mobiles l'.mobiles l.cells c₁ i) (b : Delivery ks bs q Basic l.basics l'.basics c₁ c₂ j) (e : Delivery ks bs q Extended l.extendeds l'.extendeds c₂ l'.cells k) where
    -- the windows of one kind stay when it is another's turn
    past_mobiles : (k : Kind) → same_kind k Mobile ≡ false → (s : ℕ) → is_kind ks k s ≡ true → window c₁ s ≡ window l.cells s
    past_mobiles k apart s h = m.kept.there s (λ _ i. not_two ks k Mobile s apart h i)

    past_basics : (k : Kind) → same_kind k Basic ≡ false → (s : ℕ) → is_kind ks k s ≡ true → window c₂ s ≡ window c₁ s
    past_basics k apart s h = b.kept.there s (λ _ i. not_two ks k Basic s apart h i)

    past_extendeds : (k : Kind) → same_kind k Extended ≡ false → (s : ℕ) → is_kind ks k s ≡ true → window l'.cells s ≡ window c₂ s
    past_extendeds k apart s h = e.kept.there s (λ _ i. not_two ks k Extended s apart h i)

    all_turned : (k : Kind) → Turned (is_kind ks k) (length ks) (λ _. after_hearing (rules_of k) bs q.target q.instruction) (bank_of k l) l.cells (bank_of k l') l'.cells
    all_turned Mobile = after_turned m.turned (λ s _ h. past_extendeds Mobile refl s h ∙ past_basics Mobile refl s h)
    all_turned Basic = before_turned (after_turned b.turned (λ s _ h. past_extendeds Basic refl s h)) (λ s _ h. past_mobiles Basic refl s h)
    all_turned Extended = before_turned e.turned (λ s _ h. past_basics Extended refl s h ∙ past_mobiles Extended refl s h)

    -- who hears does so by the cells as they were before all three
    some_by_counts : IsEnough ks l → some_hears (decoders ks l) bs ≡ (ltb 0 i || (ltb 0 j || ltb 0 k))
    unfolding decoders
    some_by_counts room =
        some_hear (decoder_at ks l) bs (heard_of ks l room bs q told Mobile l.cells) (heard_of ks l room bs q told Basic l.cells) (heard_of ks l room bs q told Extended l.cells) (length ks) (each_hears ks l room bs q told)
        ∙ sym (ap₂ (λ m b. ltb 0 m || b) m.count (ap₂ (λ b e. ltb 0 b || ltb 0 e)
        (b.count ∙ count_cong _ _ (length ks) (λ s _. hears_same basic_rules q.target (is_kind ks Basic) l.basics l.cells c₁ s (past_mobiles Basic refl s)))
        (e.count ∙ count_cong _ _ (length ks) (λ s _. hears_same extended_rules q.target (is_kind ks Extended) l.extendeds l.cells c₂ s (λ h. past_basics Extended refl s h ∙ past_mobiles Extended refl s h)))))

    pub sent_to_all : IsEnough ks l → l'.outside ≡ l.outside → Sent ks l l' bs (ltb 0 i || (ltb 0 j || ltb 0 k))
    sent_to_all room outside = record {
      answer = sym (some_by_counts room);
      after = by_kinds ks l l' (λ k. after_hearing (rules_of k) bs q.target q.instruction) all_turned (met (packet bs)) (met_as bs q told);
      rest =
          rest_of ks l l' (λ k. after_hearing (rules_of k) bs q.target q.instruction) all_turned (e.kept.size ∙ b.kept.size ∙ m.kept.size)
          (λ c past. kept_beyond e.kept c past ∙ kept_beyond b.kept c past ∙ kept_beyond m.kept c past) outside;
    }

-- ---- one delivery, to the kind that the target is of; the other two are none

module _ {ks : List Kind} {l : Lent} {bs : List ℕ} {q : Packet} (told : packet_read bs ≡ Ok q) (room : IsEnough ks l) where
  pub sent_to_none : q.target ≡ target.Idle → Sent ks l l bs false
  sent_to_none e =
      sent_to_all ks l l l.cells l.cells bs q told 0 0 0 (undelivered ks Mobile (idle_deaf e Mobile) room.cells) (undelivered ks Basic (idle_deaf e Basic) room.cells) (undelivered ks Extended (idle_deaf e Extended) room.cells) room refl

  module _ {c : List ℕ} {outside : List Outside} (same : outside ≡ l.outside) {i : ℕ} where
    pub sent_to_mobiles : {ms : List (RecordOf Mobile)} → IsMobile q.target → Delivery ks bs q Mobile l.mobiles ms l.cells c i → Sent ks l (lent ms l.basics l.extendeds c outside) bs (ltb 0 i)
    sent_to_mobiles {ms} t d =
        subst (Sent ks l (lent ms l.basics l.extendeds c outside) bs) (or_false (ltb 0 i))
        (sent_to_all ks l _ c c bs q told i 0 0 d (undelivered ks Basic (accessory_deaf Basic refl t) d.room) (undelivered ks Extended (accessory_deaf Extended refl t) d.room) room same)

    pub sent_to_basics : {ms : List (RecordOf Basic)} {a : ℕ} → q.target ≡ target.Basic a → Delivery ks bs q Basic l.basics ms l.cells c i → Sent ks l (lent l.mobiles ms l.extendeds c outside) bs (ltb 0 i)
    sent_to_basics {ms} t d =
        subst (Sent ks l (lent l.mobiles ms l.extendeds c outside) bs) (or_false (ltb 0 i))
        (sent_to_all ks l _ l.cells c bs q told 0 i 0 (undelivered ks Mobile (subst (Deaf Mobile) (sym t) (λ o. refl)) room.cells) d (undelivered ks Extended (subst (Deaf Extended) (sym t) (λ o. refl)) d.room) room same)

    pub sent_to_extendeds : {ms : List (RecordOf Extended)} {a : ℕ} → q.target ≡ target.Extended a → Delivery ks bs q Extended l.extendeds ms l.cells c i → Sent ks l (lent l.mobiles l.basics ms c outside) bs (ltb 0 i)
    sent_to_extendeds t d =
        sent_to_all ks l _ l.cells l.cells bs q told 0 0 i (undelivered ks Mobile (subst (Deaf Mobile) (sym t) (λ o. refl)) room.cells) (undelivered ks Basic (subst (Deaf Basic) (sym t) (λ o. refl)) room.cells) d room same

-- ---- a power-up

module _ (ks : List Kind) (l : Lent) (ms : List mobile-record.Mobile) (bs : List accessory-record.Basic) (es : List accessory-record.Extended) where
  abbrev up : Lent
  up = lent ms bs es l.cells l.outside

  pub powered_all : is_lent ks l ≡ true → ((k : Kind) → has_records ks k (bank_of k l) ≡ true → (cells : List ℕ) → Turned (is_kind ks k) (length ks) (λ _ o. live (rules_of k) o powered) (bank_of k l) cells (bank_of k up) cells) → (decoders ks up ≡ map (met power_up) (decoders ks l)) × Rest ks l up
  powered_all e turned =
      let each_turned = λ (k : Kind). turned k (le-leb _ _ ((enough ks l e).records k)) l.cells in (
        by_kinds ks l up (λ k o. live (rules_of k) o powered) each_turned (met power_up) powered_as,
        rest_of ks l up (λ k o. live (rules_of k) o powered) each_turned refl (λ c past. refl) refl,
      )

-- The decoders in their slots: by name, and after a change of some of them.
use Rattle.std.proofs.Common.{◌≡◌, ℕ, ◌*◌, ◌<◌, ◌≤◌, true, false, ◌≢◌, List, map, length, get_or, set, Some, None, sym, refl, ap, ◌∙◌, subst, ⊎_elim, true≢false, arith}
use Rattle.std.specs.List.{slice_get}
use Rattle.std.proofs.lemmas.List.{same_lists, get_or_default, get_or-map, length-map, length-set, get_or-set_same, get_or-set_other}
use Rattle.std.proofs.lemmas.List.FromFn.{length-map-range_with_len, get_or-map-range_with_len}
use Rattle.std.proofs.lemmas.Option.{slice_get-get_or}
use Rattle.std.proofs.lemmas.Bool.{cases_eq}
use Rattle.decoder.specs.Alone.{Own}
use Rattle.bank.specs.declared.kind.Kind.{Kind}
use Rattle.bank.specs.declared.kind.Kind.TheVariants.{Mobile}
use Rattle.bank.specs.Kinds.{same_kind, is_kind, count_below, SlotOf}
use Rattle.bank.specs.Banks.{own_at, Turned}
use Rattle.script.specs.declared.name.DecoderName.{DecoderName}
use Rattle.script.specs.Decoders.{Decoder, kind_of, RecordOf, decoder_as, decoder_of, changed}
use Rattle.script.specs.Boards.{Lent, bank_of, spare_of, decoder_in, decoder_at, decoders, Rest}
use Rattle.script.proofs.Names.{same_is, same_self}
use Rattle.script.proofs.Slots.{slot_found, slot_missing, changed_at}
use Rattle.roster.proofs.Alike.{kind_as}

-- ---- kinds

pub is_kind_lem : (ks : List Kind) (k : Kind) (s : ℕ) → get_or ks s Mobile ≡ k → is_kind ks k s ≡ true
unfolding is_kind
is_kind_lem ks k s e = ap (same_kind k) e ∙ same_self k

pub kind_is : (ks : List Kind) (k : Kind) (s : ℕ) → is_kind ks k s ≡ true → k ≡ get_or ks s Mobile
unfolding is_kind
kind_is ks k s h = same_is k (get_or ks s Mobile) h

-- no slot is of two kinds
pub not_two : (ks : List Kind) (j k : Kind) (s : ℕ) → same_kind j k ≡ false → is_kind ks j s ≡ true → is_kind ks k s ≡ true → ⊥
not_two ks j k s apart h i =
    let e : j ≡ k = kind_is ks j s h ∙ sym (kind_is ks k s i) in
    let f : same_kind k k ≡ false = subst (λ j. same_kind j k ≡ false) e apart in
    true≢false (sym (same_self k) ∙ f)

pub as_kind : (ks : List Kind) (l : Lent) (k : Kind) (s : ℕ) → is_kind ks k s ≡ true → decoder_at ks l s ≡ decoder_in k ks l s
unfolding decoder_at
as_kind ks l k s h = ap (λ k. decoder_in k ks l s) (sym (kind_is ks k s h))

kind_at : (ks : List Kind) (l : Lent) (s : ℕ) → kind_of (decoder_at ks l s) ≡ get_or ks s Mobile
unfolding decoder_at
kind_at ks l s = kind_as (get_or ks s Mobile) _

-- ---- all slots

module _ (ks : List Kind) (l : Lent) where
  pub length-decoders : length (decoders ks l) ≡ length ks
  unfolding decoders
  length-decoders = length-map-range_with_len (decoder_at ks l) 0 (length ks)

  pub get_or-decoders : (s : ℕ) (d : Decoder) → s < length ks → get_or (decoders ks l) s d ≡ decoder_at ks l s
  unfolding decoders
  get_or-decoders s d h = get_or-map-range_with_len (decoder_at ks l) 0 (length ks) s s d h (omega arith)

  nth_decoders : (s : ℕ) → s < length ks → slice_get (decoders ks l) s ≡ Some (decoder_at ks l s)
  nth_decoders s h = slice_get-get_or (decoders ks l) s (decoder_at ks l s) (omega (arith, length-decoders)) ∙ ap Some (get_or-decoders s (decoder_at ks l s) h)

  kinds_of : map kind_of (decoders ks l) ≡ ks
  kinds_of =
      same_lists (map kind_of (decoders ks l)) ks (length-map (decoders ks l) kind_of ∙ length-decoders)
      (λ s k h.
      let low : s < length ks = omega (arith, length-map (decoders ks l) kind_of, length-decoders) in
      get_or-map kind_of (decoders ks l) s (decoder_at ks l s) k (omega (arith, length-decoders)) ∙ ap kind_of (get_or-decoders s (decoder_at ks l s) low) ∙ kind_at ks l s ∙ default s k low)
    where
      default : (s : ℕ) (k : Kind) → s < length ks → get_or ks s Mobile ≡ get_or ks s k
      default s k h = get_or_default ks s Mobile k h

  module _ (n : DecoderName) where
    pub found_at : (s : ℕ) → SlotOf (is_kind ks n.kind) (length ks) n.number (Some s) → decoder_of n (decoders ks l) ≡ Some (decoder_at ks l s)
    found_at s h =
        slot_found kind_of n.kind (decoders ks l) s n.number (omega (arith, h.0, length-decoders)) (ap (λ ks. is_kind ks n.kind s) kinds_of ∙ h.1) (ap (λ ks. count_below (is_kind ks n.kind) s) kinds_of ∙ h.2)
        ∙ nth_decoders s h.0

    pub found_none : SlotOf (is_kind ks n.kind) (length ks) n.number None → decoder_of n (decoders ks l) ≡ None
    found_none h = slot_missing kind_of n.kind (decoders ks l) n.number (subst (λ ks. count_below (is_kind ks n.kind) (length ks) ≤ n.number) (sym kinds_of) h)

    pub changes_at : (g : Decoder → Decoder) (s : ℕ) → SlotOf (is_kind ks n.kind) (length ks) n.number (Some s) → changed g n.kind n.number (decoders ks l) ≡ set (decoders ks l) s (g (decoder_at ks l s))
    changes_at g s h =
        changed_at g n.kind (decoders ks l) (decoder_at ks l s) s n.number (omega (arith, h.0, length-decoders)) (ap (λ ks. is_kind ks n.kind s) kinds_of ∙ h.1) (ap (λ ks. count_below (is_kind ks n.kind) s) kinds_of ∙ h.2)
        (nth_decoders s h.0)

-- ---- what was lent, and what came of it

-- if the slot s is of the kind i, its record is as it was
abbrev pub SameRecord : List Kind → Lent → Lent → ℕ → Kind → Type 0
SameRecord ks l l' s i = is_kind ks i s ≡ true → (x : RecordOf i) → get_or (bank_of i l') (count_below (is_kind ks i) s) x ≡ get_or (bank_of i l) (count_below (is_kind ks i) s) x

module _ (ks : List Kind) (l l' : Lent) where
  pub all_changed : (f : Decoder → Decoder) → ((s : ℕ) → s < length ks → decoder_at ks l' s ≡ f (decoder_at ks l s)) → decoders ks l' ≡ map f (decoders ks l)
  all_changed f each =
      same_lists (decoders ks l') (map f (decoders ks l)) (length-decoders ks l' ∙ sym (length-map (decoders ks l) f ∙ length-decoders ks l))
      (λ s d h.
      let low : s < length ks = omega (arith, length-decoders ks l') in
      get_or-decoders ks l' s d low ∙ each s low ∙ sym (get_or-map f (decoders ks l) s d d (omega (arith, length-decoders ks l)) ∙ ap f (get_or-decoders ks l s d low)))

  pub one_changed : (g : Decoder → Decoder) (s : ℕ) → s < length ks → decoder_at ks l' s ≡ g (decoder_at ks l s) → ((t : ℕ) → t < length ks → t ≢ s → decoder_at ks l' t ≡ decoder_at ks l t) → decoders ks l' ≡ set (decoders ks l) s (g (decoder_at ks l s))
  one_changed g s low here there =
      same_lists (decoders ks l') (set (decoders ks l) s (g (decoder_at ks l s))) (length-decoders ks l' ∙ sym (length-set (decoders ks l) s (g (decoder_at ks l s)) ∙ length-decoders ks l))
      (λ t d h.
      let lt : t < length ks = omega (arith, length-decoders ks l') in
      get_or-decoders ks l' t d lt
      ∙ ⊎_elim
      (λ e. subst (λ t. decoder_at ks l' t ≡ get_or (set (decoders ks l) s (g (decoder_at ks l s))) t d) (sym e) (here ∙ sym (get_or-set_same (decoders ks l) s (g (decoder_at ks l s)) d (omega (arith, length-decoders ks l)))))
      (λ ne. there t lt ne ∙ sym (get_or-set_other (decoders ks l) s t (g (decoder_at ks l s)) d ne ∙ get_or-decoders ks l t d lt))
      (cases_eq t s))

  -- what was done to each kind, as one function of decoders
  module _ (f : (k : Kind) → Own (RecordOf k) → Own (RecordOf k)) (t : (k : Kind) → Turned (is_kind ks k) (length ks) (λ _. f k) (bank_of k l) l.cells (bank_of k l') l'.cells) where
    pub by_kinds : (g : Decoder → Decoder) → ((k : Kind) (o : Own (RecordOf k)) → decoder_as k (f k o) ≡ g (decoder_as k o)) → decoders ks l' ≡ map g (decoders ks l)
    unfolding decoder_at
    by_kinds g e =
        all_changed g
        (λ s low. let k = get_or ks s Mobile in ap (decoder_as k) ((t k).here (spare_of k) s low (is_kind_lem ks k s refl)) ∙ e k (own_at (is_kind ks k) (spare_of k) (bank_of k l) l.cells s))

    pub rest_of : length l'.cells ≡ length l.cells → ((c : ℕ) → 1024 * length ks ≤ c → get_or l'.cells c 0 ≡ get_or l.cells c 0) → l'.outside ≡ l.outside → Rest ks l l'
    rest_of size cells outside = record { sizes = λ k. (t k).len; size = size; records = λ k. (t k).beyond; cells = cells; outside = outside }

pub rest_none : {ks : List Kind} {l : Lent} → Rest ks l l
rest_none = record { sizes = λ k. refl; size = refl; records = λ k x j h. refl; cells = λ c h. refl; outside = refl }

pub rest_then : {ks : List Kind} {l l' l'' : Lent} → Rest ks l l' → Rest ks l' l'' → Rest ks l l''
rest_then r q = record {
  sizes = λ k. q.sizes k ∙ r.sizes k;
  size = q.size ∙ r.size;
  records = λ k x j h. q.records k x j h ∙ r.records k x j h;
  cells = λ c h. q.cells c h ∙ r.cells c h;
  outside = q.outside ∙ r.outside;
}

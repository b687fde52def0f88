-- One decoder more at the end of the slots.
use Rattle.std.proofs.Common.{◌≡◌, ℕ, ◌+◌, ◌*◌, ◌<◌, ◌≤◌, Bool, true, false, cond, ◌&&◌, ltb, leb, List, [], ◌∷◌, ◌++◌, map, length, get_or, set, Ok, Err, Result, sym, refl, ap, ◌∙◌, subst, ap₂, is_err, true≢false, arith}
use Rattle.std.specs.List.{range_with_len}
use Rattle.std.proofs.lemmas.List.{same_lists, get_or_append_left, get_or_push, length_push, length-set, get_or-set_same, get_or-set_other}
use Rattle.std.proofs.lemmas.List.FromFn.{length-map-range_with_len, get_or-map-range_with_len, map-range_with_len_more}
use Rattle.std.proofs.lemmas.Bool.{ltb-true, leb-true, and_parts}
use Rattle.fault.specs.declared.fault.Fault.{Fault}
use Rattle.fault.specs.declared.refusal.Refusal.TheVariants.{FittedAddress, BankFull, TooFewCells}
use Rattle.memory.specs.Cells.{Outside}
use Rattle.decoder.specs.Alone.{Own, own}
use Rattle.decoder.specs.Fitted.{mobile_fitted, basic_fitted, extended_fitted}
use Rattle.bank.specs.declared.kind.Kind.{Kind}
use Rattle.bank.specs.declared.kind.Kind.TheVariants.{Mobile}
use Rattle.bank.specs.Kinds.{same_kind, is_kind, count_below, count_of}
use Rattle.bank.specs.Windows.{window}
use Rattle.bank.proofs.Counts.{count_more, count_less}
use Rattle.script.specs.declared.fit.Fit.{Fit}
use Rattle.script.specs.declared.fit.Fit.TheVariants as fits
use Rattle.script.specs.Decoders.{Decoder, RecordOf, decoder_as, refused_by}
use Rattle.script.specs.Boards.{Lent, bank_of, bank_size, spare_of, is_lent, decoder_in, decoder_at, decoders}
use Rattle.script.specs.Fittings.{fit_kind, fitted, is_address, fitting_in, fitting}
use Rattle.script.proofs.Names.{same_self}
use Rattle.roster.proofs.Counts.{count_cong}
use Rattle.roster.proofs.Alike.{one_and_others, SameBanksBut, with_bank, others_stay, same_lent}
use Rattle.roster.proofs.Decks.{SameRecord, is_kind_lem}
use Rattle.roster.proofs.Askings.{wrote_beyond}
use Rattle.script.specs.Lending.{IsEnough}
use Rattle.script.proofs.Lendings.{enough, lent_from}
use Rattle.board.specs.Slots.{AddedAs, Added}
use Rattle.board.specs.Joins.{Joined, Joins}

-- ---- an accepted fitting

pub record Room (places cells : ℕ) (ks : List Kind) (k : Kind) (j : ℕ) : Type 0 where
  pub number : count_of ks k ≡ j
  pub place : j < places
  pub window : 1024 * length ks + 1024 ≤ cells

pub has_room : (places cells : ℕ) (ks : List Kind) (f : Fit) (j : ℕ) → fitting_in places cells ks f ≡ Ok j → Room places cells ks (fit_kind f) j
has_room places cells ks f j e = go (is_address f) (ltb (length ks) 32 && ltb (count_of ks (fit_kind f)) places) refl (leb (1024 * length ks + 1024) cells) refl e
  where
    go : (a b : Bool) → (ltb (length ks) 32 && ltb (count_of ks (fit_kind f)) places) ≡ b → (c : Bool) → leb (1024 * length ks + 1024) cells ≡ c → cond a (cond b (cond c (Ok (count_of ks (fit_kind f))) (Err (refused_by TooFewCells))) (Err (refused_by BankFull))) (Err (refused_by FittedAddress)) ≡ Ok j → Room places cells ks (fit_kind f) j
    go true true p true q e =
        let n : count_of ks (fit_kind f) ≡ j = cc in
        let low = ltb-true (count_of ks (fit_kind f)) places (and_parts (ltb (length ks) 32) (ltb (count_of ks (fit_kind f)) places) p).1 in
        record { number = n; place = omega arith; window = leb-true (1024 * length ks + 1024) cells q }
    go true true p false q e = absurd (true≢false (ap is_err e))
    go true false p c q e = absurd (true≢false (ap is_err e))
    go false b p c q e = absurd (true≢false (ap is_err e))

-- ---- kinds

module _ (ks : List Kind) (k : Kind) where
  abbrev more : List Kind
  more = ks ++ k ∷ []

  kind_before : (s : ℕ) → s < length ks → get_or more s Mobile ≡ get_or ks s Mobile
  kind_before s low = get_or_append_left ks (k ∷ []) Mobile s low

  is_before : (j : Kind) (s : ℕ) → s < length ks → is_kind more j s ≡ is_kind ks j s
  unfolding is_kind
  is_before j s low = ap (same_kind j) (kind_before s low)

  is_last : (j : Kind) → is_kind more j (length ks) ≡ same_kind j k
  unfolding is_kind
  is_last j = ap (same_kind j) (get_or_push ks k Mobile (length ks) refl)

  count_before : (j : Kind) (s : ℕ) → s ≤ length ks → count_below (is_kind more j) s ≡ count_below (is_kind ks j) s
  count_before j s low = count_cong (is_kind more j) (is_kind ks j) s (λ t h. is_before j t (omega arith))

  count_last : (j : Kind) → count_of more j ≡ count_of ks j + cond (same_kind j k) 1 0
  count_last j =
      ap (count_below (is_kind more j)) (length_push ks k)
      ∙ count_more (is_kind more j) (length ks)
      ∙ ap₂ (λ n b. n + cond b 1 0) (count_before j (length ks) (omega arith)) (is_last j)

  pub count_grows : (j : Kind) → count_of ks j ≤ count_of more j
  count_grows j = omega (arith, count_last j)

-- ---- decoders

module _ (ks : List Kind) (k : Kind) (l l' : Lent) where
  abbrev ks' : List Kind
  ks' = ks ++ k ∷ []

  same_at : (s : ℕ) → s < length ks → ((i : Kind) → SameRecord ks l l' s i) → window l'.cells s ≡ window l.cells s → decoder_at ks' l' s ≡ decoder_at ks l s
  unfolding decoder_at
  same_at s low r w =
      let i = get_or ks s Mobile in
      ap (λ j. decoder_in j ks' l' s) (kind_before ks k s low)
      ∙ ap₂ (λ x w. decoder_as i (own x w)) (ap (λ n. get_or (bank_of i l') n (spare_of i)) (count_before ks k i s (omega arith)) ∙ r i (is_kind_lem ks i s refl) (spare_of i)) w

  last_at : decoder_at ks' l' (length ks) ≡ decoder_in k ks' l' (length ks)
  unfolding decoder_at
  last_at = ap (λ j. decoder_in j ks' l' (length ks)) (get_or_push ks k Mobile (length ks) refl)

  joined-decoders : (d : Decoder) → decoder_in k ks' l' (length ks) ≡ d → ((s : ℕ) → s < length ks → decoder_at ks' l' s ≡ decoder_at ks l s) → decoders ks' l' ≡ decoders ks l ++ d ∷ []
  unfolding decoders
  joined-decoders d is each =
      ap (λ n. map (decoder_at ks' l') (range_with_len 0 n)) (length_push ks k)
      ∙ map-range_with_len_more (decoder_at ks' l') 0 (length ks) (length ks) (omega arith)
      ∙ ap₂ (λ ds d. ds ++ d ∷ []) before (last_at ∙ is)
    where
      before : map (decoder_at ks' l') (range_with_len 0 (length ks)) ≡ map (decoder_at ks l) (range_with_len 0 (length ks))
      before =
          same_lists (map (decoder_at ks' l') (range_with_len 0 (length ks))) (map (decoder_at ks l) (range_with_len 0 (length ks))) (length-map-range_with_len (decoder_at ks' l') 0 (length ks) ∙ sym (length-map-range_with_len (decoder_at ks l) 0 (length ks)))
          (λ s x h.
          let low : s < length ks = omega (arith, length-map-range_with_len (decoder_at ks' l') 0 (length ks)) in
          get_or-map-range_with_len (decoder_at ks' l') 0 (length ks) s s x low (omega arith) ∙ each s low ∙ sym (get_or-map-range_with_len (decoder_at ks l) 0 (length ks) s s x low (omega arith)))

-- ---- banks

module _ {X : Type 0} (ks : List Kind) (k : Kind) (bank : List X) (r : X) (j : ℕ) (at : count_of ks k ≡ j) (room : j < length bank) where
  set_before : (s : ℕ) → s < length ks → is_kind ks k s ≡ true → (x : X) → get_or (set bank j r) (count_below (is_kind ks k) s) x ≡ get_or bank (count_below (is_kind ks k) s) x
  set_before s low h x = get_or-set_other bank j (count_below (is_kind ks k) s) r x (λ e. let m = count_less (is_kind ks k) s (length ks) low h in omega arith)

  set_last : (x : X) → get_or (set bank j r) (count_below (is_kind (ks ++ k ∷ []) k) (length ks)) x ≡ r
  set_last x = ap (λ n. get_or (set bank j r) n x) (count_before ks k k (length ks) (omega arith) ∙ at) ∙ get_or-set_same bank j r x room

  set_beyond : (x : X) (i : ℕ) → count_of (ks ++ k ∷ []) k ≤ i → get_or (set bank j r) i x ≡ get_or bank i x
  set_beyond x i past = let e = count_last ks k k ∙ ap (λ b. count_of ks k + cond b 1 0) (same_self k) in get_or-set_other bank j i r x (λ q. omega arith)

-- ---- the decoder that a fitting makes

abbrev pub fitted_own : (f : Fit) → Own (RecordOf (fit_kind f))
fitted_own (fits.Mobile a) = mobile_fitted a
fitted_own (fits.Basic a) = basic_fitted a
fitted_own (fits.Extended a) = extended_fitted a

fitted_is : (f : Fit) → decoder_as (fit_kind f) (fitted_own f) ≡ fitted f
fitted_is (fits.Mobile a) = refl
fitted_is (fits.Basic a) = refl
fitted_is (fits.Extended a) = refl

module _ (f : Fit) (ks ks₁ : List Kind) (l l' : Lent) (others : SameBanksBut (fit_kind f) l l') (outside : l'.outside ≡ l.outside) where
  abbrev k : Kind
  k = fit_kind f

  abbrev new : Own (RecordOf k)
  new = fitted_own f

  module _ (j : ℕ) (room : Room (bank_size k l) (length l.cells) ks k j) (added : AddedAs k new ks (bank_of k l) l.cells ks₁ (bank_of k l') l'.cells j) where
    before : (s : ℕ) → s < length ks → (i : Kind) → SameRecord ks l l' s i
    before s low =
        one_and_others (SameRecord ks l l' s) k
        (λ h x. ap (λ b. get_or b (count_below (is_kind ks k) s) x) added.records ∙ set_before ks k (bank_of k l) new.rec j room.number room.place s low h x)
        (λ i q h x. ap (λ b. get_or b (count_below (is_kind ks i) s) x) (others i q))

    last : decoder_in k (ks ++ k ∷ []) l' (length ks) ≡ fitted f
    last =
        ap₂ (λ r w. decoder_as k (own r w)) (ap (λ b. get_or b (count_below (is_kind (ks ++ k ∷ []) k) (length ks)) (spare_of k)) added.records ∙ set_last ks k (bank_of k l) new.rec j room.number room.place (spare_of k)) added.variables.here
        ∙ fitted_is f

    sizes : (i : Kind) → bank_size i l' ≡ bank_size i l
    sizes = one_and_others (λ i. bank_size i l' ≡ bank_size i l) k (ap length added.records ∙ length-set (bank_of k l) j new.rec) (λ i q. ap length (others i q))

    enough_places : IsEnough ks l → (i : Kind) → count_of (ks ++ k ∷ []) i ≤ bank_size i l'
    enough_places e =
        one_and_others (λ i. count_of (ks ++ k ∷ []) i ≤ bank_size i l') k
        (omega (arith, count_last ks k k, ap {B = ℕ} (λ b. cond b 1 0) (same_self k), room.number, room.place, sizes k))
        (λ i q. omega (arith, count_last ks k i, ap {B = ℕ} (λ b. cond b 1 0) q, e.records i, sizes i))

    joined : Joined f ks l ks₁ l'
    joined =
        subst (λ q. Joined f ks l q l') (sym added.kinds) (record {
          kinds = refl;
          decoders_are = joined-decoders ks k l l' (fitted f) last (λ s low. same_at ks k l l' s low (before s low) (added.variables.there s (omega arith)));
          enough = λ e. let r = enough ks l e in lent_from (ks ++ k ∷ []) l' (record { records = enough_places r; cells = omega (arith, length_push ks k, room.window, added.variables.size) });
          rest = record {
            sizes = sizes;
            size = added.variables.size;
            records =
                one_and_others (λ i. (x : RecordOf i) (m : ℕ) → count_of (ks ++ k ∷ []) i ≤ m → get_or (bank_of i l') m x ≡ get_or (bank_of i l) m x) k
                (λ x m past. ap (λ b. get_or b m x) added.records ∙ set_beyond ks k (bank_of k l) new.rec j room.number room.place x m past)
                (λ i q x m past. ap (λ b. get_or b m x) (others i q));
            cells = λ c past. wrote_beyond (length ks + 1) (length ks) (omega arith) added.variables c (omega (arith, length_push ks k));
            outside = outside;
          };
        })

  joins : (r : Result ℕ Fault) → r ≡ fitting l ks f → Added k new ks (bank_of k l) l.cells ks₁ (bank_of k l') l'.cells r → Joins f ks l ks₁ l' r
  joins (Ok j) e added = joined j (has_room (bank_size k l) (length l.cells) ks f j (sym e)) added
  joins (Err x) e same = (same.0, same_lent l l' (one_and_others (λ i. bank_of i l' ≡ bank_of i l) k same.1 others) same.2 outside)

-- into the bank of its kind, however the fitting is named
module _ (f : Fit) (ks ks₁ : List Kind) (l : Lent) (xs : List (RecordOf (fit_kind f))) (cells : List ℕ) (outside : List Outside) where
  abbrev l₁ : Lent
  l₁ = with_bank (fit_kind f) xs cells outside l

  pub joins_in : {q : Fit} (r : Result ℕ Fault) → q ≡ f → l₁.outside ≡ l.outside → r ≡ fitting l ks f → Added (fit_kind f) (fitted_own f) ks (bank_of (fit_kind f) l) l.cells ks₁ (bank_of (fit_kind f) l₁) l₁.cells r → (r ≡ fitting l ks q) × Joins q ks l ks₁ l₁ r
  joins_in r e same a added = subst (λ q. (r ≡ fitting l ks q) × Joins q ks l ks₁ l₁ r) (sym e) (a, joins f ks ks₁ l l₁ (others_stay (fit_kind f) xs cells outside l) same r a added)

-- a board without decoders
pub no_kinds : (l : Lent) → (decoders [] l ≡ []) × (is_lent [] l ≡ true)
unfolding decoders count_below
no_kinds l = (refl, lent_from [] l (record { records = λ k. omega arith; cells = omega arith }))

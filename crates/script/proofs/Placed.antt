-- The places of the records of a block: what each decoder has of each, and how many are heard.
-- Assumes nothing.
use Rattle.std.proofs.Common.{◌≡◌, ℕ, zero, suc, ◌+◌, Bool, true, false, cond, not, ◌&&◌, ◌||◌}
use Rattle.std.proofs.Common.{List, [], ◌∷◌, ◌++◌, map, length, take, drop, is_ok, is_some, Some}
use Rattle.std.proofs.Common.{Ok, Err, sym, refl, ap, ap₂, ◌∙◌, arith}
use Rattle.std.proofs.lemmas.Bool.{true≢false}
use Rattle.std.proofs.lemmas.List.{append-nil, length-append}
use Rattle.std.proofs.lemmas.List.Sums.{sum_by-cons}
use Rattle.std.proofs.lemmas.Option.{none-some}
use Rattle.std.proofs.Math.Seq.{drop-append-add}
use Rattle.std.specs.List.{slice_get, list_any, range_with_len, count_by, flat_map}
use Rattle.fault.specs.declared.refusal.Refusal.{Refusal}
use Rattle.format.specs.Reading.{Told, packet_read}
use Rattle.block.specs.Contents.{Thing}
use Rattle.block.specs.Contents.Thing.{fill, power_up, packet}
use Rattle.decoder.specs.Alone.{hearing, mobile_rules, basic_rules, extended_rules}
use Rattle.decoder.specs.Alone.Event.{heard}
use Rattle.script.specs.declared.taken.Taken.{Taken}
use Rattle.script.specs.Decoders.{Decoder, hears}
use Rattle.script.specs.Decoders.Decoder.{mobile, basic, extended}
use Rattle.script.specs.Calls.{meets, met, some_hears, outcome, noted, counted, counts}
use Rattle.script.specs.Promises.{in_records}
use Rattle.script.specs.Records.{events_at, before, places, is_packet, some_has, is_accepted}
use Rattle.script.specs.Records.{heard_among, unheard_among}
use Rattle.script.proofs.Lives.{lives_none, lives_more}

-- one where it is true
abbrev one_if : Bool → ℕ
one_if b = cond b 1 0

abbrev all_from : ℕ → ℕ → List ℕ
all_from a n = range_with_len a n

-- ---- of numbers from 0 on the first, and those behind it

module _ (p q : ℕ → Bool) (next : (k : ℕ) → p (suc k) ≡ q k) where
  count-next : (a n : ℕ) → count_by p (all_from (a + 1) n) ≡ count_by q (all_from a n)
  count-next a zero = refl
  count-next a (suc n) =
      let at : p (a + 1) ≡ q a = ap p (omega arith) ∙ next a in
      let here : one_if (p (a + 1)) ≡ one_if (q a) = ap one_if at in
      let ps = sum_by-cons (λ k. one_if (p k)) (a + 1) (all_from (a + 1 + 1) n) in
      let qs = sum_by-cons (λ k. one_if (q k)) a (all_from (a + 1) n) in
      omega (arith, here, count-next (a + 1) n, ps, qs)

  count-first :
      (n : ℕ) → count_by p (all_from 0 (suc n)) ≡ one_if (p 0) + count_by q (all_from 0 n)
  count-first n =
      omega (arith, count-next 0 n, sum_by-cons (λ k. one_if (p k)) 0 (all_from 1 n))

module _ {A : Type 0} (f g : ℕ → List A) (next : (k : ℕ) → f (suc k) ≡ g k) where
  flat_map-next : (a n : ℕ) → flat_map f (all_from (a + 1) n) ≡ flat_map g (all_from a n)
  flat_map-next a zero = refl
  flat_map-next a (suc n) =
      let at : f (a + 1) ≡ g a = ap f (omega arith) ∙ next a in
      ap₂ (λ xs ys. xs ++ ys) at (flat_map-next (a + 1) n)

-- ---- what a decoder has of a record

abbrev Records : Type 0
Records = List (ℕ × Thing)

events_first :
    (d : Decoder) (r : ℕ × Thing) (rs : Records) → events_at d (r ∷ rs) 0 ≡ meets d r.1
events_first d r rs = append-nil (meets d r.1)

events_next :
    (d : Decoder) (r : ℕ × Thing) (rs : Records) (k : ℕ)
    → events_at d (r ∷ rs) (suc k) ≡ events_at (met r.1 d) rs k
events_next d r rs k =
    let here = meets d r.1 in
    let earlier = in_records (met r.1 d) (take k rs) in
    let all = in_records (met r.1 d) (take (suc k) rs) in
    ap (λ n. drop n (here ++ all)) (length-append here earlier)
    ∙ drop-append-add here all (length earlier)

pub in_order :
    (d : Decoder) (rs : Records) → in_records d rs ≡ flat_map (events_at d rs) (places rs)
in_order d [] = refl
in_order d (r ∷ rs) =
    let now = met r.1 d in
    let next = events_next d r rs in
    ap₂ (λ xs ys. xs ++ ys) (sym (events_first d r rs))
    (in_order now rs
    ∙ sym (flat_map-next (events_at d (r ∷ rs)) (events_at now rs) next 0 (length rs)))

-- what it meets of it as the earlier ones leave it
pub of_record :
    (d : Decoder) (rs : Records) (k : ℕ) (r : ℕ × Thing)
    → slice_get rs k ≡ Some r
    → events_at d rs k ≡ meets (before d rs k) r.1
of_record d [] k r at = absurd (none-some r at)
of_record d (s ∷ rs) zero r at =
    let is : s ≡ r = cc in
    events_first d s rs ∙ ap₂ (λ e (x : ℕ × Thing). meets e x.1) (sym (lives_none d)) is
of_record d (s ∷ rs) (suc k) r at =
    let now = met s.1 d in
    events_next d s rs k
    ∙ of_record now rs k r at
    ∙ ap (λ e. meets e r.1) (sym (lives_more d (meets d s.1) (in_records now (take k rs))))

-- ---- whether some decoder has a packet of a record

some_met : List Decoder → Thing → Bool
some_met ds t = list_any (λ d. list_any is_packet (meets d t)) ds

some_first :
    (ds : List Decoder) (r : ℕ × Thing) (rs : Records)
    → some_has ds (r ∷ rs) 0 ≡ some_met ds r.1
unfolding some_met
some_first [] r rs = refl
some_first (d ∷ ds) r rs =
    ap₂ (λ a b. a || b) (ap (list_any is_packet) (events_first d r rs)) (some_first ds r rs)

some_next :
    (ds : List Decoder) (r : ℕ × Thing) (rs : Records) (k : ℕ)
    → some_has ds (r ∷ rs) (suc k) ≡ some_has (map (met r.1) ds) rs k
some_next [] r rs k = refl
some_next (d ∷ ds) r rs k =
    ap₂ (λ a b. a || b) (ap (list_any is_packet) (events_next d r rs k)) (some_next ds r rs k)

no_fill : (ds : List Decoder) → some_met ds fill ≡ false
unfolding some_met
no_fill [] = refl
no_fill (d ∷ ds) = no_fill ds

no_power_up : (ds : List Decoder) → some_met ds power_up ≡ false
unfolding some_met
no_power_up [] = refl
no_power_up (d ∷ ds) = no_power_up ds

-- its own events have a packet where it hears it
has_packet : (d : Decoder) (p : List ℕ) → list_any is_packet (meets d (packet p)) ≡ hears d p
has_packet d p = go (hears d p)
  where
    go : (b : Bool) → list_any is_packet (cond b (heard p ∷ []) []) ≡ b
    go true = refl
    go false = refl

a_packet : (ds : List Decoder) (p : List ℕ) → some_met ds (packet p) ≡ some_hears ds p
unfolding some_met
a_packet [] p = refl
a_packet (d ∷ ds) p = ap₂ (λ a b. a || b) (has_packet d p) (a_packet ds p)

-- nobody hears a packet that is refused
pub deaf : (d : Decoder) (p : List ℕ) (e : Refusal) → packet_read p ≡ Err e → hears d p ≡ false
unfolding hears
deaf (mobile o) p e h = ap (λ r. is_some (hearing mobile_rules o r)) h
deaf (basic o) p e h = ap (λ r. is_some (hearing basic_rules o r)) h
deaf (extended o) p e h = ap (λ r. is_some (hearing extended_rules o r)) h

all_deaf :
    (ds : List Decoder) (p : List ℕ) (e : Refusal)
    → packet_read p ≡ Err e
    → some_hears ds p ≡ false
all_deaf [] p e h = refl
all_deaf (d ∷ ds) p e h = ap₂ (λ a b. a || b) (deaf d p e h) (all_deaf ds p e h)

-- ---- one record more

noted_heard :
    (t : Taken) (o : ℕ) (r : Told) (some : Bool)
    → ((e : Refusal) → r ≡ Err e → some ≡ false)
    → (noted t o (outcome r some)).heard ≡ t.heard + one_if some
noted_heard t o (Ok p) true f = refl
noted_heard t o (Ok p) false f = omega arith
noted_heard t o (Err e) true f = absurd (true≢false (f e refl))
noted_heard t o (Err e) false f = omega arith

noted_unheard :
    (t : Taken) (o : ℕ) (r : Told) (some : Bool)
    → (noted t o (outcome r some)).unheard ≡ t.unheard + one_if (is_ok r && not some)
noted_unheard t o (Ok p) true = omega arith
noted_unheard t o (Ok p) false = refl
noted_unheard t o (Err e) some = omega arith

counted_heard :
    (t : Taken) (ds : List Decoder) (o : ℕ) (x : Thing)
    → (counted t ds o x).heard ≡ t.heard + one_if (some_met ds x)
counted_heard t ds o fill = let e = ap one_if (no_fill ds) in omega (arith, e)
counted_heard t ds o power_up = let e = ap one_if (no_power_up ds) in omega (arith, e)
counted_heard t ds o (packet p) =
    let e = ap one_if (a_packet ds p) in
    omega (arith, e, noted_heard t o (packet_read p) (some_hears ds p) (all_deaf ds p))

counted_unheard :
    (t : Taken) (ds : List Decoder) (o : ℕ) (x : Thing)
    → (counted t ds o x).unheard
    ≡ t.unheard + one_if (is_accepted (Some (o, x)) && not (some_met ds x))
counted_unheard t ds o fill = omega arith
counted_unheard t ds o power_up = omega arith
counted_unheard t ds o (packet p) =
    let e = ap (λ b. one_if (is_ok (packet_read p) && not b)) (a_packet ds p) in
    omega (arith, e, noted_unheard t o (packet_read p) (some_hears ds p))

-- ---- all records

pub counts_heard :
    (t : Taken) (ds : List Decoder) (rs : Records)
    → (counts t ds rs).heard ≡ t.heard + heard_among ds rs
counts_heard t ds [] = omega arith
counts_heard t ds (r ∷ rs) =
    let now = map (met r.1) ds in
    let here = ap one_if (some_first ds r rs) in
    let next = some_next ds r rs in
    let more = count-first (some_has ds (r ∷ rs)) (some_has now rs) next (length rs) in
    let later = counts_heard (counted t ds r.0 r.1) now rs in
    omega (arith, here, more, counted_heard t ds r.0 r.1, later)

-- a record that is accepted where no decoder hears it
abbrev left : List Decoder → Records → ℕ → Bool
left ds rs k = is_accepted (slice_get rs k) && not (some_has ds rs k)

pub counts_unheard :
    (t : Taken) (ds : List Decoder) (rs : Records)
    → (counts t ds rs).unheard ≡ t.unheard + unheard_among ds rs
counts_unheard t ds [] = omega arith
counts_unheard t ds (r ∷ rs) =
    let now = map (met r.1) ds in
    let here = ap (λ b. one_if (is_accepted (Some r) && not b)) (some_first ds r rs) in
    let next = λ (k : ℕ). ap (λ b. is_accepted (slice_get rs k) && not b) (some_next ds r rs k) in
    let more = count-first (left ds (r ∷ rs)) (left now rs) next (length rs) in
    let later = counts_unheard (counted t ds r.0 r.1) now rs in
    omega (arith, here, more, counted_unheard t ds r.0 r.1, later)

-- What the calls of `next` give, one after the other.
use Rattle.std.proofs.Common.{◌≡◌, ℕ, ◌<◌, ◌≤◌, List, [], ◌∷◌, length, map, Some, None, Ok, Err, Option, Result, Bor, sym, refl, ap, ap₂, ◌∙◌, subst, arith}
use Rattle.std.proofs.lemmas.Iterator.Consumers.{YieldsList-from_shown}
use Rattle.std.proofs.lemmas.List.{length-map}
use Rattle.std.specs.Iterator.{AlwaysYields}
use Rattle.fault.specs.declared.fault.Fault.{Fault}
use Rattle.block.specs.declared.records.Carried.{Carried}
use Rattle.block.specs.declared.records.Record.{Record}
use Rattle.block.specs.declared.records.Record.TheVariants.{Fill, PowerUp, Packet}
use Rattle.block.specs.declared.walk.Walk.{Walk}
use Rattle.block.specs.Contents.{Thing, Placed, record_at, ends_at, found, placed_in, thing_in, LiesIn}
use Rattle.block.specs.Contents.Thing.{fill, power_up, packet}
use Rattle.block.specs.Reading.{reading_from}
use Rattle.block.specs.Reading.Reading.{done, broken}
use Rattle.block.specs.Walking.{walked, stands_at, item_of, item_in, given_in, afterwards, GivenIn, Advances, item_at, items_of, record_as, item_as}
use Rattle.block.proofs.Shapes.{Told, told, told_as, later, ends_inside}
use Rattle.block.proofs.Steps.{passing, onward, reads, reads_as, reads_end}

-- ---- one call

as_found : Option (Result Placed Fault) → Result (Option Placed) Fault
as_found None = Ok None
as_found (Some (Ok p)) = Ok (Some p)
as_found (Some (Err e)) = Err e

as_found_lem : (r : Result (Option Placed) Fault) → as_found (item_of r) ≡ r
unfolding as_found
as_found_lem (Ok None) = refl
as_found_lem (Ok (Some p)) = refl
as_found_lem (Err e) = refl

-- the record c at o of the block b was given, and t is behind it
pub record Turn (b : List ℕ) (o : ℕ) (t : Walk) (c : Carried) : Type 0 where
  pub over : walked t ≡ b
  pub at : stands_at t ≡ c.next
  pub reads : reading_from b o ≡ passing b o (thing_in c.«record») c.next
  pub past : o < c.next
  pub inside : c.next ≤ length b

-- at s, which stands at o of the block b
module _ (b : List ℕ) (o : ℕ) (s t : Walk) (over : walked s ≡ b) (at : stands_at s ≡ o) where
  here : record_at (walked s) (stands_at s) ≡ record_at b o
  here = ap (λ l. record_at l (stands_at s)) over ∙ ap (record_at b) at

  found_by : (r : Option (Result Carried Fault)) → Advances s r t → as_found (given_in r) ≡ record_at b o
  found_by r a = ap as_found a.item ∙ as_found_lem (record_at (walked s) (stands_at s)) ∙ here

  pub found_none : Advances s None t → found (Ok None) ≡ record_at b o
  unfolding as_found
  found_none a = found_by None a

  pub found_fault : (e : Fault) → Advances s (Some (Err e)) t → found (Err e) ≡ record_at b o
  unfolding as_found
  found_fault e a = found_by (Some (Err e)) a

  pub found_record : (c : Carried) → Advances s (Some (Ok c)) t → found (Ok (Some c)) ≡ record_at b o
  unfolding as_found
  found_record c a = found_by (Some (Ok c)) a

  pub moves_on : (c : Carried) → Advances s (Some (Ok c)) t → stands_at t ≡ c.next
  moves_on c a = a.moves ∙ ap (afterwards (length (walked s)) (stands_at s)) (here ∙ sym (found_record c a))

  -- what that says of the reading from o on
  pub turn_none : Advances s None t → (reading_from b o ≡ done) × (length b ≤ o)
  turn_none a = (reads_as b o (Ok None) (found_none a), told_as b o (Ok None) (found_none a))

  pub turn_fault : (x : Result Carried Fault) (f : Fault) → x ≡ Err f → Advances s (Some x) t → reading_from b o ≡ broken o f
  turn_fault x f is a = reads_as b o (Err f) (found_fault f (subst (λ y. Advances s (Some y) t) is a))

  pub turn : (x : Result Carried Fault) (c : Carried) → x ≡ Ok c → Advances s (Some x) t → Turn b o t c
  turn x c is a =
      let d : Advances s (Some (Ok c)) t = subst (λ y. Advances s (Some y) t) is a in
      let e = found_record c d in
      let f = told_as b o (found (Ok (Some c))) e in
      record { over = d.same ∙ over; at = moves_on c d; reads = reads_as b o (found (Ok (Some c))) e; past = later b o (placed_in c) f; inside = ends_inside b o (placed_in c) f }

-- ---- all calls

-- the items from o on
abbrev items_from : List ℕ → ℕ → List (Result Placed Fault)
items_from b o = items_of b (reading_from b o)

-- those at a place where `record_at` says r
abbrev items_by : List ℕ → Result (Option Placed) Fault → List (Result Placed Fault)
items_by b (Ok None) = []
items_by b (Ok (Some p)) = Ok p ∷ items_from b p.up_to
items_by b (Err e) = Err e ∷ items_from b (length b)

items_end : (b : List ℕ) (o : ℕ) → length b ≤ o → items_from b o ≡ []
items_end b o h = ap (items_of b) (reads_end b o h)

items_found : (b : List ℕ) (o : ℕ) (t : Thing) → items_of b (passing b o t (ends_at b o t)) ≡ item_at b o t ∷ items_from b (ends_at b o t)
items_found b o fill = ap (λ l. item_at b o fill ∷ l) (sym (items_end b (length b) (omega arith)))
items_found b o power_up = refl
items_found b o (packet p) = refl

items_by_lem : (b : List ℕ) (o : ℕ) (r : Result (Option Placed) Fault) → Told b o r → items_of b (onward b o r) ≡ items_by b r
items_by_lem b o (Ok None) h = refl
items_by_lem b o (Ok (Some p)) h =
    ap (λ (q : Placed). items_of b (passing b o q.thing q.up_to)) h.is ∙ items_found b o p.thing ∙ sym (ap (λ (q : Placed). items_by b (Ok (Some q))) h.is)
items_by_lem b o (Err e) h = ap (λ l. Err e ∷ l) (sym (items_end b (length b) (omega arith)))

items_on : (b : List ℕ) (o : ℕ) → items_from b o ≡ items_by b (record_at b o)
items_on b o = ap (items_of b) (reads b o) ∙ items_by_lem b o (record_at b o) (told b o)

-- the items to come of a walk
abbrev pub items_left : Walk → List (Result Placed Fault)
items_left s = items_from (walked s) (stands_at s)

-- by what a call at s gives
items_given : (s t : Walk) (r : Option (Result Carried Fault)) → Advances s r t → items_left s ≡ items_by (walked s) (as_found (given_in r))
items_given s t r a = items_on (walked s) (stands_at s) ∙ ap (items_by (walked s)) (sym (found_by (walked s) (stands_at s) s t refl refl r a))

items_after : (s t : Walk) (r : Option (Result Carried Fault)) → Advances s r t → items_left t ≡ items_from (walked s) (afterwards (length (walked s)) (stands_at s) (as_found (given_in r)))
items_after s t r a =
    ap (λ b. items_from b (stands_at t)) a.same ∙ ap (items_from (walked s)) (a.moves ∙ ap (afterwards (length (walked s)) (stands_at s)) (sym (found_by (walked s) (stands_at s) s t refl refl r a)))

none_left : (s t : Walk) → Advances s None t → length (items_left s) ≡ 0
unfolding as_found
none_left s t a = ap length (items_given s t None a)

one_fewer : (s : Walk) (x : Result Carried Fault) (t : Walk) → Advances s (Some x) t → items_left s ≡ item_in x ∷ items_left t
unfolding as_found
one_fewer s (Ok c) t a = items_given s t (Some (Ok c)) a ∙ ap (λ l. Ok (placed_in c) ∷ l) (sym (items_after s t (Some (Ok c)) a))
one_fewer s (Err e) t a = items_given s t (Some (Err e)) a ∙ ap (λ l. Err e ∷ l) (sym (items_after s t (Some (Err e)) a))

-- ---- the same items as references into the block

record_back :
    (b : Bor (List ℕ)) (o : ℕ) (r : Record) → LiesIn b o r → record_as b o (thing_in r) ≡ r
record_back b o Fill h = refl
record_back b o PowerUp h = refl
record_back b o (Packet p) h = ap Packet (sym h)

item_back :
    (b : Bor (List ℕ)) (x : Result Carried Fault) → GivenIn b (Some x) → item_as b (item_in x) ≡ x
item_back b (Ok c) h =
    ap (λ (r : Record). Ok (record c { «record» = r })) (record_back b c.offset c.«record» h)
item_back b (Err e) h = refl

-- the walk stays on the same memory
still_lent : (s t : Walk) (r : Option (Result Carried Fault)) → Advances s r t → t.block ≡ s.block
still_lent s t r a =
    let lent : ℕ × ℕ → List ℕ → Bor (List ℕ) = λ p b. record { ref_ptr = p; now = b } in
    ap₂ lent a.lies a.same

abbrev lent_left : Walk → List (Result Carried Fault)
lent_left s = map (item_as s.block) (items_left s)

none_lent : (s t : Walk) → Advances s None t → length (lent_left s) ≡ 0
none_lent s t a = length-map (items_left s) (item_as s.block) ∙ none_left s t a

one_lent :
    (s : Walk) (x : Result Carried Fault) (t : Walk)
    → Advances s (Some x) t
    → lent_left s ≡ x ∷ lent_left t
one_lent s x t a =
    ap (map (item_as s.block)) (one_fewer s x t a)
    ∙ ap (λ y. y ∷ map (item_as s.block) (items_left t)) (item_back s.block x a.within)
    ∙ ap (λ b. x ∷ map (item_as b) (items_left t)) (sym (still_lent s t (Some x) a))

pub lends_left : (s : Walk) → AlwaysYields Advances (λ x. x) s (lent_left s)
lends_left s = (YieldsList-from_shown Advances (λ x. x) lent_left none_lent one_lent s).runs

-- What a record or a fault at one place tells of the bytes there.
use Rattle.std.proofs.Common.{◌≡◌, ℕ, ◌+◌, ◌<◌, ◌≤◌, false, eqb, ltb, leb, ◌⊎◌, List, length, get_or, take, drop, Some, None, Ok, Err, Option, Result, sym, refl, ap, subst, inl, inr, ⊎_elim, arith, length-drop}
use Rattle.std.proofs.lemmas.List.{length-take-le}
use Rattle.std.proofs.lemmas.Bool.{cond_both, eqb-true, eqb-false, ltb-true, ltb-false, leb-true, leb-false, and_parts, and_cases}
use Rattle.fault.specs.declared.fault.Fault.{Fault}
use Rattle.fault.specs.declared.refusal.Refusal.TheVariants.{UnknownKind, BodyCutOff, NonzeroFill}
use Rattle.fault.specs.Places.{fault_at}
use Rattle.block.specs.Contents.{Thing, Placed, first_nonzero, fill_unless, thing_of, placed, ends_at, record_at, kind_is_packet}
use Rattle.block.specs.Contents.Thing.{fill, power_up, packet}

pub record Whole (k : ℕ) (xs p : List ℕ) : Type 0 where
  pub kind : k ≡ length p
  pub body : p ≡ take (length p) xs
  pub low : 3 ≤ length p
  pub high : length p ≤ 6
  pub inside : length p ≤ length xs

pub record NoKind (o k : ℕ) (e : Fault) : Type 0 where
  pub is : e ≡ fault_at UnknownKind o
  pub not_fill : k ≡ 0 → ⊥
  pub not_power_up : k ≡ 16 → ⊥
  pub not_packet : (k < 3) ⊎ (6 < k)

pub record Short (o k : ℕ) (xs : List ℕ) (e : Fault) : Type 0 where
  pub is : e ≡ fault_at BodyCutOff o
  pub low : 3 ≤ k
  pub high : k ≤ 6
  pub short : length xs < k

pub record Spoilt (o k : ℕ) (xs : List ℕ) (e : Fault) : Type 0 where
  pub zero : k ≡ 0
  pub at : ℕ
  pub first : first_nonzero (o + 1) xs ≡ Some at
  pub is : e ≡ fault_at NonzeroFill at

-- by what stands at o, the kind byte k with xs behind it
abbrev pub Shape : ℕ → ℕ → List ℕ → Result Thing Fault → Type 0
Shape o k xs (Ok fill) = (k ≡ 0) × (first_nonzero (o + 1) xs ≡ None)
Shape o k xs (Ok power_up) = k ≡ 16
Shape o k xs (Ok (packet p)) = Whole k xs p
Shape o k xs (Err e) = NoKind o k e ⊎ (Short o k xs e ⊎ Spoilt o k xs e)

shape_fill : (o k : ℕ) (xs : List ℕ) (f : Option ℕ) → first_nonzero (o + 1) xs ≡ f → k ≡ 0 → Shape o k xs (fill_unless f)
shape_fill o k xs None e h = (h, e)
shape_fill o k xs (Some at) e h = inr (inr (record { zero = h; at = at; first = e; is = refl }))

whole : (k : ℕ) (xs : List ℕ) → 3 ≤ k → k ≤ 6 → k ≤ length xs → Whole k xs (take k xs)
whole k xs low high inside =
    let e : length (take k xs) ≡ k = length-take-le k xs inside in
    record { kind = sym e; body = ap (λ n. take n xs) (sym e); low = omega arith; high = omega arith; inside = omega arith }

not_packet_lem : (k : ℕ) → kind_is_packet k ≡ false → (k < 3) ⊎ (6 < k)
not_packet_lem k e = ⊎_elim (λ l. inl (leb-false 3 k l)) (λ h. inr (leb-false k 6 h)) (and_cases (leb 3 k) (leb k 6) e)

pub shape : (o k : ℕ) (xs : List ℕ) → Shape o k xs (thing_of o k xs)
shape o k xs =
    cond_both (eqb k 0) _ _ (Shape o k xs) (λ z. shape_fill o k xs (first_nonzero (o + 1) xs) refl (eqb-true k 0 z)) (λ nz.
    cond_both (eqb k 16) _ _ (Shape o k xs) (λ u. eqb-true k 16 u) (λ nu.
    cond_both (kind_is_packet k) _ _ (Shape o k xs)
    (λ p. let low : 3 ≤ k = leb-true 3 k (and_parts (leb 3 k) (leb k 6) p).0 in
    let high : k ≤ 6 = leb-true k 6 (and_parts (leb 3 k) (leb k 6) p).1 in
    cond_both (ltb (length xs) k) _ _ (Shape o k xs) (λ s. inr (inl (record { is = refl; low = low; high = high; short = ltb-true (length xs) k s }))) (λ w. whole k xs low high (ltb-false (length xs) k w)))
    (λ np. inl (record { is = refl; not_fill = eqb-false k 0 nz; not_power_up = eqb-false k 16 nu; not_packet = not_packet_lem k np }))))

-- of the record that `record_at` says
pub record Found (b : List ℕ) (o : ℕ) (p : Placed) : Type 0 where
  pub inside : o < length b
  pub is : p ≡ record { from = o; thing = p.thing; up_to = ends_at b o p.thing }
  pub shaped : Shape o (get_or b o 0) (drop (o + 1) b) (Ok p.thing)

abbrev pub Told : List ℕ → ℕ → Result (Option Placed) Fault → Type 0
Told b o (Ok None) = length b ≤ o
Told b o (Ok (Some p)) = Found b o p
Told b o (Err e) = o < length b

placed-told : (b : List ℕ) (o : ℕ) (r : Result Thing Fault) → o < length b → Shape o (get_or b o 0) (drop (o + 1) b) r → Told b o (placed b o r)
placed-told b o (Ok t) lt h = record { inside = lt; is = refl; shaped = h }
placed-told b o (Err e) lt h = lt

pub told : (b : List ℕ) (o : ℕ) → Told b o (record_at b o)
told b o =
    cond_both (ltb o (length b)) _ _ (Told b o)
    (λ lt. placed-told b o (thing_of o (get_or b o 0) (drop (o + 1) b)) (ltb-true o (length b) lt) (shape o (get_or b o 0) (drop (o + 1) b)))
    (λ past. ltb-false o (length b) past)

-- where r is what `record_at` found there
pub told_as : (b : List ℕ) (o : ℕ) (r : Result (Option Placed) Fault) → r ≡ record_at b o → Told b o r
told_as b o r e = subst (Told b o) (sym e) (told b o)

-- the next record begins later
pub later : (b : List ℕ) (o : ℕ) (p : Placed) → Found b o p → o < p.up_to
later b o p f = subst (λ n. o < n) (sym (ap (λ (q : Placed). q.up_to) f.is)) (past p.thing)
  where
    past : (t : Thing) → o < ends_at b o t
    past fill = f.inside
    past power_up = omega arith
    past (packet q) = omega arith

-- and within the block or at its end
pub ends_inside : (b : List ℕ) (o : ℕ) (p : Placed) → Found b o p → p.up_to ≤ length b
ends_inside b o p f = subst (λ n. n ≤ length b) (sym (ap (λ (q : Placed). q.up_to) f.is)) (ends p.thing f.shaped)
  where
    ends : (t : Thing) → Shape o (get_or b o 0) (drop (o + 1) b) (Ok t) → ends_at b o t ≤ length b
    ends fill h = omega arith
    ends power_up h = let lt = f.inside in omega arith
    ends (packet q) h = let lt = f.inside in omega (arith, h.inside, length-drop (o + 1) b)

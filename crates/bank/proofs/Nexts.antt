-- Going from one slot of a kind to the next.
use Rattle.std.proofs.Common.{◌≡◌, ℕ, ◌+◌, ◌-◌, ◌<◌, ◌≤◌, Bool, true, false, List, [], ◌∷◌, length, get_or, drop, Some, None, Option, option_map, refl, sym, ap, ◌∙◌, subst, arith, length-drop, get_or-drop}
use Rattle.std.specs.Prelude.{MatchOption}
use Rattle.std.specs.List.{AllWithin, HoldsAt}
use Rattle.std.specs.Iterator.{Yields}
use Rattle.bank.specs.declared.kind.Kind.{Kind}
use Rattle.bank.specs.declared.kind.Kind.TheVariants.{Mobile}
use Rattle.bank.specs.declared.slots.SlotsOf.{SlotsOf}
use Rattle.bank.specs.Kinds.{same_kind, is_kind, count_below, SlotOf}
use Rattle.bank.specs.Slots.{NextOf, Advances}
use Rattle.bank.proofs.Counts.{count_none, count_hit, count_skip}

-- the first of the kinds behind a place, as the next slot
module _ (kinds : List Kind) (kind : Kind) (from : ℕ) (l : from ≤ length kinds) where
  abbrev rest : List Kind
  rest = drop from kinds

  abbrev Is : Bool → Kind → Type 0
  Is b k = b ≡ same_kind kind k

  at : (k : ℕ) → is_kind kinds kind (from + k) ≡ same_kind kind (get_or rest k Mobile)
  unfolding is_kind
  at k = ap (same_kind kind) (sym (get_or-drop from kinds k Mobile))

  others : (n : ℕ) → from + n ≤ length kinds → AllWithin (Is false) rest 0 n → count_below (is_kind kinds kind) (from + n) ≡ count_below (is_kind kinds kind) from
  others n m a = count_skip (is_kind kinds kind) from (from + n) (omega arith) (λ k low high. let e : k ≡ from + (k - from) = omega arith in ap (is_kind kinds kind) e ∙ at (k - from) ∙ sym (a (k - from) Mobile (omega arith) (omega arith)))

  pub next_of :
      (r : Option ℕ)
      → MatchOption r (AllWithin (Is false) rest 0 (length rest)) (λ i. (i < length rest) × HoldsAt (Is true) rest i × AllWithin (Is false) rest 0 i)
      → NextOf (is_kind kinds kind) (length kinds) from (option_map (λ k. from + k) r)
  next_of None a =
      let d = length-drop from kinds in
      let e : from + length rest ≡ length kinds = omega arith in
      subst (λ n. count_below (is_kind kinds kind) n ≡ count_below (is_kind kinds kind) from) e (others (length rest) (omega arith) a)
  next_of (Some i) a =
      let d = length-drop from kinds in
      (omega arith, omega (arith, a.0), at i ∙ sym (a.1 Mobile), others i (omega (arith, a.0)) a.2)

-- what a call gives, by the kind and the kinds
pub next_in : {kind : Kind} {kinds : List Kind} {s t : SlotsOf} {r : Option ℕ} → s.kind ≡ kind → s.kinds.now ≡ kinds → Advances s r t → NextOf (is_kind kinds kind) (length kinds) s.from r
next_in {kind} {kinds} {s} {t} {r} k ks a =
    subst (λ ks. NextOf (is_kind ks kind) (length ks) s.from r) ks (subst (λ k. NextOf (is_kind s.kinds.now k) (length s.kinds.now) s.from r) k a.next)

-- several calls: the slots so far are counted
pub record Ran (s : SlotsOf) (xs : List ℕ) (t : SlotsOf) : Type 0 where
  pub kind : t.kind ≡ s.kind
  pub kinds : t.kinds.now ≡ s.kinds.now
  pub counted : count_below (is_kind s.kinds.now s.kind) t.from ≡ count_below (is_kind s.kinds.now s.kind) s.from + length xs

pub ran : (xs : List ℕ) (s t : SlotsOf) → Yields Advances s xs t → Ran s xs t
ran [] s t y = subst (λ t. Ran s [] t) y (record { kind = refl; kinds = refl; counted = omega arith })
ran (x ∷ xs) s t y =
    let u = y.0 in
    let a = y.1 in
    let r = ran xs u t y.2 in
    let h = is_kind s.kinds.now s.kind in
    let g : is_kind u.kinds.now u.kind ≡ h = ap (λ ks. is_kind ks u.kind) a.kinds ∙ ap (is_kind s.kinds.now) a.kind in
    let c : count_below h t.from ≡ count_below h u.from + length xs = subst (λ h. count_below h t.from ≡ count_below h u.from + length xs) g r.counted in
    let m : count_below h u.from ≡ count_below h (x + 1) = ap (count_below h) a.moves in
    record {
      kind = r.kind ∙ a.kind;
      kinds = r.kinds ∙ a.kinds;
      counted = omega (arith, c, m, count_hit h x a.next.2, a.next.3);
    }

-- where a new walk has come to, and what it gives then
module _ (kind : Kind) (kinds : List Kind) (s : SlotsOf) (of-kind : s.kind ≡ kind) (of-kinds : s.kinds.now ≡ kinds) (new : s.from ≡ 0) (xs : List ℕ) (t : SlotsOf) (y : Yields Advances s xs t) where
  abbrev h : ℕ → Bool
  h = is_kind kinds kind

  so_far : count_below h t.from ≡ length xs
  so_far =
      let r = ran xs s t y in
      let g : is_kind s.kinds.now s.kind ≡ h = ap (λ ks. is_kind ks s.kind) of-kinds ∙ ap (is_kind kinds) of-kind in
      let c : count_below h t.from ≡ count_below h s.from + length xs = subst (λ h. count_below h t.from ≡ count_below h s.from + length xs) g r.counted in
      let z : count_below h s.from ≡ 0 = ap (count_below h) new ∙ count_none h in
      omega arith

  here : (r : Option ℕ) (u : SlotsOf) → Advances t r u → NextOf h (length kinds) t.from r
  here r u a = let b = ran xs s t y in next_in (b.kind ∙ of-kind) (b.kinds ∙ of-kinds) a

  pub nth_slot : (r : Option ℕ) (u : SlotsOf) (n : ℕ) → Advances t r u → MatchOption r (length xs ≤ n) (λ _. length xs ≡ n) → SlotOf h (length kinds) n r
  nth_slot None u n a m = let e = here None u a in omega (arith, e, so_far, m)
  nth_slot (Some s) u n a m = let e = here (Some s) u a in (e.1, e.2, e.3 ∙ so_far ∙ m)

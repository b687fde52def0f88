-- What stands in a variable is what the last setting or write pair gave it, for every kind whose rules are lawful.
use Rattle.std.proofs.Common.{◌≡◌, ℕ, ◌-◌, ◌≤◌, Bool, true, false, cond, not, ◌&&◌, ◌≢◌, ◌⊎◌, List, [], ◌∷◌, reverse, length, set, Some, None, Ok, Err, Option, sym, refl, ap, ◌∙◌, inl, inr, ⊎_elim, arith, length-set, get_or-set_other, get_or-set_same}
use mathlib.Core.List.{reverse_aux}
use Rattle.std.proofs.lemmas.Bool.Decides.{nat_tests}
use Rattle.std.proofs.lemmas.Slice.Eq.{bytes_eq-Decides}
use Rattle.packet.specs.declared.instruction.Instruction.{Instruction}
use Rattle.packet.specs.declared.packet.Packet.{Packet}
use Rattle.packet.specs.declared.target.Target.{Target}
use Rattle.format.specs.Reading.{Told, packet_read}
use Rattle.state.specs.declared.waiting.WaitingWrite.{WaitingWrite}
use Rattle.state.specs.Bits.{bit_of}
use Rattle.state.specs.Packing.{packed, matches}
use Rattle.decoder.specs.declared.role.Role.{Role}
use Rattle.decoder.specs.Accesses.{access_of, writes_in, waits_after}
use Rattle.decoder.specs.Alone.{Own, Rules, Event, variable, in_role, hearing, obeyed, life}
use Rattle.decoder.specs.Alone.Event.{heard, powered, setting}
use Rattle.decoder.specs.Persistence.{Ordinary, names, or_else, is_that, as_write, pair_gives, lived, last_write, given, Persists}
use Rattle.decoder.proofs.Same.{packed_same}

-- what the rules of a kind have to keep
pub record Lawful {X : Type 0} (m : Rules X) (exceptions : List ℕ) : Type 0 where
  pub size : (o : Own X) (r : Role) (bs : List ℕ) (i : Instruction) → length (m.obeys o r bs i).vars ≡ length o.vars
  pub waits : (o : Own X) (r : Role) (bs : List ℕ) (i : Instruction) → m.waiting (m.obeys o r bs i).rec ≡ waits_after (m.waiting o.rec) r (packed bs) i
  pub starts : (x : X) → m.waiting (m.starts x) ≡ None
  pub unwaits : (x : X) → m.waiting (m.unwaits x) ≡ None
  -- only the repetition of a write changes an ordinary variable, and as it says
  pub writes :
      (o : Own X) (t : Target) (r : Role) (bs : List ℕ) (i : Instruction) (n b : ℕ)
      → m.hears o t ≡ Some r
      → length o.vars ≡ 1024
      → Ordinary exceptions n
      → bit_of (variable (m.obeys o r bs i).vars n) b
      ≡ or_else (cond (writes_in r i && matches (m.waiting o.rec) (packed bs)) (names n b (access_of i)) None) (bit_of (variable o.vars n) b)

-- bit b of variable n
abbrev pub bit : ℕ → ℕ → List ℕ → Bool
bit n b vars = bit_of (variable vars n) b

-- where a byte is put into that variable, or into another one
module _ {exceptions : List ℕ} (n b : ℕ) (free : Ordinary exceptions n) where
  pub put_same : (vars : List ℕ) (k x : ℕ) → length vars ≡ 1024 → k ≡ n → bit n b (set vars (k - 1) x) ≡ bit_of x b
  put_same vars k x l e = rw e (ap (λ y. bit_of y b) (get_or-set_same vars (n - 1) x 0 (omega (arith, free.least, free.most))))

  pub put_other : (vars : List ℕ) (k x : ℕ) → 1 ≤ k → n ≢ k → bit n b (set vars (k - 1) x) ≡ bit n b vars
  put_other vars k x h ne = ap (λ y. bit_of y b) (get_or-set_other vars (k - 1) (n - 1) x 0 (omega (arith, free.least)))

-- a packet that reads has at most six bytes
short_packet : (bs : List ℕ) (p : Packet) → packet_read bs ≡ Ok p → length bs ≤ 6
short_packet bs p e = grind (arith, nat_tests)

packed_option : Option (List ℕ) → Option WaitingWrite
packed_option None = None
packed_option (Some cs) = Some (packed cs)

module _ {X : Type 0} (m : Rules X) (exceptions : List ℕ) (ok : Lawful m exceptions) (n b : ℕ) (free : Ordinary exceptions n) where
  -- what the packet names stands so already
  Done : List ℕ → List ℕ → Type 0
  Done vars cs = (p : Packet) → packet_read cs ≡ Ok p → or_else (names n b (access_of p.instruction)) (bit n b vars) ≡ bit n b vars

  -- the latest write waits, or it is done; it has at most six bytes
  record Knows (q : Option (List ℕ)) (waiting : Option WaitingWrite) (vars : List ℕ) : Type 0 where
    or : (waiting ≡ packed_option q) ⊎ ((waiting ≡ None) × ((cs : List ℕ) → q ≡ Some cs → Done vars cs))
    short : (cs : List ℕ) → q ≡ Some cs → length cs ≤ 6

  record Step (s : Own X) (to : Own X) (after : Option (List ℕ)) (gave : Option Bool) : Type 0 where
    value : bit n b to.vars ≡ or_else gave (bit n b s.vars)
    knows : Knows after (m.waiting to.rec) to.vars
    size : length to.vars ≡ 1024

  nothing_knows : (w : Option WaitingWrite) (vars : List ℕ) → w ≡ None → Knows None w vars
  unfolding packed_option
  nothing_knows w vars e = record { or = inl e; short = λ cs f. let z : ◌≡◌ {A = ℕ} 0 1 = cc in absurd (omega arith) }

  twice : (x : Option Bool) (y : Bool) → or_else x (or_else x y) ≡ or_else x y
  twice None y = refl
  twice (Some x) y = refl

  -- what waits is the latest write
  that : (q : Option (List ℕ)) (bs : List ℕ) → ((cs : List ℕ) → q ≡ Some cs → length cs ≤ 6) → length bs ≤ 6 → matches (packed_option q) (packed bs) ≡ is_that q bs
  unfolding packed_option
  that None bs short l = refl
  that (Some cs) bs short l = packed_same cs bs (short cs refl) l

  is_that_lem : (q : Option (List ℕ)) (bs : List ℕ) → is_that q bs ≡ true → q ≡ Some bs
  is_that_lem None bs e = let z : ◌≡◌ {A = Bool} false true = e in grind arith
  is_that_lem (Some cs) bs e = ap Some ((bytes_eq-Decides cs bs).0 e)

  module _ (s : Own X) (q : Option (List ℕ)) (l : length s.vars ≡ 1024) (k : Knows q (m.waiting s.rec) s.vars) (bs : List ℕ) (p : Packet) (e : packet_read bs ≡ Ok p) (r : Role) (in-r : m.hears s p.target ≡ Some r) where
    abbrev i : Instruction
    i = p.instruction

    abbrev after : Own X
    after = m.obeys s r bs i

    abbrev N : Option Bool
    N = names n b (access_of i)

    -- the pair is told by the packets as by what waits
    told : (w t : Bool) → is_that q bs ≡ t → or_else (cond (w && matches (m.waiting s.rec) (packed bs)) N None) (bit n b s.vars) ≡ or_else (cond (w && t) N None) (bit n b s.vars)
    unfolding Done
    told false t f = refl
    told true t f = ⊎_elim waits done k.or
      where
        waits : m.waiting s.rec ≡ packed_option q → or_else (cond (matches (m.waiting s.rec) (packed bs)) N None) (bit n b s.vars) ≡ or_else (cond t N None) (bit n b s.vars)
        waits w = ap (λ x. or_else (cond x N None) (bit n b s.vars)) (ap (λ x. matches x (packed bs)) w ∙ that q bs k.short (short_packet bs p e) ∙ f)

        settled : (t : Bool) → is_that q bs ≡ t → ((cs : List ℕ) → q ≡ Some cs → Done s.vars cs) → bit n b s.vars ≡ or_else (cond t N None) (bit n b s.vars)
        settled true g d = sym (d bs (is_that_lem q bs g) p e)
        settled false g d = refl

        done : (m.waiting s.rec ≡ None) × ((cs : List ℕ) → q ≡ Some cs → Done s.vars cs) → or_else (cond (matches (m.waiting s.rec) (packed bs)) N None) (bit n b s.vars) ≡ or_else (cond t N None) (bit n b s.vars)
        done d = ap (λ x. or_else (cond (matches x (packed bs)) N None) (bit n b s.vars)) d.0 ∙ settled t f d.1

    knew : (w c : Bool) → writes_in r i ≡ w → matches (m.waiting s.rec) (packed bs) ≡ c → Knows (cond w (Some bs) None) (cond (w && not c) (Some (packed bs)) None) after.vars
    unfolding Done packed_option
    knew false c f g = nothing_knows None after.vars refl
    knew true false f g = record { or = inl here; short = λ cs h. let j : bs ≡ cs = cc in rw (sym j) (short_packet bs p e) }
      where
        here : Some (packed bs) ≡ packed_option (Some bs)
        here = refl
    knew true true f g = record { or = inr (refl, λ cs h. done cs h); short = λ cs h. let j : bs ≡ cs = cc in rw (sym j) (short_packet bs p e) }
      where
        value : bit n b after.vars ≡ or_else N (bit n b s.vars)
        value = ok.writes s p.target r bs i n b in-r l free ∙ ap (λ x. or_else (cond x N None) (bit n b s.vars)) (ap (λ x. x && matches (m.waiting s.rec) (packed bs)) f ∙ g)

        done : (cs : List ℕ) → Some bs ≡ Some cs → Done after.vars cs
        done cs h p' d =
            let j : bs ≡ cs = cc in
            let o : p ≡ p' = cc in
            let a : names n b (access_of p'.instruction) ≡ N = ap (λ (x : Packet). names n b (access_of x.instruction)) (sym o) in
            rw (a, value) (twice N (bit n b s.vars))

    heard_step : Step s after (as_write (Some (r, i)) bs q) (pair_gives n b (Some (r, i)) bs q)
    heard_step = record {
      value = ok.writes s p.target r bs i n b in-r l free ∙ told (writes_in r i) (is_that q bs) refl;
      knows = let h = knew (writes_in r i) (matches (m.waiting s.rec) (packed bs)) refl refl in rw (ok.waits s r bs i) h;
      size = ok.size s r bs i ∙ l;
    }

  module _ (s : Own X) (q : Option (List ℕ)) (l : length s.vars ≡ 1024) (k : Knows q (m.waiting s.rec) s.vars) (bs : List ℕ) where
    in_role_lem : (p : Packet) → packet_read bs ≡ Ok p → (r : Option Role) → m.hears s p.target ≡ r → Step s (obeyed m s bs (in_role m r p.instruction)) (as_write (in_role m r p.instruction) bs q) (pair_gives n b (in_role m r p.instruction) bs q)
    in_role_lem p e None h = record { value = refl; knows = k; size = l }
    in_role_lem p e (Some r) h = heard_step s q l k bs p e r h

    read_step : (t : Told) → packet_read bs ≡ t → Step s (obeyed m s bs (hearing m s t)) (as_write (hearing m s t) bs q) (pair_gives n b (hearing m s t) bs q)
    read_step (Err d) e = record { value = refl; knows = k; size = l }
    read_step (Ok p) e = in_role_lem p e (m.hears s p.target) refl

  module _ (o : Own X) (l : length o.vars ≡ 1024) (w : m.waiting o.rec ≡ None) where
    record Stands (past : List Event) : Type 0 where
      value : bit n b (lived m o past).vars ≡ given m o n b past
      knows : Knows (last_write m o past) (m.waiting (lived m o past).rec) (lived m o past).vars
      size : length (lived m o past).vars ≡ 1024

    stands : (past : List Event) → Stands past
    stands [] = record { value = refl; knows = nothing_knows _ _ w; size = l }
    stands (heard bs ∷ past) =
        let a = stands past in
        let h = read_step (lived m o past) (last_write m o past) a.size a.knows bs (packet_read bs) refl in
        record { value = h.value ∙ ap (or_else (pair_gives n b (hearing m (lived m o past) (packet_read bs)) bs (last_write m o past))) a.value; knows = h.knows; size = h.size }
    stands (powered ∷ past) = let a = stands past in record { value = a.value; knows = nothing_knows _ _ (ok.starts (lived m o past).rec); size = a.size }
    stands (setting cv x ∷ past) =
        let a = stands past in
        let here = put_same n b free (lived m o past).vars cv.number x a.size in
        let there = put_other n b free (lived m o past).vars cv.number x cv.least in
        let was = a.value in
        record { value = grind (arith, nat_tests); knows = nothing_knows _ _ (ok.unwaits (lived m o past).rec); size = length-set _ (cv.number - 1) x ∙ a.size }

life_lived : {X : Type 0} (m : Rules X) (o : Own X) (events past : List Event) → life m (lived m o past) events ≡ lived m o (reverse_aux events past)
life_lived m o [] past = refl
life_lived m o (e ∷ events) past = life_lived m o events (e ∷ past)

pub persists : {X : Type 0} (m : Rules X) (exceptions : List ℕ) → Lawful m exceptions → Persists m exceptions
persists m exceptions ok o events n b l w free =
    ap (λ s. bit_of (variable s.vars n) b) (life_lived m o events []) ∙ (stands m exceptions ok n b free o l w (reverse events)).value

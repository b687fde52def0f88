-- A bank in the middle of a delivery: the slots below i have had their turn.
use Rattle.std.proofs.Common.{◌≡◌, ℕ, ◌+◌, ◌-◌, ◌*◌, ◌/◌, ◌%◌, ◌<◌, ◌≤◌, Bool, true, ◌&&◌, ◌≢◌, List, ◌++◌, length, get_or, set, take, drop, sym, refl, ap, ◌∙◌, subst, ap₂, ⊎_elim, arith, length-set, length-append, length-drop, length-take-le, get_or-take, get_or-drop, get_or-set_other, get_or-set_same}
use Rattle.std.proofs.lemmas.Bool.{cases_eq, cases_lt}
use Rattle.std.proofs.lemmas.List.{get_or_default, get_or_append_left, get_or-append_right}
use Rattle.packet.specs.declared.target.Target.{Target}
use Rattle.decoder.specs.Alone.{Own, Rules, own}
use Rattle.bank.specs.Kinds.{count_below}
use Rattle.bank.specs.Windows.{window, Wrote}
use Rattle.bank.specs.Hearers.{is_heard}
use Rattle.bank.specs.Banks.{own_at, Turned, Kept, ChangedBelow, passes, hears_at}
use Rattle.bank.proofs.Windowed.{cell_of}
use Rattle.bank.proofs.Counts.{count_hit, count_less, count_mono, count_apart, count_skip, none_between, passes_at}

pub start_kept : {h : ℕ → Bool} {cells : List ℕ} → Kept h 0 cells cells
start_kept = record { size = refl; there = λ t n. refl }

module _ {h : ℕ → Bool} {cells cells' : List ℕ} {i : ℕ} (k : Kept h i cells cells') where
  pub hit_kept : {cells'' w : List ℕ} → h i ≡ true → Wrote cells' cells'' i w → Kept h (i + 1) cells cells''
  hit_kept e wrote = record {
    size = wrote.size ∙ k.size;
    there = λ t n. wrote.there t (λ q. n (omega arith) (rw q e)) ∙ k.there t (λ l. n (omega arith));
  }

  pub skip_kept : {s : ℕ} → i ≤ s → Kept h s cells cells'
  skip_kept l = record { size = k.size; there = λ t n. k.there t (λ m. n (omega arith)) }

  -- the window of the slot whose turn it is
  pub idle-window : window cells' i ≡ window cells i
  idle-window = k.there i (λ l. absurd (omega arith))

module _ {X : Type 0} {h : ℕ → Bool} {f : ℕ → Own X → Own X} {bank : List X} {cells : List ℕ} where
  pub start_turned : Turned h 0 f bank cells bank cells
  start_turned = record { len = refl; here = λ x s l. absurd (omega arith); beyond = λ x j l. refl }

  module _ {i : ℕ} {bank' : List X} {cells' : List ℕ} (u : Turned h i f bank cells bank' cells') where
    -- the slot i has its turn
    pub hit_turned : h i ≡ true → window cells' i ≡ window cells i → {y : X} {cells'' : List ℕ} {next : ℕ} (x : X) → next ≡ count_below h i → next < length bank' → x ≡ get_or bank' next x → y ≡ (f i (own x (window cells' i))).rec → Wrote cells' cells'' i (f i (own x (window cells' i))).vars → Turned h (i + 1) f bank cells (set bank' next y) cells''
    hit_turned e same {y} {cells''} {next} x₀ at room read rec wrote = record {
      len = length-set bank' next y ∙ u.len;
      here = λ x s l hs. ⊎_elim (λ q. subst (λ s. own_at h x (set bank' next y) cells'' s ≡ f s (own_at h x bank cells s)) (sym q) (now x)) (λ ne. before x s ne l hs) (cases_eq s i);
      beyond = λ x j l. let n = count_hit h i e in get_or-set_other bank' next j y x (λ q. omega arith) ∙ u.beyond x j (omega arith);
    }
      where
        now : (x : X) → own_at h x (set bank' next y) cells'' i ≡ f i (own_at h x bank cells i)
        now x =
            ap₂ own (ap (λ n. get_or (set bank' next y) n x) (sym at) ∙ get_or-set_same bank' next y x room ∙ rec) wrote.here
            ∙ ap (f i) (ap₂ own (read ∙ get_or_default bank' next x₀ x room ∙ ap (λ n. get_or bank' n x) at ∙ u.beyond x (count_below h i) (omega arith)) same)

        before : (x : X) (s : ℕ) → s ≢ i → s < i + 1 → h s ≡ true → own_at h x (set bank' next y) cells'' s ≡ f s (own_at h x bank cells s)
        before x s ne l hs =
            ap₂ own (get_or-set_other bank' next (count_below h s) y x (λ q. count_apart h s i ne hs e (q ∙ at))) (wrote.there s ne)
            ∙ u.here x s (omega arith) hs

    -- the slots from i on and below j are of other kinds
    pub skip_turned : {j : ℕ} → i ≤ j → count_below h j ≡ count_below h i → Turned h j f bank cells bank' cells'
    skip_turned {j} l e = record {
      len = u.len;
      here = λ x s m hs. u.here x s (⊎_elim (λ b. b) (λ b. let n = count_less h s j m hs in let o = count_mono h i s b in absurd (omega arith)) (cases_lt s i)) hs;
      beyond = λ x k m. u.beyond x k (omega arith);
    }

    -- whether the slot i hears is decided by what it was at first
    pub heard_at : (m : Rules X) (t : Target) {next : ℕ} (x : X) → h i ≡ true → window cells' i ≡ window cells i → next ≡ count_below h i → next < length bank' → x ≡ get_or bank' next x → hears_at m t h bank cells i ≡ is_heard m t (own x (window cells' i))
    unfolding hears_at
    heard_at m t {next} x e same at room read =
        ap (λ b. b && passes (λ y. is_heard m t (own y (window cells i))) bank (count_below h i)) e
        ∙ passes_at (λ y. is_heard m t (own y (window cells i))) bank (count_below h i) x (rw (← at, ← u.len) room)
        ∙ ap₂ (λ y w. is_heard m t (own y w)) (sym (read ∙ ap (λ n. get_or bank' n x) at ∙ u.beyond x (count_below h i) (omega arith))) (sym same)

  module _ {n : ℕ} {bank' : List X} {cells' : List ℕ} (u : Turned h n f bank cells bank' cells') where
    -- windows of other kinds change after it, or before it
    pub after_turned : {cells'' : List ℕ} → ((s : ℕ) → s < n → h s ≡ true → window cells'' s ≡ window cells' s) → Turned h n f bank cells bank' cells''
    after_turned {cells''} kept = record { len = u.len; here = λ x s l hs. ap (own (get_or bank' (count_below h s) x)) (kept s l hs) ∙ u.here x s l hs; beyond = u.beyond }

    pub before_turned : {past : List ℕ} → ((s : ℕ) → s < n → h s ≡ true → window cells s ≡ window past s) → Turned h n f bank past bank' cells'
    before_turned {past} kept = record { len = u.len; here = λ x s l hs. u.here x s l hs ∙ ap (λ w. f s (own (get_or bank (count_below h s) x) w)) (kept s l hs); beyond = u.beyond }

-- nor do slots of other kinds hear
pub skip_heard : {X : Type 0} (m : Rules X) (t : Target) (h : ℕ → Bool) (bank : List X) (cells : List ℕ) {i j : ℕ} → i ≤ j → count_below h j ≡ count_below h i → count_below (hears_at m t h bank cells) j ≡ count_below (hears_at m t h bank cells) i
unfolding hears_at
skip_heard m t h bank cells {i} {j} l e =
    count_skip _ i j l (λ k a b. ap (λ c. c && passes (λ x. is_heard m t (own x (window cells k))) bank (count_below h k)) (none_between h i j e k a b))

-- the cells beyond the slots
pub kept_beyond : {h : ℕ → Bool} {n : ℕ} {cells cells' : List ℕ} → Kept h n cells cells' → (k : ℕ) → 1024 * n ≤ k → get_or cells' k 0 ≡ get_or cells k 0
kept_beyond {h} {n} {cells} {cells'} u k l =
    sym (cell_of cells' k) ∙ ap (λ w. get_or w (k % 1024) 0) (u.there (k / 1024) (λ m. absurd (omega arith))) ∙ cell_of cells k

-- a change of each record in front
pub front_changed : {X : Type 0} {f : X → X} {bank front : List X} {k : ℕ} → k ≤ length bank → ChangedBelow (length (take k bank)) f (take k bank) front → ChangedBelow k f bank (front ++ drop k bank)
front_changed {f = f} {bank = bank} {front = front} {k = k} l c =
    let e : length (take k bank) ≡ k = length-take-le k bank l in
    let n : length front ≡ k = c.len ∙ e in
    record {
      len = length-append front (drop k bank) ∙ (let d = length-drop k bank in omega arith);
      here = λ x j m. get_or_append_left front (drop k bank) x j (omega arith) ∙ c.here x j (omega arith) ∙ ap f (get_or-take k bank j x m);
      beyond = λ x j m. get_or-append_right front (drop k bank) k j x n m ∙ get_or-drop k bank (j - k) x ∙ ap (λ i. get_or bank i x) (omega arith);
    }

-- a change of each record of the kind, at any cells
pub first_turned : {X : Type 0} {f : X → X} {bank bank' : List X} {k : ℕ} (h : ℕ → Bool) (n : ℕ) → k ≡ count_below h n → ChangedBelow k f bank bank' → (cells : List ℕ) → Turned h n (λ _ o. own (f o.rec) o.vars) bank cells bank' cells
first_turned h n at c cells = record {
  len = c.len;
  here = λ x s l hs. ap (λ y. own y (window cells s)) (c.here x (count_below h s) (let m = count_less h s n l hs in omega arith));
  beyond = λ x j l. c.beyond x j (omega arith);
}

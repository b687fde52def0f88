-- One cell of a window, read and written: the only place where the layout of the cells counts.
use Rattle.std.proofs.Common.{◌≡◌, ℕ, ◌+◌, ◌-◌, ◌*◌, ◌/◌, ◌%◌, ◌<◌, ◌≤◌, ◌≢◌, List, length, get_or, take, drop, set, refl, ap, subst, ◌∙◌, ⊎_elim, arith, length-drop, length-set, length-take, get_or-drop, get_or-take, drop-set-lt}
use lib.Seq.{drop-set-add, take-set-lt, take-set-le}
use Rattle.std.proofs.lemmas.Bool.{cases_order}
use Rattle.memory.specs.declared.memory.Memory.{Ghosts}
use Rattle.bank.specs.declared.window.Window.{Window}
use Rattle.bank.specs.Windows.{window, Wrote}
use Rattle.bank.specs.Opened.{variables, Became}

module _ (cells : List ℕ) (s v : ℕ) (low : v < 1024) where
  pub in_window : get_or (window cells s) v 0 ≡ get_or cells (1024 * s + v) 0
  unfolding window
  in_window = get_or-take 1024 (drop (1024 * s) cells) v 0 low ∙ get_or-drop (1024 * s) cells v 0

  there : (b t : ℕ) → t ≢ s → window (set cells (1024 * s + v) b) t ≡ window cells t
  unfolding window
  there b t ne = ⊎_elim (λ e. absurd (ne e)) (⊎_elim below above) (cases_order t s)
    where
      below : t < s → take 1024 (drop (1024 * t) (set cells (1024 * s + v) b)) ≡ take 1024 (drop (1024 * t) cells)
      below h =
          let k : 1024 * s + v ≡ 1024 * t + (1024 * s + v - 1024 * t) = omega arith in
          ap (λ k. take 1024 (drop (1024 * t) (set cells k b))) k ∙ ap (λ l. take 1024 l) (drop-set-add (1024 * t) cells (1024 * s + v - 1024 * t) b) ∙ take-set-le 1024 (drop (1024 * t) cells) (1024 * s + v - 1024 * t) b (omega arith)

      above : s < t → take 1024 (drop (1024 * t) (set cells (1024 * s + v) b)) ≡ take 1024 (drop (1024 * t) cells)
      above h = ap (λ l. take 1024 l) (drop-set-lt (1024 * t) cells (1024 * s + v) b (omega arith))

  wrote : (b : ℕ) → Wrote cells (set cells (1024 * s + v) b) s (set (window cells s) v b)
  unfolding window
  wrote b = record {
    size = length-set cells (1024 * s + v) b;
    here = ap (λ l. take 1024 l) (drop-set-add (1024 * s) cells v b) ∙ take-set-lt 1024 (drop (1024 * s) cells) v b low;
    there = there b;
  }

  pub wrote_as : {cells' : List ℕ} (b : ℕ) → cells' ≡ set cells (1024 * s + v) b → Wrote cells cells' s (set (window cells s) v b)
  wrote_as b e = rw e (wrote b)

pub length-window : (cells : List ℕ) (s : ℕ) → 1024 * s + 1024 ≤ length cells → length (window cells s) ≡ 1024
unfolding window
length-window cells s room = simp (length-take, length-drop) (omega arith)

-- nothing is written
pub wrote_none : {cells : List ℕ} {s : ℕ} → Wrote cells cells s (window cells s)
wrote_none = record { size = refl; here = refl; there = λ t ne. refl }

-- one write after another, which sees what the first left
pub wrote_then : {cells cells' cells'' : List ℕ} {s : ℕ} {w : List ℕ} (f : List ℕ → List ℕ) → Wrote cells cells' s w → Wrote cells' cells'' s (f (window cells' s)) → Wrote cells cells'' s (f w)
wrote_then f a b = record {
  size = b.size ∙ a.size;
  here = b.here ∙ ap f a.here;
  there = λ t ne. b.there t ne ∙ a.there t ne;
}

-- a cell by its window
pub cell_of : (cells : List ℕ) (k : ℕ) → get_or (window cells (k / 1024)) (k % 1024) 0 ≡ get_or cells k 0
cell_of cells k = let e : 1024 * (k / 1024) + k % 1024 ≡ k = omega arith in in_window cells (k / 1024) (k % 1024) (omega arith) ∙ ap (λ k. get_or cells k 0) e

module _ {M : Type 0} {m : Ghosts M} where
  pub became_none : {w : Window M m} → Became w w (variables w)
  became_none = record { slot = refl; lender = refl; cells = wrote_none; outside = refl; lenders = refl }

  module _ {old new : Window M m} {w : List ℕ} (b : Became old new w) where
    -- what the window holds then
    pub became_holds : variables new ≡ w
    became_holds = ap (λ s. window (m.cells new.memory.now) s) b.slot ∙ b.cells.here

    -- one change after another, which sees what the first left
    pub became_then : {more : Window M m} (f : List ℕ → List ℕ) → Became new more (f (variables new)) → Became old more (f w)
    became_then {more} f c = record {
      slot = c.slot ∙ b.slot;
      lender = c.lender ∙ b.lender;
      cells = wrote_then f b.cells (subst (λ s. Wrote (m.cells new.memory.now) (m.cells more.memory.now) s (f (window (m.cells new.memory.now) s))) b.slot c.cells);
      outside = c.outside ∙ b.outside;
      lenders = c.lenders ∙ b.lenders;
    }

  pub length-variables : (w : Window M m) → length (variables w) ≡ 1024
  length-variables w = length-window (m.cells w.memory.now) w.slot w.held.room

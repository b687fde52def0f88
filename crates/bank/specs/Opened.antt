-- A window of a memory by its variables.
use Rattle.std.specs.Prelude.{◌≡◌, ℕ, true, false, List, Result}
use Rattle.fault.specs.declared.fault.Fault.{Fault}
use Rattle.memory.specs.declared.memory.Memory.{Ghosts}
use Rattle.bank.specs.declared.window.Window.{Window}
use Rattle.bank.specs.Banks.{unless_few}
use Rattle.bank.specs.Windows.{window, has_window, Wrote}

module _ {M : Type 0} {m : Ghosts M} where
  -- the variables in the window
  abbrev pub variables : Window M m → List ℕ
  variables w = window (m.cells w.memory.now) w.slot

  -- the same window, and no cell changed
  pub record Unchanged (old new : Window M m) : Type 0 where
    pub slot : new.slot ≡ old.slot
    pub lender : new.memory.ghost_name ≡ old.memory.ghost_name
    pub cells : m.cells new.memory.now ≡ m.cells old.memory.now
    pub outside : m.outside new.memory.now ≡ m.outside old.memory.now
    pub lenders : m.lenders new.memory.now ≡ m.lenders old.memory.now

  -- the same window, which holds other variables now; nothing else changed, in the memory or outside of it
  pub record Became (old new : Window M m) (w : List ℕ) : Type 0 where
    pub slot : new.slot ≡ old.slot
    pub lender : new.memory.ghost_name ≡ old.memory.ghost_name
    pub cells : Wrote (m.cells old.memory.now) (m.cells new.memory.now) old.slot w
    pub outside : m.outside new.memory.now ≡ m.outside old.memory.now
    pub lenders : m.lenders new.memory.now ≡ m.lenders old.memory.now

-- what a new decoder's variables make of a memory: the window of its slot holds them now;
-- a memory that has no such window is refused, and stays
pub record Fits {M : Type 0} (m : Ghosts M) (old new : M) (slot : ℕ) (vars : List ℕ) (result : Result Unit Fault) : Type 0 where
  pub answer : result ≡ unless_few (has_window slot (m.cells old))
  pub cells : has_window slot (m.cells old) ≡ true → Wrote (m.cells old) (m.cells new) slot vars
  pub refused : has_window slot (m.cells old) ≡ false → m.cells new ≡ m.cells old
  pub outside : m.outside new ≡ m.outside old
  pub lenders : m.lenders new ≡ m.lenders old

-- The bank of one kind among the slots: what became of its decoders.
use Rattle.std.specs.Prelude.{◌≡◌, ℕ, zero, suc, ◌*◌, ◌<◌, ◌≤◌, Bool, true, false, cond, ◌&&◌, ◌≢◌, List, [], ◌∷◌, length, Ok, Err, Result, nat_le, nat_lt, slice_index_or}
use Rattle.fault.specs.declared.fault.Fault.{Fault}
use Rattle.fault.specs.declared.refusal.Refusal.TheVariants.{LentTooShort, TooFewCells}
use Rattle.fault.specs.Places.{nowhere}
use Rattle.packet.specs.declared.target.Target.{Target}
use Rattle.decoder.specs.Alone.{Own, Rules, own}
use Rattle.bank.specs.declared.kind.Kind.{Kind}
use Rattle.bank.specs.Kinds.{count_below, count_of}
use Rattle.bank.specs.Windows.{window, has_window}
use Rattle.bank.specs.Hearers.{is_heard}

-- the decoder in the slot s: its record in the bank, and its window
abbrev pub own_at : {X : Type 0} → (ℕ → Bool) → X → List X → List ℕ → ℕ → Own X
own_at h x bank cells s = own (slice_index_or bank (count_below h s) x) (window cells s)

-- f was done to each decoder in a slot below n that passes h; the records beyond those stay
pub record Turned {X : Type 0} (h : ℕ → Bool) (n : ℕ) (f : ℕ → Own X → Own X) (bank : List X) (cells : List ℕ) (bank' : List X) (cells' : List ℕ) : Type 0 where
  pub len : length bank' ≡ length bank
  pub here : (x : X) (s : ℕ) → s < n → h s ≡ true → own_at h x bank' cells' s ≡ f s (own_at h x bank cells s)
  pub beyond : (x : X) (j : ℕ) → count_below h n ≤ j → slice_index_or bank' j x ≡ slice_index_or bank j x

-- no window changed but those of the slots below n that pass h; so the cells beyond the slots stay too
pub record Kept (h : ℕ → Bool) (n : ℕ) (cells cells' : List ℕ) : Type 0 where
  pub size : length cells' ≡ length cells
  pub there : (t : ℕ) → (t < n → h t ≢ true) → window cells' t ≡ window cells t

-- whether the record of a number is there and passes the test
abbrev pub passes : {X : Type 0} → (X → Bool) → List X → ℕ → Bool
passes p [] k = false
passes p (x ∷ xs) zero = p x
passes p (x ∷ xs) (suc k) = passes p xs k

-- whether the slot s is one of the kind, and its decoder hears a packet to the target
unfoldable pub hears_at : {X : Type 0} → Rules X → Target → (ℕ → Bool) → List X → List ℕ → ℕ → Bool
hears_at m t h bank cells s = h s && passes (λ x. is_heard m t (own x (window cells s))) bank (count_below h s)

-- a record for each slot of the kind
abbrev pub has_records : {X : Type 0} → List Kind → Kind → List X → Bool
has_records kinds kind bank = nat_le (count_of kinds kind) (length bank)

-- a record for each slot of the kind, and a window for each slot
abbrev pub is_enough : {X : Type 0} → List Kind → Kind → List X → List ℕ → Bool
is_enough kinds kind bank cells = has_records kinds kind bank && nat_le (1024 * length kinds) (length cells)

-- the refusal of a bank or a memory that is too short
abbrev pub lent_too_short : Fault
lent_too_short = nowhere LentTooShort

-- an answer, unless too little was lent
abbrev pub unless_short : {A : Type 0} → Bool → A → Result A Fault
unless_short enough a = cond enough (Ok a) (Err lent_too_short)

-- the refusal of a memory that has no window for a new decoder
abbrev pub too_few_cells : Fault
too_few_cells = nowhere TooFewCells

-- whether a new decoder has its window
abbrev pub unless_few : Bool → Result Unit Fault
unless_few enough = cond enough (Ok tt) (Err too_few_cells)

-- whether the record of a number and the window of a slot are there
abbrev pub is_there : {X : Type 0} → ℕ → ℕ → List X → List ℕ → Bool
is_there k s bank cells = nat_lt k (length bank) && has_window s cells

-- f was done to the record of the number k, and the others stay
pub record ChangedAt {X : Type 0} (k : ℕ) (f : X → X) (bank bank' : List X) : Type 0 where
  pub len : length bank' ≡ length bank
  pub here : (x : X) → slice_index_or bank' k x ≡ f (slice_index_or bank k x)
  pub there : (x : X) (j : ℕ) → j ≢ k → slice_index_or bank' j x ≡ slice_index_or bank j x

-- f was done to the first k records, and the others stay
pub record ChangedBelow {X : Type 0} (k : ℕ) (f : X → X) (bank bank' : List X) : Type 0 where
  pub len : length bank' ≡ length bank
  pub here : (x : X) (j : ℕ) → j < k → slice_index_or bank' j x ≡ f (slice_index_or bank j x)
  pub beyond : (x : X) (j : ℕ) → k ≤ j → slice_index_or bank' j x ≡ slice_index_or bank j x

-- Which addresses are fitted, and why a fitting is refused.
use Rattle.std.specs.Prelude.{◌≡◌, ℕ, ◌+◌, ◌*◌, ◌<◌, ◌≤◌, true, false, ◌⊎◌, List, [], ◌∷◌, cond, length, is_ok, Ok, Err, Result, ◌≢◌}
use Rattle.fault.specs.declared.fault.Fault.{Fault}
use Rattle.fault.specs.declared.refusal.Refusal.TheVariants.{FittedAddress, BankFull, TooFewCells}
use Rattle.fault.specs.Places.{fault_at}
use Rattle.packet.specs.declared.cv.CvNumber.{CvNumber}
use Rattle.packet.specs.declared.target.Target.{Target}
use Rattle.packet.specs.declared.target.Target.TheVariants as target
use Rattle.packet.specs.declared.instruction.Instruction.{Instruction}
use Rattle.packet.specs.declared.instruction.Instruction.TheVariants.{VerifyByte}
use Rattle.format.specs.Writing.{encoded}
use Rattle.decoder.specs.Laws.{target_at}
use Rattle.bank.specs.declared.kind.Kind.{Kind}
use Rattle.bank.specs.Kinds.{count_of}
use Rattle.script.specs.declared.fit.Fit.{Fit}
use Rattle.script.specs.declared.fit.Fit.TheVariants.{Mobile, Basic, Extended}
use Rattle.script.specs.Boards.{Lent, bank_size}
use Rattle.script.specs.Fittings.{fit_kind, is_address, fitting, accepted, fit_answers}

-- the target of packets to a decoder of that fitting, and those of packets to all of a kind
abbrev pub target_of : Fit → Target
target_of (Mobile a) = target_at a
target_of (Basic a) = target.Basic a
target_of (Extended a) = target.Extended a

pub record IsOfOne (t : Target) : Type 0 where
  pub basic : t ≢ target.Basic 511
  pub extended : t ≢ target.Extended 2047

-- the addresses that are fitted are those of packets to one decoder: a packet can be written to each of them, and to no
-- other, but for the broadcasts
pub record AddressesAreSent : Type 0 where
  pub written : (f : Fit) (cv : CvNumber) (x : ℕ) → is_address f ≡ true → is_ok (encoded (target_of f) (VerifyByte cv x)) ≡ true
  pub of_one : (f : Fit) → is_address f ≡ true → IsOfOne (target_of f)
  pub no_other : (f : Fit) (i : Instruction) → is_ok (encoded (target_of f) i) ≡ true → IsOfOne (target_of f) → is_address f ≡ true

-- how many answers are no refusals
abbrev pub ok_count : List (Result ℕ Fault) → ℕ
ok_count [] = 0
ok_count (r ∷ rs) = cond (is_ok r) 1 0 + ok_count rs

-- the board that has slots of the kinds ks has room for one more: a slot, a record of its bank, and 1024 cells
abbrev pub HasSlot : Lent → List Kind → Fit → Type 0
HasSlot l ks f = (length ks < 32) × (count_of ks (fit_kind f) < bank_size (fit_kind f) l)

abbrev pub HasCells : Lent → List Kind → Type 0
HasCells l ks = 1024 * (length ks + 1) ≤ length l.cells

pub record FittingsAnswered : Type 0 where
  pub addresses : AddressesAreSent
  -- a fitting is refused for its address, else for want of a slot or a record, else of cells; else it is answered how many
  -- of its kind there were
  pub address : (l : Lent) (ks : List Kind) (f : Fit) → is_address f ≡ false → fitting l ks f ≡ Err (fault_at FittedAddress 0)
  pub slot : (l : Lent) (ks : List Kind) (f : Fit) → is_address f ≡ true → (32 ≤ length ks) ⊎ (bank_size (fit_kind f) l ≤ count_of ks (fit_kind f)) → fitting l ks f ≡ Err (fault_at BankFull 0)
  pub cells : (l : Lent) (ks : List Kind) (f : Fit) → is_address f ≡ true → HasSlot l ks f → length l.cells < 1024 * (length ks + 1) → fitting l ks f ≡ Err (fault_at TooFewCells 0)
  pub number : (l : Lent) (ks : List Kind) (f : Fit) → is_address f ≡ true → HasSlot l ks f → HasCells l ks → fitting l ks f ≡ Ok (count_of ks (fit_kind f))
  -- each of a list of fittings is answered, and as many are fitted as are not refused
  pub each : (l : Lent) (fs : List Fit) → length (fit_answers l fs) ≡ length fs
  pub fitted : (l : Lent) (fs : List Fit) → length (accepted l fs) ≡ ok_count (fit_answers l fs)

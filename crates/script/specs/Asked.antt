-- What one decoder answers, and what a setting comes to.
use Rattle.std.specs.Prelude.{◌≡◌, ◌≢◌, ℕ, ◌<◌, ◌≤◌, Bool, false, ◌⊎◌, List, [], length}
use Rattle.std.specs.Prelude.{slice_index_or, Some, Ok, Err}
use Rattle.fault.specs.declared.refusal.Refusal.TheVariants.{NoSuchDecoder, NumberOutOfRange}
use Rattle.fault.specs.Places.{fault_at}
use Rattle.state.specs.Kept.{state_at}
use Rattle.state.specs.declared.volatile.MobileState.{MobileState}
use Rattle.state.specs.declared.volatile.AccessoryState.{AccessoryState}
use Rattle.decoder.specs.declared.records.Mobile as mobile-record
use Rattle.decoder.specs.Fresh as accessory-record
use Rattle.decoder.specs.Alone.{Own, own}
use Rattle.bank.specs.declared.kind.Kind.TheVariants as kind
use Rattle.script.specs.declared.call.Request.TheVariants.{Set, State, Variable, Function}
use Rattle.script.specs.declared.call.Request.TheVariants.{BinaryState}
use Rattle.script.specs.declared.answer.Answer.TheVariants as answer
use Rattle.script.specs.declared.answer.DecoderState.TheVariants as holds
use Rattle.script.specs.Decoders.{Decoder, kind_of, lives, variables_of, events_of, request_answer}
use Rattle.script.specs.Decoders.Decoder.{mobile, basic, extended}

-- variables have the numbers 1 to 1024
abbrev pub IsVariable : ℕ → Type 0
IsVariable n = (1 ≤ n) × (n ≤ 1024)

-- what is told of the state is all that the decoder holds while it has power: with that, with its
-- variables, and with its address if it is an accessory decoder, it is the decoder again
pub record StateTold : Type 0 where
  pub of_mobile :
      (o : Own mobile-record.Mobile)
      → (s : MobileState)
      × (request_answer (mobile o) State ≡ Ok (answer.State (holds.Mobile s)))
      × (o ≡ own (record { state = s }) o.vars)
  pub of_basic :
      (o : Own accessory-record.Basic)
      → (s : AccessoryState (List Bool))
      × (request_answer (basic o) State ≡ Ok (answer.State (holds.Basic s)))
      × (o ≡ own (record { address = o.rec.address; state = s }) o.vars)
  pub of_extended :
      (o : Own accessory-record.Extended)
      → (s : AccessoryState ℕ)
      × (request_answer (extended o) State ≡ Ok (answer.State (holds.Extended s)))
      × (o ≡ own (record { address = o.rec.address; state = s }) o.vars)

pub record RequestsAnswered : Type 0 where
  -- a setting is accepted and read back, and every other variable reads as it did
  pub set : (d : Decoder) (n x : ℕ) → IsVariable n → request_answer d (Set n x) ≡ Ok answer.Set
  pub reads_back : (d : Decoder) (n x : ℕ) → length (variables_of d) ≡ 1024 → IsVariable n → request_answer (lives d (events_of (Set n x))) (Variable n) ≡ Ok (answer.Variable x)
  pub others : (d : Decoder) (n m x : ℕ) → IsVariable n → m ≢ n → request_answer (lives d (events_of (Set n x))) (Variable m) ≡ request_answer d (Variable m)
  -- no other number is a variable
  pub not_set : (d : Decoder) (n x : ℕ) → (n ≡ 0) ⊎ (1024 < n) → (request_answer d (Set n x) ≡ Err (fault_at NumberOutOfRange 0)) × (events_of (Set n x) ≡ [])
  pub no_variable : (d : Decoder) (n : ℕ) → (n ≡ 0) ⊎ (1024 < n) → request_answer d (Variable n) ≡ Err (fault_at NumberOutOfRange 0)
  -- a mobile decoder tells the functions 0 to 68 and the binary states 1 to 2047 as they stand, and no others
  pub function : (o : Own mobile-record.Mobile) (n : ℕ) → n ≤ 68 → request_answer (mobile o) (Function n) ≡ Ok (answer.Function (slice_index_or o.rec.state.functions.on n false))
  pub no_function : (o : Own mobile-record.Mobile) (n : ℕ) → 69 ≤ n → request_answer (mobile o) (Function n) ≡ Err (fault_at NumberOutOfRange 0)
  pub binary_state : (o : Own mobile-record.Mobile) (n : ℕ) (on : Bool) → state_at o.rec.state.states.bits n ≡ Some on → request_answer (mobile o) (BinaryState n) ≡ Ok (answer.BinaryState on)
  pub no_binary_state : (o : Own mobile-record.Mobile) (n : ℕ) → (n ≡ 0) ⊎ (2047 < n) → request_answer (mobile o) (BinaryState n) ≡ Err (fault_at NumberOutOfRange 0)
  -- and no other kind has any
  pub not_mobile : (d : Decoder) (n : ℕ) → kind_of d ≢ kind.Mobile → (request_answer d (Function n) ≡ Err (fault_at NoSuchDecoder 0)) × (request_answer d (BinaryState n) ≡ Err (fault_at NoSuchDecoder 0))
  -- a reading of the state tells it whole
  pub state : StateTold

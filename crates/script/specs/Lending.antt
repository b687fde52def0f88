-- What a board answers that is lent too little, or asked about a decoder that it has not.
use Rattle.std.specs.Prelude.{◌≡◌, ℕ, ◌*◌, ◌≤◌, Bool, true, false, List, length, Some, None, Err, Result}
use Rattle.fault.specs.declared.fault.Fault.{Fault}
use Rattle.fault.specs.declared.refusal.Refusal.TheVariants.{NoSuchDecoder, LentTooShort}
use Rattle.fault.specs.Places.{fault_at}
use Rattle.bank.specs.declared.kind.Kind.{Kind}
use Rattle.bank.specs.Kinds.{count_of}
use Rattle.script.specs.declared.answer.Answer.{Answer}
use Rattle.script.specs.declared.answer.DecoderState.{DecoderState}
use Rattle.script.specs.declared.name.DecoderName.{DecoderName}
use Rattle.script.specs.declared.taken.Taken.{Taken}
use Rattle.script.specs.Decoders.{Decoder, decoder_of}
use Rattle.script.specs.Boards.{Lent, bank_size, is_lent, decoders}
use Rattle.script.specs.Calls.{answer_by, answer_of, after_by}

-- the board has slots of the kinds ks and is lent l: a record for each slot of each kind, and 1024 cells for each slot
pub record IsEnough (ks : List Kind) (l : Lent) : Type 0 where
  pub records : (k : Kind) → count_of ks k ≤ bank_size k l
  pub cells : 1024 * length ks ≤ length l.cells

-- with less it refuses; else it answers by its decoders, or by the one that is named if there is one
pub record AnswersLent (A : Type 0) (ks : List Kind) (l : Lent) : Type 0 where
  pub too_little : (f : List Decoder → Result A Fault) → is_lent ks l ≡ false → answer_by ks l f ≡ Err (fault_at LentTooShort 0)
  pub too_little_for : (n : DecoderName) (f : Decoder → Result A Fault) → is_lent ks l ≡ false → answer_of ks l n f ≡ Err (fault_at LentTooShort 0)
  pub by : (f : List Decoder → Result A Fault) → is_lent ks l ≡ true → answer_by ks l f ≡ f (decoders ks l)
  pub of_none : (n : DecoderName) (f : Decoder → Result A Fault) → is_lent ks l ≡ true → decoder_of n (decoders ks l) ≡ None → answer_of ks l n f ≡ Err (fault_at NoSuchDecoder 0)
  pub of : (n : DecoderName) (f : Decoder → Result A Fault) (d : Decoder) → is_lent ks l ≡ true → decoder_of n (decoders ks l) ≡ Some d → answer_of ks l n f ≡ f d

pub record LendingsAnswered : Type 0 where
  pub enough : (ks : List Kind) (l : Lent) → IsEnough ks l → is_lent ks l ≡ true
  pub is_enough : (ks : List Kind) (l : Lent) → is_lent ks l ≡ true → IsEnough ks l
  -- with less its decoders stay, else they become what the call makes of them
  pub stay : (ks : List Kind) (l : Lent) (g : List Decoder → List Decoder) → is_lent ks l ≡ false → after_by ks l g ≡ decoders ks l
  pub change : (ks : List Kind) (l : Lent) (g : List Decoder → List Decoder) → is_lent ks l ≡ true → after_by ks l g ≡ g (decoders ks l)
  -- the calls that answer counts, nothing, a byte, a bit, what a decoder holds, and any of these
  pub taken : (ks : List Kind) (l : Lent) → AnswersLent Taken ks l
  pub set : (ks : List Kind) (l : Lent) → AnswersLent (Unit {0}) ks l
  pub byte : (ks : List Kind) (l : Lent) → AnswersLent ℕ ks l
  pub bit : (ks : List Kind) (l : Lent) → AnswersLent Bool ks l
  pub holds : (ks : List Kind) (l : Lent) → AnswersLent DecoderState ks l
  pub any : (ks : List Kind) (l : Lent) → AnswersLent Answer ks l

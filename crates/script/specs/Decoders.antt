-- A decoder of any kind: its record and its variables, what its events make of it, and what it answers.
use Rattle.std.specs.Prelude.{ℕ, zero, suc, ◌-◌, ◌%◌, Bool, cond, ◌&&◌, List, [], ◌∷◌, is_some, Some, None, Ok, Err, Option, Result, nat_le}
use Rattle.std.proofs.Common.{lit<}
use Rattle.std.proofs.lemmas.Nat.{mod_below}
use Rattle.fault.specs.declared.fault.Fault.{Fault}
use Rattle.fault.specs.declared.refusal.Refusal.{Refusal}
use Rattle.fault.specs.declared.refusal.Refusal.TheVariants.{NoSuchDecoder, NumberOutOfRange}
use Rattle.fault.specs.Places.{nowhere}
use Rattle.packet.specs.declared.cv.CvNumber.{CvNumber}
use Rattle.packet.specs.Wires.{number_of}
use Rattle.format.specs.Reading.{packet_read}
use Rattle.state.specs.Groups.{function_at}
use Rattle.state.specs.Kept.{state_at}
use Rattle.decoder.specs.declared.records.Mobile as mobile-record
use Rattle.decoder.specs.Fresh as accessory-record
use Rattle.decoder.specs.Alone.{Own, Event, variable, hearing, life, mobile_rules, basic_rules, extended_rules}
use Rattle.decoder.specs.Alone.Event.{setting}
use Rattle.bank.specs.declared.kind.Kind.{Kind}
use Rattle.bank.specs.declared.kind.Kind.TheVariants as kind
use Rattle.bank.specs.Kinds.{same_kind}
use Rattle.script.specs.declared.name.DecoderName.{DecoderName}
use Rattle.script.specs.declared.call.Request.{Request}
use Rattle.script.specs.declared.call.Request.TheVariants.{Set, State, Variable, Function, BinaryState}
use Rattle.script.specs.declared.answer.DecoderState.{DecoderState}
use Rattle.script.specs.declared.answer.DecoderState.TheVariants as holds
use Rattle.script.specs.declared.answer.Answer.{Answer}
use Rattle.script.specs.declared.answer.Answer.TheVariants as answer

pub data Decoder : Type 0 where
  mobile : Own mobile-record.Mobile → Decoder
  basic : Own accessory-record.Basic → Decoder
  extended : Own accessory-record.Extended → Decoder

abbrev pub kind_of : Decoder → Kind
kind_of (mobile o) = kind.Mobile
kind_of (basic o) = kind.Basic
kind_of (extended o) = kind.Extended

-- the records of a kind, and the decoder of that kind that has one of them
abbrev pub RecordOf : Kind → Type 0
RecordOf kind.Mobile = mobile-record.Mobile
RecordOf kind.Basic = accessory-record.Basic
RecordOf kind.Extended = accessory-record.Extended

abbrev pub decoder_as : (k : Kind) → Own (RecordOf k) → Decoder
decoder_as kind.Mobile o = mobile o
decoder_as kind.Basic o = basic o
decoder_as kind.Extended o = extended o

-- what events make of it, by the rules of its kind
unfoldable pub lives : Decoder → List Event → Decoder
lives (mobile o) es = mobile (life mobile_rules o es)
lives (basic o) es = basic (life basic_rules o es)
lives (extended o) es = extended (life extended_rules o es)

-- whether it hears a packet, these bytes
unfoldable pub hears : Decoder → List ℕ → Bool
hears (mobile o) bs = is_some (hearing mobile_rules o (packet_read bs))
hears (basic o) bs = is_some (hearing basic_rules o (packet_read bs))
hears (extended o) bs = is_some (hearing extended_rules o (packet_read bs))

-- its variables, and its volatile part
abbrev pub variables_of : Decoder → List ℕ
variables_of (mobile o) = o.vars
variables_of (basic o) = o.vars
variables_of (extended o) = o.vars

abbrev pub state_of : Decoder → DecoderState
state_of (mobile o) = holds.Mobile o.rec.state
state_of (basic o) = holds.Basic o.rec.state
state_of (extended o) = holds.Extended o.rec.state

-- ---- names

-- the one that has the number j among those of the kind k, from 0
abbrev pub of_kind : {X : Type 0} → (X → Kind) → Kind → ℕ → List X → Option X
of_kind kind k j [] = None
of_kind kind k zero (x ∷ xs) = cond (same_kind k (kind x)) (Some x) (of_kind kind k zero xs)
of_kind kind k (suc j) (x ∷ xs) = cond (same_kind k (kind x)) (of_kind kind k j xs) (of_kind kind k (suc j) xs)

-- the decoder of a name
abbrev pub decoder_of : DecoderName → List Decoder → Option Decoder
decoder_of n ds = of_kind kind_of n.kind n.number ds

-- f done to the one that has the number j among those of the kind k, if there is one
abbrev pub changed : (Decoder → Decoder) → Kind → ℕ → List Decoder → List Decoder
changed f k j [] = []
changed f k zero (d ∷ ds) = cond (same_kind k (kind_of d)) (f d ∷ ds) (d ∷ changed f k zero ds)
changed f k (suc j) (d ∷ ds) = cond (same_kind k (kind_of d)) (d ∷ changed f k j ds) (d ∷ changed f k (suc j) ds)

-- ---- what is asked of one decoder

-- a refusal of the board
abbrev pub refused_by : Refusal → Fault
refused_by r = nowhere r

-- variables have the numbers 1 to 1024
abbrev pub is_variable : ℕ → Bool
is_variable n = nat_le 1 n && nat_le n 1024

-- the variable of such a number
abbrev pub cv_of : ℕ → CvNumber
cv_of n = number_of (record { address = (n - 1) % 1024; bound = mod_below (n - 1) 1024 (lit< tt) })

-- an answer, or the refusal of a number that is out of its range
abbrev pub in_range : {A : Type 0} → Option A → Result A Fault
in_range None = Err (refused_by NumberOutOfRange)
in_range (Some x) = Ok x

abbrev pub if_variable : {A : Type 0} → ℕ → A → Result A Fault
if_variable n x = cond (is_variable n) (Ok x) (Err (refused_by NumberOutOfRange))

-- only mobile decoders have functions and binary states
abbrev pub on_mobile : {A : Type 0} → (mobile-record.Mobile → Result A Fault) → Decoder → Result A Fault
on_mobile f (mobile o) = f o.rec
on_mobile f (basic o) = Err (refused_by NoSuchDecoder)
on_mobile f (extended o) = Err (refused_by NoSuchDecoder)

abbrev pub function_in : ℕ → Decoder → Result Bool Fault
function_in n = on_mobile (λ x. in_range (function_at x.state.functions.on n))

abbrev pub binary_state_in : ℕ → Decoder → Result Bool Fault
binary_state_in n = on_mobile (λ x. in_range (state_at x.state.states.bits n))

abbrev pub variable_in : ℕ → Decoder → Result ℕ Fault
variable_in n d = if_variable n (variable (variables_of d) n)

-- what a call answers that is not refused
abbrev pub answered : {A : Type 0} → (A → Answer) → Result A Fault → Result Answer Fault
answered f (Ok x) = Ok (f x)
answered f (Err e) = Err e

-- what a decoder answers
abbrev pub request_answer : Decoder → Request → Result Answer Fault
request_answer d (Set n x) = answered (λ _. answer.Set) (if_variable {A = Unit {0}} n tt)
request_answer d State = Ok (answer.State (state_of d))
request_answer d (Variable n) = answered answer.Variable (variable_in n d)
request_answer d (Function n) = answered answer.Function (function_in n d)
request_answer d (BinaryState n) = answered answer.BinaryState (binary_state_in n d)

-- the events that a request comes to: only an accepted setting is one
abbrev pub events_of : Request → List Event
events_of (Set n x) = cond (is_variable n) (setting (cv_of n) x ∷ []) []
events_of State = []
events_of (Variable n) = []
events_of (Function n) = []
events_of (BinaryState n) = []

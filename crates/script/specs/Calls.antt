-- The calls of a running board, by the decoders that it has.
use Rattle.std.specs.Prelude.{ℕ, ◌+◌, Bool, true, false, cond, ◌||◌, List, [], ◌∷◌, map, length, Some, None, Ok, Err, Option, Result, if◌then◌else◌}
use Rattle.fault.specs.declared.fault.Fault.{Fault}
use Rattle.fault.specs.declared.refusal.Refusal.{Refusal}
use Rattle.fault.specs.declared.refusal.Refusal.TheVariants.{BlockLength, NoSuchDecoder, LentTooShort}
use Rattle.format.specs.Reading.{Told, packet_read}
use Rattle.fault.specs.Places.{fault_at}
use Rattle.block.specs.Contents.{Thing, is_block_length}
use Rattle.block.specs.Contents.Thing.{fill, power_up, packet}
use Rattle.block.specs.Reading.{reading, carried, fault_of}
use Rattle.decoder.specs.Alone.{Event}
use Rattle.decoder.specs.Alone.Event.{heard, powered}
use Rattle.bank.specs.declared.kind.Kind.{Kind}
use Rattle.script.specs.declared.taken.Taken as taken
use Rattle.script.specs.declared.call.Call.{Call}
use Rattle.script.specs.declared.call.Call.TheVariants.{Take, Ask}
use Rattle.script.specs.declared.answer.Answer.{Answer}
use Rattle.script.specs.declared.answer.Answer.TheVariants.{Taken}
use Rattle.script.specs.declared.name.DecoderName.{DecoderName}
use Rattle.script.specs.Decoders.{Decoder, lives, hears, decoder_of, changed, refused_by, answered, request_answer, events_of}
use Rattle.script.specs.Boards.{Lent, is_lent, decoders}

-- ---- a record of a block

-- what a decoder meets of it: a power-up, or a packet that it hears
abbrev pub meets : Decoder → Thing → List Event
meets d fill = []
meets d power_up = powered ∷ []
meets d (packet p) = cond (hears d p) (heard p ∷ []) []

-- and what that makes of it
abbrev pub met : Thing → Decoder → Decoder
met t d = lives d (meets d t)

-- whether some decoder hears a packet
abbrev pub some_hears : List Decoder → List ℕ → Bool
some_hears [] p = false
some_hears (d ∷ ds) p = hears d p || some_hears ds p

-- a packet is refused, or heard by some decoder, or by none
abbrev pub outcome : Told → Bool → Result Bool Refusal
outcome (Ok p) b = Ok b
outcome (Err e) b = Err e

abbrev pub sent : List Decoder → List ℕ → Result Bool Refusal
sent ds p = outcome (packet_read p) (some_hears ds p)

-- ---- the counts of a block

abbrev pub nothing_taken : taken.Taken
nothing_taken = record { heard = 0; unheard = 0; refused = 0; refusal = None; fault = None }

-- the first of the refusals
abbrev pub earlier : Option Fault → Fault → Option Fault
earlier None f = Some f
earlier (Some e) f = Some e

-- one packet more, whose kind byte stands at o
abbrev pub noted : taken.Taken → ℕ → Result Bool Refusal → taken.Taken
noted t o (Ok true) = record { heard = t.heard + 1; unheard = t.unheard; refused = t.refused; refusal = t.refusal; fault = t.fault }
noted t o (Ok false) = record { heard = t.heard; unheard = t.unheard + 1; refused = t.refused; refusal = t.refusal; fault = t.fault }
noted t o (Err e) = record { heard = t.heard; unheard = t.unheard; refused = t.refused + 1; refusal = earlier t.refusal (fault_at e o); fault = t.fault }

abbrev pub counted : taken.Taken → List Decoder → ℕ → Thing → taken.Taken
counted t ds o fill = t
counted t ds o power_up = t
counted t ds o (packet p) = noted t o (sent ds p)

-- the records with their offsets, one after the other: the counts on top of those before, and the decoders afterwards
abbrev pub counts : taken.Taken → List Decoder → List (ℕ × Thing) → taken.Taken
counts t ds [] = t
counts t ds (r ∷ rs) = counts (counted t ds r.0 r.1) (map (met r.1) ds) rs

abbrev pub after_records : List Decoder → List (ℕ × Thing) → List Decoder
after_records ds [] = ds
after_records ds (r ∷ rs) = after_records (map (met r.1) ds) rs

abbrev pub with_fault : taken.Taken → Option Fault → taken.Taken
with_fault t f = record { heard = t.heard; unheard = t.unheard; refused = t.refused; refusal = t.refusal; fault = f }

-- a block that is not refused carries the records before its fill or its first fault
abbrev pub taken_from : List Decoder → List ℕ → taken.Taken
taken_from ds b = with_fault (counts nothing_taken ds (carried (reading b))) (fault_of (reading b))

abbrev pub taking : List Decoder → List ℕ → Result taken.Taken Fault
taking ds b = cond (is_block_length (length b)) (Ok (taken_from ds b)) (Err (fault_at BlockLength 0))

-- the records that a block gives to the decoders
abbrev pub given : List ℕ → List (ℕ × Thing)
given b = cond (is_block_length (length b)) (carried (reading b)) []

-- ---- a call

-- what the decoder that is named answers, if there is one
abbrev pub about : {A : Type 0} → (Decoder → Result A Fault) → Option Decoder → Result A Fault
about f None = Err (refused_by NoSuchDecoder)
about f (Some d) = f d

abbrev pub answer_to : List Decoder → Call → Result Answer Fault
answer_to ds (Take b) = answered Taken (taking ds b.now)
answer_to ds (Ask n q) = about (λ d. request_answer d q) (decoder_of n ds)

-- the decoders afterwards
abbrev pub after_call : List Decoder → Call → List Decoder
after_call ds (Take b) = after_records ds (given b.now)
after_call ds (Ask n q) = changed (λ d. lives d (events_of q)) n.kind n.number ds

-- ---- a list of calls

abbrev pub after_all : List Decoder → List Call → List Decoder
after_all ds [] = ds
after_all ds (c ∷ cs) = after_all (after_call ds c) cs

abbrev pub answers_to : List Decoder → List Call → List (Result Answer Fault)
answers_to ds [] = []
answers_to ds (c ∷ cs) = answer_to ds c ∷ answers_to (after_call ds c) cs

-- the answer of a board, unless too little was lent
abbrev pub when_lent : {A : Type 0} → Bool → Result A Fault → Result A Fault
when_lent enough r = cond enough r (Err (refused_by LentTooShort))

module _ (ks : List Kind) (l : Lent) where
  -- what a board answers that has slots of the kinds ks and is lent l: f of its decoders, or f of the one that is named
  abbrev pub answer_by : {A : Type 0} → (List Decoder → Result A Fault) → Result A Fault
  answer_by f = when_lent (is_lent ks l) (f (decoders ks l))

  abbrev pub answer_of : {A : Type 0} → DecoderName → (Decoder → Result A Fault) → Result A Fault
  answer_of n f = when_lent (is_lent ks l) (about f (decoder_of n (decoders ks l)))

  -- and its decoders after a call that makes f of them
  abbrev pub after_by : (List Decoder → List Decoder) → List Decoder
  after_by f = if is_lent ks l then f (decoders ks l) else decoders ks l

-- a place afterwards: what was answered, or as it was on a refusal
abbrev pub place_after : {A : Type 0} → A → Result A Fault → A
place_after old (Ok x) = x
place_after old (Err e) = old

-- what holds of a call that is refused
abbrev pub OnRefusal : {A : Type 0} → Result A Fault → Type 0 → Type 0
OnRefusal (Ok x) P = Unit {0}
OnRefusal (Err e) P = P

-- what holds of the answer of a call that is not refused, and the refusal of one that is
abbrev pub OnSuccess : {A : Type 0} → Result A Fault → (A → Type 0) → Type 0
OnSuccess (Ok x) P = P x
OnSuccess (Err e) P = Unit {0}

abbrev pub refused_with : {A : Type 0} → Result A Fault → Option Fault
refused_with (Ok x) = None
refused_with (Err e) = Some e

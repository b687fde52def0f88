-- What is promised of a whole run: fittings, the start, then blocks, settings and readings in any order.
use Rattle.std.specs.Prelude.{◌≡◌, ℕ, Bool, cond, ◌&&◌, List, [], ◌∷◌, ◌++◌, map, reverse, take, Some, Ok, Result, ◌==◌}
use Rattle.std.specs.List.{slice_get}
use Rattle.fault.specs.declared.fault.Fault.{Fault}
use Rattle.block.specs.Contents.{Thing}
use Rattle.state.specs.Bits.{bit_of}
use Rattle.decoder.specs.Alone.{Event, variable, mobile_rules, basic_rules, extended_rules}
use Rattle.decoder.specs.Persistence.{Ordinary, given as given_by, mobile_exceptions, accessory_exceptions}
use Rattle.bank.specs.declared.kind.Kind.{Kind}
use Rattle.bank.specs.declared.kind.Kind.TheVariants as kind
use Rattle.bank.specs.Kinds.{same_kind}
use Rattle.script.specs.declared.name.DecoderName.{DecoderName}
use Rattle.script.specs.declared.fit.Fit.{Fit}
use Rattle.script.specs.declared.call.Request.{Request}
use Rattle.script.specs.declared.call.Call.{Call}
use Rattle.script.specs.declared.call.Call.TheVariants.{Take, Ask}
use Rattle.script.specs.declared.answer.Answer.{Answer}
use Rattle.script.specs.Decoders.{Decoder, lives, decoder_of, variables_of, request_answer, events_of}
use Rattle.script.specs.Decoders.Decoder.{mobile, basic, extended}
use Rattle.script.specs.Boards.{Lent, decoders, Rest}
use Rattle.script.specs.Fittings.{fit_kind, fitted, accepted, fit_answers, fit_of}
use Rattle.script.specs.Calls.{meets, met, given, after_all, answers_to}

-- ---- one decoder's own events

-- those of the records of a block: power-ups, and the packets that the decoder hears as it then is
abbrev pub in_records : Decoder → List (ℕ × Thing) → List Event
in_records d [] = []
in_records d (r ∷ rs) = meets d r.1 ++ in_records (met r.1 d) rs

abbrev pub is_named : DecoderName → DecoderName → Bool
is_named n m = same_kind n.kind m.kind && n.number == m.number

-- those of a call, for the decoder named n: a refused block gives none, nor does a call that asks another decoder
abbrev pub in_call : DecoderName → Decoder → Call → List Event
in_call n d (Take b) = in_records d (given b.now)
in_call n d (Ask m q) = cond (is_named n m) (events_of q) []

-- those of a list of calls. No other decoder, no bank and no memory is looked at
abbrev pub events : DecoderName → Decoder → List Call → List Event
events n d [] = []
events n d (c ∷ cs) = in_call n d c ++ events n (lives d (in_call n d c)) cs

-- the decoder named n, fitted as f, alone: what the rules make of its fitting and its own events
abbrev pub alone_after : DecoderName → Fit → List Call → Decoder
alone_after n f calls = lives (fitted f) (events n (fitted f) calls)

-- ---- what a run comes to

-- the fittings and the calls were made with l lent: ks are the kinds in the slots, l' is what was lent afterwards,
-- numbers and answers are what was answered
pub record Ran (fits : List Fit) (calls : List Call) (l : Lent) (ks : List Kind) (l' : Lent) (numbers : List (Result ℕ Fault)) (answers : List (Result Answer Fault)) : Type 0 where
  pub kinds_are : ks ≡ map fit_kind (accepted l fits)
  pub numbers_are : numbers ≡ fit_answers l fits
  pub answers_are : answers ≡ answers_to (map fitted (accepted l fits)) calls
  pub decoders_are : decoders ks l' ≡ after_all (map fitted (accepted l fits)) calls

-- a decoder has the name that its fitting answered
abbrev pub Named : List Fit → Lent → List (Result ℕ Fault) → Type 0
Named fits l numbers =
    (i j : ℕ) (f : Fit)
    → slice_get fits i ≡ Some f
    → slice_get numbers i ≡ Some (Ok j)
    → fit_of (record { kind = fit_kind f; number = j }) (accepted l fits) ≡ Some f

-- every fitted decoder is what it is alone, and each request to it is answered by what it then was alone;
-- nothing here depends on what the banks and the memory held before
abbrev pub Alone : List Fit → List Call → Lent → List Kind → Lent → List (Result Answer Fault) → Type 0
Alone fits calls l ks l' answers =
    (n : DecoderName) (f : Fit)
    → fit_of n (accepted l fits) ≡ Some f
    → (decoder_of n (decoders ks l') ≡ Some (alone_after n f calls))
    × ((i : ℕ) (q : Request) → slice_get calls i ≡ Some (Ask n q) → slice_get answers i ≡ Some (request_answer (alone_after n f (take i calls)) q))

-- against every other run of equal accepted fittings, over any other memory: where a decoder's own events are alike,
-- it ends alike, and where those before two equal requests to it are alike, the answers are
abbrev pub Apart : List Fit → List Call → Lent → List Kind → Lent → List (Result Answer Fault) → Type 0
Apart fits calls l ks l' answers =
    (fits₂ : List Fit) (calls₂ : List Call) (l₂ : Lent) (ks₂ : List Kind) (l₂' : Lent) (numbers₂ : List (Result ℕ Fault)) (answers₂ : List (Result Answer Fault))
    → Ran fits₂ calls₂ l₂ ks₂ l₂' numbers₂ answers₂
    → accepted l₂ fits₂ ≡ accepted l fits
    → (n : DecoderName) (f : Fit)
    → fit_of n (accepted l fits) ≡ Some f
    → (events n (fitted f) calls₂ ≡ events n (fitted f) calls → decoder_of n (decoders ks₂ l₂') ≡ decoder_of n (decoders ks l'))
    × ((i i₂ : ℕ) (q : Request)
    → slice_get calls i ≡ Some (Ask n q)
    → slice_get calls₂ i₂ ≡ Some (Ask n q)
    → events n (fitted f) (take i₂ calls₂) ≡ events n (fitted f) (take i calls)
    → slice_get answers₂ i₂ ≡ slice_get answers i)

-- ---- persistence

-- the variables that other instructions change too, or that no packet writes
abbrev pub exceptions : Kind → List ℕ
exceptions kind.Mobile = mobile_exceptions
exceptions kind.Basic = accessory_exceptions
exceptions kind.Extended = accessory_exceptions

-- bit b of variable v as the last setting or write pair among the events that names it gave it, the latest event in
-- front; where none does, as the decoder had it at first
abbrev pub last_given : Decoder → ℕ → ℕ → List Event → Bool
last_given (mobile o) v b past = given_by mobile_rules o v b past
last_given (basic o) v b past = given_by basic_rules o v b past
last_given (extended o) v b past = given_by extended_rules o v b past

abbrev pub Persistent : List Fit → List Call → Lent → List Kind → Lent → Type 0
Persistent fits calls l ks l' =
    (n : DecoderName) (f : Fit) (d : Decoder) (v b : ℕ)
    → fit_of n (accepted l fits) ≡ Some f
    → decoder_of n (decoders ks l') ≡ Some d
    → Ordinary (exceptions (fit_kind f)) v
    → bit_of (variable (variables_of d) v) b ≡ last_given (fitted f) v b (reverse (events n (fitted f) calls))

-- ---- all of it

pub record Promised (fits : List Fit) (calls : List Call) (l : Lent) (ks : List Kind) (l' : Lent) (numbers : List (Result ℕ Fault)) (answers : List (Result Answer Fault)) : Type 0 where
  pub ran : Ran fits calls l ks l' numbers answers
  pub named : Named fits l numbers
  pub isolated : Alone fits calls l ks l' answers
  pub apart : Apart fits calls l ks l' answers
  pub persistent : Persistent fits calls l ks l'
  -- records and cells beyond the fitted decoders are as they were
  pub rest : Rest ks l l'

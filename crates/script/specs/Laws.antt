-- What the counts of a block have to do with the block, and with what each decoder meets of it.
use Rattle.std.specs.Prelude.{◌≡◌, ℕ, suc, ◌+◌, ◌<◌, ◌≤◌, ◌⊎◌, cond, List, [], ◌∷◌, length, false, is_err, Some, None, Ok, Err, Option}
use Rattle.std.specs.Borrow.{Bor}
use Rattle.fault.specs.declared.fault.Fault.{Fault}
use Rattle.fault.specs.declared.refusal.Refusal.TheVariants.{BlockLength}
use Rattle.fault.specs.Places.{fault_at}
use Rattle.packet.specs.declared.instruction.Instruction.{Instruction}
use Rattle.packet.specs.declared.target.Target.TheVariants.{Idle}
use Rattle.format.specs.Reading.{Told, packet_of, packet_read}
use Rattle.block.specs.declared.summary.Survey.{Survey}
use Rattle.block.specs.Contents.{Thing}
use Rattle.block.specs.Contents.Thing.{fill, power_up, packet}
use Rattle.block.specs.Reading.{reading, carried}
use Rattle.block.specs.Summing.{surveyed}
use Rattle.block.specs.Laws.{packets_of}
use Rattle.decoder.specs.Alone.Event.{heard}
use Rattle.script.specs.declared.taken.Taken.{Taken}
use Rattle.script.specs.declared.call.Call.TheVariants.{Take}
use Rattle.script.specs.declared.answer.Answer.TheVariants as answer
use Rattle.script.specs.Decoders.{Decoder, lives, hears}
use Rattle.script.specs.Calls.{taking, given, answer_to}
use Rattle.script.specs.Records.{heard_among, unheard_among}

-- how many of the packets are refused
abbrev pub refused_among : List (List ℕ) → ℕ
refused_among [] = 0
refused_among (p ∷ ps) = cond (is_err (packet_read p)) (suc (refused_among ps)) (refused_among ps)

-- the refusal of a packet whose kind byte stands at o, else a later one
abbrev pub refused_first : Told → ℕ → Option Fault → Option Fault
refused_first (Ok p) o later = later
refused_first (Err e) o later = Some (fault_at e o)

-- that of the first packet that is refused
abbrev pub first_refused : List (ℕ × Thing) → Option Fault
first_refused [] = None
first_refused ((o, fill) ∷ rs) = first_refused rs
first_refused ((o, power_up) ∷ rs) = first_refused rs
first_refused ((o, packet p) ∷ rs) = refused_first (packet_read p) o (first_refused rs)

-- what is answered of a block that the decoders take, t, and what a survey of it does, s
pub record CountsAgree (ds : List Decoder) (b : List ℕ) (t : Taken) (s : Survey) : Type 0 where
  -- each packet that the block carries is heard, unheard or refused
  pub packets : t.heard + t.unheard + t.refused ≡ s.packets
  -- heard are those that some decoder's own events have, unheard the accepted ones that none has
  pub heard : t.heard ≡ heard_among ds (given b)
  pub unheard : t.unheard ≡ unheard_among ds (given b)
  -- as many are refused as do not read, whatever decoders there are, and the first of them is told
  pub refused : t.refused ≡ refused_among (packets_of b)
  pub first : t.refusal ≡ first_refused (carried (reading b))
  pub fault : t.fault ≡ s.fault

pub record CountsAddUp : Type 0 where
  -- a block of no bytes or of more than 512 is refused, as a survey of it is, and gives nothing to the decoders
  pub refused : (ds : List Decoder) (b : List ℕ) → (length b ≡ 0) ⊎ (512 < length b) → (surveyed b ≡ Err (fault_at BlockLength 0)) × (taking ds b ≡ Err (fault_at BlockLength 0)) × (given b ≡ [])
  -- any other is surveyed, and where it is, it is taken
  pub surveys : (b : List ℕ) → 1 ≤ length b → length b ≤ 512 → (s : Survey) × (surveyed b ≡ Ok s)
  pub agree :
      (ds : List Decoder) (b : List ℕ) (s : Survey)
      → surveyed b ≡ Ok s
      → (t : Taken) × (taking ds b ≡ Ok t) × CountsAgree ds b t s
  -- what it does not hear leaves it as it was, and nobody hears an idle packet
  pub unheard : (d : Decoder) (bs : List ℕ) → hears d bs ≡ false → lives d (heard bs ∷ []) ≡ d
  pub idle : (d : Decoder) (bs : List ℕ) (i : Instruction) → packet_read bs ≡ Ok (packet_of Idle i) → hears d bs ≡ false
  -- the call that takes a block answers these counts
  pub answers : (ds : List Decoder) (b : Bor (List ℕ)) (t : Taken) → answer_to ds (Take b) ≡ Ok (answer.Taken t) → taking ds b.now ≡ Ok t

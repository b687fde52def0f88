-- The laws of the counts of a block. Assumes nothing.
use Rattle.std.proofs.Common.{◌≡◌, ℕ, suc, ◌+◌, ◌<◌, ◌≤◌, ◌⊎◌, ⊎_elim, Bool, true, false, cond}
use Rattle.std.proofs.Common.{List, [], ◌∷◌, map, length, is_err, is_some, Some, None, Ok, Err}
use Rattle.std.proofs.Common.{Option, Result, sym, refl, ap, ◌∙◌, arith}
use Rattle.std.proofs.lemmas.Bool.{true≢false, cond-true, cond-false}
use Rattle.std.proofs.lemmas.Bool.Decides.{nat_tests}
use Rattle.fault.specs.declared.fault.Fault.{Fault}
use Rattle.fault.specs.declared.refusal.Refusal.{Refusal}
use Rattle.fault.specs.declared.refusal.Refusal.TheVariants.{BlockLength}
use Rattle.fault.specs.Places.{fault_at}
use Rattle.packet.specs.declared.instruction.Instruction.{Instruction}
use Rattle.packet.specs.declared.target.Target.TheVariants.{Idle}
use Rattle.format.specs.Reading.{Told, packet_of, packet_read}
use Rattle.block.specs.declared.summary.Survey.{Survey}
use Rattle.block.specs.Contents.{Thing, is_block_length}
use Rattle.block.specs.Contents.Thing.{fill, power_up, packet}
use Rattle.block.specs.Reading.{reading, carried}
use Rattle.block.specs.Summing.{summed, surveyed}
use Rattle.block.specs.Laws.{packets_among, packets_of}
use Rattle.block.proofs.Agreements.{laws as blocks}
use Rattle.decoder.specs.Alone.{Own, Rules, hearing, obeyed}
use Rattle.decoder.specs.Alone.{mobile_rules, basic_rules, extended_rules}
use Rattle.decoder.specs.Alone.Event.{heard}
use Rattle.decoder.specs.declared.role.Role.{Role}
use Rattle.script.specs.declared.taken.Taken.{Taken}
use Rattle.script.specs.declared.answer.Answer.{Answer}
use Rattle.script.specs.declared.answer.Answer.TheVariants as answer
use Rattle.script.specs.Decoders.{Decoder, lives, hears, answered}
use Rattle.script.specs.Decoders.Decoder.{mobile, basic, extended}
use Rattle.script.specs.Calls.{met, some_hears, outcome, sent, earlier, noted, counts, nothing_taken, taken_from, taking, given}
use Rattle.script.specs.Laws.{refused_among, refused_first, first_refused, CountsAgree, CountsAddUp}
use Rattle.script.specs.Records.{heard_among, unheard_among}
use Rattle.script.proofs.Placed.{counts_heard, counts_unheard}

-- ---- one packet more

noted_all : (t : Taken) (o : ℕ) (r : Result Bool Refusal) → (noted t o r).heard + (noted t o r).unheard + (noted t o r).refused ≡ t.heard + t.unheard + t.refused + 1
noted_all t o (Ok true) = omega arith
noted_all t o (Ok false) = omega arith
noted_all t o (Err e) = omega arith

noted_refused : (t : Taken) (o n : ℕ) (r : Told) (b : Bool) → (noted t o (outcome r b)).refused + n ≡ t.refused + cond (is_err r) (suc n) n
noted_refused t o n (Ok p) true = refl
noted_refused t o n (Ok p) false = refl
noted_refused t o n (Err e) b = omega arith

-- what is told of two refusals
first_of : Option Fault → Option Fault → Option Fault
first_of None g = g
first_of (Some f) g = Some f

noted_first : (t : Taken) (o : ℕ) (g : Option Fault) (r : Told) (b : Bool) → first_of (noted t o (outcome r b)).refusal g ≡ first_of t.refusal (refused_first r o g)
unfolding first_of
noted_first t o g (Ok p) true = refl
noted_first t o g (Ok p) false = refl
noted_first t o g (Err e) b = go t.refusal
  where
    go : (f : Option Fault) → first_of (earlier f (fault_at e o)) g ≡ first_of f (Some (fault_at e o))
    go None = refl
    go (Some f) = refl

-- ---- all records

counts_all : (t : Taken) (ds : List Decoder) (rs : List (ℕ × Thing)) → (counts t ds rs).heard + (counts t ds rs).unheard + (counts t ds rs).refused ≡ t.heard + t.unheard + t.refused + length (packets_among rs)
counts_all t ds [] = omega arith
counts_all t ds ((o, fill) ∷ rs) = counts_all t (map (met fill) ds) rs
counts_all t ds ((o, power_up) ∷ rs) = counts_all t (map (met power_up) ds) rs
counts_all t ds ((o, packet p) ∷ rs) = omega (arith, counts_all (noted t o (sent ds p)) (map (met (packet p)) ds) rs, noted_all t o (sent ds p))

counts_refused : (t : Taken) (ds : List Decoder) (rs : List (ℕ × Thing)) → (counts t ds rs).refused ≡ t.refused + refused_among (packets_among rs)
counts_refused t ds [] = omega arith
counts_refused t ds ((o, fill) ∷ rs) = counts_refused t (map (met fill) ds) rs
counts_refused t ds ((o, power_up) ∷ rs) = counts_refused t (map (met power_up) ds) rs
counts_refused t ds ((o, packet p) ∷ rs) = counts_refused (noted t o (sent ds p)) (map (met (packet p)) ds) rs ∙ noted_refused t o (refused_among (packets_among rs)) (packet_read p) (some_hears ds p)

counts_first : (t : Taken) (ds : List Decoder) (rs : List (ℕ × Thing)) → (counts t ds rs).refusal ≡ first_of t.refusal (first_refused rs)
unfolding first_of
counts_first t ds [] = go t.refusal
  where
    go : (f : Option Fault) → f ≡ first_of f None
    go None = refl
    go (Some f) = refl
counts_first t ds ((o, fill) ∷ rs) = counts_first t (map (met fill) ds) rs
counts_first t ds ((o, power_up) ∷ rs) = counts_first t (map (met power_up) ds) rs
counts_first t ds ((o, packet p) ∷ rs) = counts_first (noted t o (sent ds p)) (map (met (packet p)) ds) rs ∙ noted_first t o (first_refused rs) (packet_read p) (some_hears ds p)

-- ---- a block

-- what is answered
abbrev answer_or : {A : Type 0} → A → Result A Fault → A
answer_or x (Ok y) = y
answer_or x (Err e) = x

-- what is not refused has a good length
pub good :
    {A : Type 0} (c : Bool) (x y : A) (e : Fault)
    → cond c (Ok x) (Err e) ≡ Ok y
    → (c ≡ true) × (y ≡ x)
good true x y e f = (refl, sym (ap (answer_or x) f))
good false x y e f = let z : ◌≡◌ {A = ℕ} 0 1 = cc in absurd (omega arith)

pub given_all : (b : List ℕ) → is_block_length (length b) ≡ true → given b ≡ carried (reading b)
given_all b e = cond-true _ _ _ e

is_long : (n : ℕ) → 1 ≤ n → n ≤ 512 → is_block_length n ≡ true
is_long n low high = grind (arith, nat_tests)

is_not : (n : ℕ) → (n ≡ 0) ⊎ (512 < n) → is_block_length n ≡ false
is_not n h = ⊎_elim (λ e. grind (arith, nat_tests)) (λ l. grind (arith, nat_tests)) h

refused : (ds : List Decoder) (b : List ℕ) → (length b ≡ 0) ⊎ (512 < length b) → (surveyed b ≡ Err (fault_at BlockLength 0)) × (taking ds b ≡ Err (fault_at BlockLength 0)) × (given b ≡ [])
refused ds b h = let e = is_not (length b) h in (cond-false _ _ _ e, cond-false _ _ _ e, cond-false _ _ _ e)

agree :
    (ds : List Decoder) (b : List ℕ) (s : Survey)
    → surveyed b ≡ Ok s
    → (t : Taken) × (taking ds b ≡ Ok t) × CountsAgree ds b t s
unfolding first_of
agree ds b s e =
    let is = good (is_block_length (length b)) (summed (length b) (reading b)) s (fault_at BlockLength 0) e in
    let all = counts_all nothing_taken ds (carried (reading b)) in
    let given_is = given_all b is.0 in
    let heard = counts_heard nothing_taken ds (carried (reading b)) in
    let unheard = counts_unheard nothing_taken ds (carried (reading b)) in
    let carries : s.packets ≡ length (packets_of b) = (blocks.counts b s e).0 in
    let refused = counts_refused nothing_taken ds (carried (reading b)) in (
      taken_from ds b,
      cond-true _ _ _ is.0,
      record {
        packets = omega (arith, all, carries);
        heard = omega (arith, heard) ∙ ap (heard_among ds) (sym given_is);
        unheard = omega (arith, unheard) ∙ ap (unheard_among ds) (sym given_is);
        refused = omega (arith, refused);
        first = counts_first nothing_taken ds (carried (reading b));
        fault = ap (λ (z : Survey). z.fault) (sym is.1);
      },
    )

-- a packet that is not heard
obeyed_none : {X : Type 0} (m : Rules X) (o : Own X) (bs : List ℕ) (h : Option (Role × Instruction)) → is_some h ≡ false → obeyed m o bs h ≡ o
obeyed_none m o bs None e = refl
obeyed_none m o bs (Some h) e = absurd (true≢false e)

unheard : (d : Decoder) (bs : List ℕ) → hears d bs ≡ false → lives d (heard bs ∷ []) ≡ d
unfolding hears lives
unheard (mobile o) bs e = ap mobile (obeyed_none mobile_rules o bs _ e)
unheard (basic o) bs e = ap basic (obeyed_none basic_rules o bs _ e)
unheard (extended o) bs e = ap extended (obeyed_none extended_rules o bs _ e)

idle : (d : Decoder) (bs : List ℕ) (i : Instruction) → packet_read bs ≡ Ok (packet_of Idle i) → hears d bs ≡ false
unfolding hears
idle (mobile o) bs i e = ap (λ r. is_some (hearing mobile_rules o r)) e
idle (basic o) bs i e = ap (λ r. is_some (hearing basic_rules o r)) e
idle (extended o) bs i e = ap (λ r. is_some (hearing extended_rules o r)) e

-- the counts of an answer
abbrev counts_in : Taken → Answer → Taken
counts_in t (answer.Taken u) = u
counts_in t answer.Set = t
counts_in t (answer.State s) = t
counts_in t (answer.Variable x) = t
counts_in t (answer.Function on) = t
counts_in t (answer.BinaryState on) = t

taken_back : (r : Result Taken Fault) (t : Taken) → answered answer.Taken r ≡ Ok (answer.Taken t) → r ≡ Ok t
taken_back (Ok u) t e = ap (λ x. Ok (counts_in u (answer_or (answer.Taken u) x))) e
taken_back (Err f) t e = let z : ◌≡◌ {A = ℕ} 0 1 = cc in absurd (omega arith)

pub laws : CountsAddUp
laws = record {
  refused = refused;
  surveys = λ b low high. (summed (length b) (reading b), cond-true _ _ _ (is_long (length b) low high));
  agree = agree;
  unheard = unheard;
  idle = idle;
  answers = λ ds b t e. taken_back (taking ds b.now) t e;
}

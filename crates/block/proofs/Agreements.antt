-- The laws of surveys and of what is handed out. Assumes nothing.
use Rattle.std.proofs.Common.{◌≡◌, ℕ, suc, ◌+◌, ◌<◌, ◌≤◌, true, false, ◌⊎◌, ⊎_elim, List, [], ◌∷◌, length, slice_get, Ok, refl, ap, ◌∙◌, arith}
use Rattle.std.proofs.lemmas.Bool.{cond-true, cond-false}
use Rattle.std.proofs.lemmas.Bool.Decides.{nat_tests}
use Rattle.std.specs.Option.{ok_or}
use Rattle.fault.specs.declared.refusal.Refusal.TheVariants.{NumberOutOfRange}
use Rattle.fault.specs.Places.{fault_at}
use Rattle.block.specs.declared.summary.Survey.{Survey}
use Rattle.block.specs.Contents.{Thing, is_block_length}
use Rattle.block.specs.Contents.Thing.{fill, power_up, packet}
use Rattle.block.specs.Reading.{reading, carried}
use Rattle.block.specs.Summing.{summed, surveyed, packet_count, power_up_count}
use Rattle.block.specs.Tiling.{Tiles}
use Rattle.block.specs.Laws.{packets_among, RefusesLengths, SurveysOthers, HandsOutEach, CountsEach, PacketsAgree}
use Rattle.block.specs.Handing.{bytes_in}
use Rattle.block.proofs.Handings.{packets, handed_bytes}
use Rattle.block.proofs.Tilings.{sound}

among : (rs : List (ℕ × Thing)) → packets rs ≡ packets_among rs
among [] = refl
among ((o, fill) ∷ rs) = among rs
among ((o, power_up) ∷ rs) = among rs
among ((o, packet p) ∷ rs) = ap (λ ps. p ∷ ps) (among rs)

hands_out_each : HandsOutEach
hands_out_each b n good =
    ap bytes_in (cond-true _ _ _ good) ∙ handed_bytes b n
    ∙ ap (λ ps. ok_or (slice_get ps n) (fault_at NumberOutOfRange 0))
    (among (carried (reading b.now)))

counted : (rs : List (ℕ × Thing)) → packet_count rs ≡ length (packets_among rs)
counted [] = refl
counted ((o, fill) ∷ rs) = counted rs
counted ((o, power_up) ∷ rs) = counted rs
counted ((o, packet p) ∷ rs) = ap suc (counted rs)

all_counted : (b : List ℕ) (rs : List (ℕ × Thing)) (o e : ℕ) → Tiles b o rs e → packet_count rs + power_up_count rs ≡ length rs
all_counted b [] o e t = refl
all_counted b ((at, fill) ∷ rs) o e t = absurd t.1.kind
all_counted b ((at, power_up) ∷ rs) o e t = omega (arith, all_counted b rs _ e t.2)
all_counted b ((at, packet p) ∷ rs) o e t = omega (arith, all_counted b rs _ e t.2)

-- a survey that is not refused is that of the block's reading
sum_of : (b : List ℕ) (s : Survey) → surveyed b ≡ Ok s → s ≡ summed (length b) (reading b)
sum_of b s e = grind arith

counts_each : CountsEach
counts_each b s e =
    let is = sum_of b s e in
    let p : s.packets ≡ packet_count (carried (reading b)) = ap (λ (t : Survey). t.packets) is in
    let u : s.power_ups ≡ power_up_count (carried (reading b)) = ap (λ (t : Survey). t.power_ups) is in
    (p ∙ counted (carried (reading b)), omega (arith, p, u, all_counted b (carried (reading b)) 0 _ (sound b).0))

a_length : (n : ℕ) → 1 ≤ n → n ≤ 512 → is_block_length n ≡ true
a_length n low high = grind (arith, nat_tests)

no_length : (n : ℕ) → (n ≡ 0) ⊎ (512 < n) → is_block_length n ≡ false
no_length n h = ⊎_elim (λ e. grind (arith, nat_tests)) (λ l. grind (arith, nat_tests)) h

refuses : RefusesLengths
refuses b h =
    let e = no_length (length b) h in
    record {
      checked = cond-false _ _ _ e;
      handed = λ lent n is. cond-false _ _ _ (ap (λ l. is_block_length (length l)) is ∙ e);
      survey = cond-false _ _ _ e;
    }

surveys : SurveysOthers
surveys b low high = let e = a_length (length b) low high in (cond-true _ _ _ e, (summed (length b) (reading b), cond-true _ _ _ e))

pub laws : PacketsAgree
laws = record { refuses = refuses; surveys = surveys; hands_out = hands_out_each; counts = counts_each }

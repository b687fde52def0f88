-- What was written to the front of a place reads as itself. Assumes nothing.
use Rattle.std.proofs.Common.{◌≡◌, ℕ, List, ◌++◌, length, take, drop, Ok, Err, sym, ap, ◌∙◌, arith}
use Rattle.std.proofs.lemmas.List.{take_at}
use Rattle.std.proofs.lemmas.Bool.Decides.{nat_tests}
use Rattle.packet.specs.declared.target.Target.{Target}
use Rattle.packet.specs.declared.instruction.Instruction.{Instruction}
use Rattle.format.specs.Reading.{packet_of, packet_read}
use Rattle.format.specs.Writing.{Coded, encoded, answer, after}
use Rattle.format.proofs.Rounds.{written_reads}

-- an answer tells the bytes that stand at the front now
front_is : (x : Coded) (place : List ℕ) (n : ℕ) → answer x place ≡ Ok n → x ≡ Ok (take n (after x place))
front_is (Err e) place n h = absurd (grind arith)
front_is (Ok bs) place n h =
    let l : length bs ≡ n = grind (arith, nat_tests) in
    let a : after (Ok bs) place ≡ bs ++ drop (length bs) place = grind (arith, nat_tests) in
    ap Ok (sym (ap (take n) a ∙ take_at bs (drop (length bs) place) n l))

pub placed_reads :
    (t : Target) (i : Instruction) (place now : List ℕ) (n : ℕ)
    → now ≡ after (encoded t i) place
    → answer (encoded t i) place ≡ Ok n
    → packet_read (take n now) ≡ Ok (packet_of t i)
placed_reads t i place now n p e = ap (λ l. packet_read (take n l)) p ∙ written_reads t i _ (front_is (encoded t i) place n e)

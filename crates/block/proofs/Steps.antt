-- One step of the reading of a block.
use Rattle.std.proofs.Common.{◌≡◌, ℕ, zero, suc, ◌+◌, ◌<◌, ◌≤◌, List, [], ◌∷◌, length, get_or, drop, Some, None, Ok, Err, Option, Result, sym, refl, ap, ◌∙◌, ⊎_elim, add-zero, arith}
use Rattle.std.proofs.lemmas.List.{at_drop_more, at_drop_all, drop-drop}
use Rattle.std.proofs.lemmas.Bool.{cond-true, cond-false, lt-ltb, le-ltb, cases_lt}
use Rattle.fault.specs.declared.fault.Fault.{Fault}
use Rattle.block.specs.Contents.{Thing, Placed, thing_of, placed, record_at}
use Rattle.block.specs.Contents.Thing.{fill, power_up, packet}
use Rattle.block.specs.Reading.{Reading, read_on, reading_from}
use Rattle.block.specs.Reading.Reading.{done, filled, broken, more}

read_skip : (k o : ℕ) (xs : List ℕ) → read_on k o xs ≡ read_on 0 (o + k) (drop k xs)
unfolding read_on
read_skip zero o xs = ap (λ n. read_on 0 n xs) (sym (add-zero o))
read_skip (suc k) o [] = refl
read_skip (suc k) o (x ∷ xs) = let e : o + 1 + k ≡ o + suc k = omega arith in read_skip k (o + 1) xs ∙ ap (λ n. read_on 0 n (drop k xs)) e

-- how the reading goes on behind the record t
abbrev pub passing : List ℕ → ℕ → Thing → ℕ → Reading
passing b o fill next = filled o
passing b o power_up next = more o power_up (reading_from b next)
passing b o (packet p) next = more o (packet p) (reading_from b next)

-- how it goes on at o, where `record_at` says r
abbrev pub onward : List ℕ → ℕ → Result (Option Placed) Fault → Reading
onward b o (Ok None) = done
onward b o (Ok (Some p)) = passing b o p.thing p.up_to
onward b o (Err e) = broken o e

-- a turn of `read_on`, where the record is r and xs stands behind its kind byte
abbrev turn : ℕ → List ℕ → Result Thing Fault → Reading
turn o xs r = elim r [ Ok t ↦ elim t [ fill ↦ filled o | power_up ↦ more o power_up (read_on zero (o + 1) xs) | packet p ↦ more o (packet p) (read_on (length p) (o + 1) xs) ] | Err e ↦ broken o e ]

read_turn : (o x : ℕ) (xs : List ℕ) → read_on 0 o (x ∷ xs) ≡ turn o xs (thing_of o x xs)
unfolding read_on
read_turn o x xs = refl

turn_onward : (b : List ℕ) (o : ℕ) (r : Result Thing Fault) → turn o (drop (o + 1) b) r ≡ onward b o (placed b o r)
turn_onward b o (Ok fill) = refl
turn_onward b o (Ok power_up) = refl
turn_onward b o (Ok (packet p)) = ap (more o (packet p)) (read_skip (length p) (o + 1) (drop (o + 1) b) ∙ ap (λ l. read_on 0 (o + 1 + length p) l) (drop-drop (length p) (o + 1) b))
turn_onward b o (Err e) = refl

pub reads_on : (b : List ℕ) (o : ℕ) → o < length b → reading_from b o ≡ onward b o (placed b o (thing_of o (get_or b o 0) (drop (o + 1) b)))
reads_on b o h = at_drop_more (read_on 0 o) b o 0 h ∙ read_turn o (get_or b o 0) (drop (o + 1) b) ∙ turn_onward b o (thing_of o (get_or b o 0) (drop (o + 1) b))

pub reads_end : (b : List ℕ) (o : ℕ) → length b ≤ o → reading_from b o ≡ done
unfolding read_on
reads_end b o h = at_drop_all (read_on 0 o) b o h

pub reads : (b : List ℕ) (o : ℕ) → reading_from b o ≡ onward b o (record_at b o)
reads b o =
    ⊎_elim
    (λ lt. reads_on b o lt ∙ ap (onward b o) (sym (cond-true _ _ _ (lt-ltb o (length b) lt))))
    (λ past. reads_end b o past ∙ ap (onward b o) (sym (cond-false _ _ _ (le-ltb o (length b) past))))
    (cases_lt o (length b))

-- where r is what `record_at` found there
pub reads_as : (b : List ℕ) (o : ℕ) (r : Result (Option Placed) Fault) → r ≡ record_at b o → reading_from b o ≡ onward b o r
reads_as b o r e = reads b o ∙ ap (onward b o) (sym e)

-- Where the packets of a block stand.
use Rattle.std.proofs.Common.{◌≡◌, ℕ, zero, suc, ◌+◌, ◌-◌, List, [], ◌∷◌, length, map, take, drop, slice_get, Some, None, Ok, Err, Option, Result, sym, refl, ap, ◌∙◌, arith, Bor}
use Rattle.std.proofs.lemmas.List.{drop-drop}
use Rattle.std.proofs.lemmas.Bool.{cond-false, ne_eqb}
use Rattle.std.specs.List.{filter_map, cons_option}
use Rattle.std.specs.Option.{ok_or}
use Rattle.fault.specs.declared.fault.Fault.{Fault}
use Rattle.fault.specs.declared.refusal.Refusal.TheVariants.{NumberOutOfRange}
use Rattle.fault.specs.Places.{fault_at}
use Rattle.block.specs.declared.records.Carried.{Carried}
use Rattle.block.specs.declared.records.Record.{Record}
use Rattle.block.specs.declared.records.Record.TheVariants.{Fill, PowerUp, Packet}
use Rattle.block.specs.Contents.{Thing, part}
use Rattle.block.specs.Contents.Thing.{fill, power_up, packet}
use Rattle.block.specs.Handing.{packet_place, part_at, bytes_in}
use Rattle.block.specs.Reading.{Reading, reading, carried}
use Rattle.block.specs.Reading.Reading.{done, filled, broken, more}
use Rattle.block.specs.Tiling.{Tiles, Stands}
use Rattle.block.specs.Walking.{items_of, record_as, item_as}
use Rattle.block.proofs.Tilings.{sound}

behind : (xs : List ℕ) (k : ℕ) (p : List ℕ) → take (suc k) xs ≡ k ∷ p → take k (drop 1 xs) ≡ p
behind [] k p e = cc
behind (x ∷ xs) k p e = cc

packet_stands : (b : List ℕ) (o : ℕ) (p : List ℕ) → Stands b o (packet p) → take (length p) (drop (o + 1) b) ≡ p
packet_stands b o p s = ap (take (length p)) (sym (drop-drop 1 o b)) ∙ behind (drop o b) (length p) p s.bytes

-- the packet that an item of a walk lends
abbrev packet_lent : Record → Option (Bor (List ℕ))
packet_lent Fill = None
packet_lent PowerUp = None
packet_lent (Packet p) = Some p

abbrev pub item_lent : Result Carried Fault → Option (Bor (List ℕ))
item_lent (Ok c) = packet_lent c.«record»
item_lent (Err e) = None

-- the parts of the block b that are the packets among records, as a walk lends them
abbrev parts : Bor (List ℕ) → List (ℕ × Thing) → List (Bor (List ℕ))
parts b rs = filter_map (λ r. packet_lent (record_as b r.0 r.1)) rs

items_parts :
    (b : Bor (List ℕ)) (r : Reading)
    → filter_map item_lent (map (item_as b) (items_of b.now r)) ≡ parts b (carried r)
items_parts b done = refl
items_parts b (filled o) = refl
items_parts b (broken o e) = refl
items_parts b (more o t r) = ap (cons_option (packet_lent (record_as b o t))) (items_parts b r)

-- the n-th of them, where the records stand in the block
places :
    (b : Bor (List ℕ)) (rs : List (ℕ × Thing)) (o e n : ℕ)
    → Tiles b.now o rs e
    → ok_or (slice_get (parts b rs) n) (fault_at NumberOutOfRange 0) ≡ part_at b (packet_place n rs)
places b [] o e n t = refl
places b ((at, fill) ∷ rs) o e n t = absurd t.1.kind
places b ((at, power_up) ∷ rs) o e n t = places b rs _ e n t.2
places b ((at, packet p) ∷ rs) o e zero t =
    let stands : take (length p) (drop (at + 1) b.now) ≡ p
    = ap (λ k. take (length p) (drop (k + 1) b.now)) t.0 ∙ packet_stands b.now o p t.1
    in
    ap (λ l. Ok (part b (at + 1) l)) (sym stands)
places b ((at, packet p) ∷ rs) o e (suc n) t =
    let less : suc n - 1 ≡ n = omega arith in
    let other = cond-false _ _ _ (ne_eqb (suc n) 0 (omega arith)) in
    places b rs _ e n t.2 ∙ ap (part_at b) (ap (λ k. packet_place k rs) (sym less) ∙ sym other)

-- r is the packet that n others stand before
pub handed :
    (b : Bor (List ℕ)) (r : Option (Bor (List ℕ))) (n : ℕ)
    → r ≡ slice_get (filter_map item_lent (map (item_as b) (items_of b.now (reading b.now)))) n
    → ok_or r (fault_at NumberOutOfRange 0) ≡ part_at b (packet_place n (carried (reading b.now)))
handed b r n e =
    let is = e ∙ ap (λ l. slice_get l n) (items_parts b (reading b.now)) in
    ap (λ o. ok_or o (fault_at NumberOutOfRange 0)) is
    ∙ places b (carried (reading b.now)) 0 _ n (sound b.now).0

-- the bytes of the packets among the records
abbrev packet_bytes : Thing → Option (List ℕ)
packet_bytes fill = None
packet_bytes power_up = None
packet_bytes (packet p) = Some p

abbrev pub packets : List (ℕ × Thing) → List (List ℕ)
packets rs = filter_map (λ r. packet_bytes r.1) rs

same_bytes :
    (b : Bor (List ℕ)) (rs : List (ℕ × Thing)) (n : ℕ)
    → bytes_in (ok_or (slice_get (parts b rs) n) (fault_at NumberOutOfRange 0))
    ≡ ok_or (slice_get (packets rs) n) (fault_at NumberOutOfRange 0)
same_bytes b [] n = refl
same_bytes b ((at, fill) ∷ rs) n = same_bytes b rs n
same_bytes b ((at, power_up) ∷ rs) n = same_bytes b rs n
same_bytes b ((at, packet p) ∷ rs) zero = refl
same_bytes b ((at, packet p) ∷ rs) (suc n) = same_bytes b rs n

pub handed_bytes :
    (b : Bor (List ℕ)) (n : ℕ)
    → bytes_in (part_at b (packet_place n (carried (reading b.now))))
    ≡ ok_or (slice_get (packets (carried (reading b.now))) n) (fault_at NumberOutOfRange 0)
handed_bytes b n =
    ap bytes_in (sym (places b (carried (reading b.now)) 0 _ n (sound b.now).0))
    ∙ same_bytes b (carried (reading b.now)) n

-- Whole packets: an accepted packet is written back to its own bytes. Assumes nothing.
use Rattle.std.proofs.Common.{◌≡◌, ℕ, ◌+◌, ◌-◌, ◌*◌, ◌/◌, ◌%◌, ◌<◌, ◌≤◌, true, List, [], ◌∷◌, ◌++◌, length, get_or, take, Ok, Err, sym, refl, ap, ◌∙◌, ⊎_elim, arith}
use Rattle.std.proofs.ByRecursion.{All-take}
use Rattle.std.proofs.lemmas.List.{take_more, take_all}
use Rattle.std.proofs.lemmas.Bool.{cases_lt, cases_Bool}
use Rattle.std.proofs.lemmas.Bool.Decides.{nat_tests}
use Rattle.std.specs.List.{AllByRecursion}
use Rattle.packet.specs.declared.target.Target.{Target}
use Rattle.packet.specs.declared.target.Target.TheVariants.{Idle, Broadcast, Short, Long, Basic, Extended}
use Rattle.packet.specs.declared.instruction.Instruction.{Instruction}
use Rattle.packet.specs.declared.instruction.Instruction.TheVariants.{NoOperation}
use Rattle.packet.specs.declared.packet.Packet.{Packet}
use Rattle.packet.specs.Parity.{parity, sealed}
use Rattle.format.specs.Reading.{Asked, packet_of, told, mobile, basic, extended, basic_address, extended_address, is_extended_head, long, idle, accessory, addressed, front, packet_read}
use Rattle.format.specs.Writing.{form_of, body_of, output_bits, basic_second, extended_second, head_of, encoded}
use Rattle.format.proofs.Forths.{mobile_forth, basic_forth, extended_forth}
use Rattle.packet.proofs.Parities.{parity_last}

told_parts : (d : Target) (r : Asked) (p : Packet) → told d r ≡ Ok p → (d ≡ p.target) × (r ≡ Ok p.instruction)
told_parts d (Ok j) p e =
    let q : ◌≡◌ {A = Packet} (packet_of d j) p = cc in
    (ap (λ (x : Packet). x.target) q, ap (λ (x : Packet). Ok x.instruction) q)
told_parts d (Err x) p e = absurd (grind arith)

-- the two parts that write xs
record Split (p : Packet) (xs : List ℕ) : Type 0 where
  head : List ℕ
  body : List ℕ
  head_is : head_of p.target (form_of p.instruction) ≡ Ok head
  body_is : body_of p.target (form_of p.instruction) ≡ Ok body
  whole : head ++ body ≡ xs

-- a target with its head, and an instruction with its body
split : (t : Target) (h b : List ℕ) (r : Asked) (p : Packet) → told t r ≡ Ok p → ((i : Instruction) → r ≡ Ok i → (head_of t (form_of i) ≡ Ok h) × (body_of t (form_of i) ≡ Ok b)) → Split p (h ++ b)
split t h b r p e writes =
    let q = told_parts t r p e in
    let w = writes p.instruction q.1 in
    record {
      head = h;
      body = b;
      head_is = rw (sym q.0) w.0;
      body_is = rw (sym q.0) w.1;
      whole = refl;
    }

short_forth : (b : ℕ) (bs : List ℕ) (p : Packet) → AllByRecursion (λ x. x < 256) bs → b < 0x80 → addressed (b ∷ bs) ≡ Ok p → Split p (b ∷ bs)
unfolding addressed
short_forth b bs p a l e =
    ⊎_elim
    (λ z.
    let q : told Broadcast (mobile bs) ≡ Ok p = grind (arith, nat_tests) in
    let s = split Broadcast (0 ∷ []) bs (mobile bs) p q (λ i f. (refl, mobile_forth bs a i f)) in
    let z : b ≡ 0 = omega arith in rw z s)
    (λ m.
    let q : told (Short b) (mobile bs) ≡ Ok p = grind (arith, nat_tests) in
    split (Short b) (b ∷ []) bs (mobile bs) p q (λ i f. (grind (arith, nat_tests), mobile_forth bs a i f)))
    (cases_lt b 1)

long_forth : (b d : ℕ) (bs : List ℕ) (p : Packet) → AllByRecursion (λ x. x < 256) (d ∷ bs) → 0xc0 ≤ b → b < 0xe8 → addressed (b ∷ d ∷ bs) ≡ Ok p → Split p (b ∷ d ∷ bs)
unfolding addressed long
long_forth b d bs p a l m e =
    let q : told (Long (256 * (b - 0xc0) + d)) (mobile bs) ≡ Ok p = grind (arith, nat_tests) in
    split (Long (256 * (b - 0xc0) + d)) (b ∷ d ∷ []) bs (mobile bs) p q (λ i f. (grind (arith, nat_tests), mobile_forth bs a.1 i f))

basic_head :
    (b d : ℕ) (o : ℕ) → 0x80 ≤ b → b < 0xc0 → 0x80 ≤ d → d < 256 → o ≡ d % 16
    → (basic_address b d < 512)
    × (0x80 + basic_address b d % 64 ≡ b)
    × (basic_second (basic_address b d) o ≡ d)
basic_head b d o l m n k e = (omega arith, omega arith, omega arith)

extended_head :
    (b d : ℕ) → 0x80 ≤ b → b < 0xc0 → is_extended_head d ≡ true
    → (extended_address b d < 2048)
    × (0x80 + extended_address b d / 4 % 64 ≡ b)
    × (extended_second (extended_address b d) ≡ d)
extended_head b d l m e =
    let p : d < 0x80 = grind (arith, nat_tests) in
    let q : d / 8 % 2 ≡ 0 = grind (arith, nat_tests) in
    let r : d % 2 ≡ 1 = grind (arith, nat_tests) in
    (omega arith, omega arith, omega arith)

basic_split : (b d : ℕ) (bs : List ℕ) (p : Packet) → AllByRecursion (λ x. x < 256) (d ∷ bs) → 0x80 ≤ b → b < 0xc0 → 0x80 ≤ d → told (Basic (basic_address b d)) (basic d bs) ≡ Ok p → Split p (b ∷ d ∷ bs)
basic_split b d bs p a l m n e =
    split (Basic (basic_address b d)) (b ∷ d ∷ []) bs (basic d bs) p e
    (λ i f.
    let w = basic_forth d bs a.1 i f in
    let h = basic_head b d (output_bits (form_of i)) l m n a.0 w.1 in
    (grind (arith, nat_tests), w.0))

extended_split : (b d : ℕ) (bs : List ℕ) (p : Packet) → AllByRecursion (λ x. x < 256) (d ∷ bs) → 0x80 ≤ b → b < 0xc0 → is_extended_head d ≡ true → told (Extended (extended_address b d)) (extended bs) ≡ Ok p → Split p (b ∷ d ∷ bs)
extended_split b d bs p a l m n e =
    split (Extended (extended_address b d)) (b ∷ d ∷ []) bs (extended bs) p e
    (λ i f. let h = extended_head b d l m n in (grind (arith, nat_tests), extended_forth bs a.1 i f))

accessory_forth : (b d : ℕ) (bs : List ℕ) (p : Packet) → AllByRecursion (λ x. x < 256) (d ∷ bs) → 0x80 ≤ b → b < 0xc0 → addressed (b ∷ d ∷ bs) ≡ Ok p → Split p (b ∷ d ∷ bs)
unfolding addressed accessory
accessory_forth b d bs p a l m e =
    ⊎_elim
    (λ s.
    ⊎_elim (λ x. extended_split b d bs p a l m x (grind (arith, nat_tests)))
    (λ x. grind (arith, nat_tests))
    (cases_Bool (is_extended_head d)))
    (λ n. basic_split b d bs p a l m n (grind (arith, nat_tests)))
    (cases_lt d 0x80)

idle-told : (b : ℕ) (bs : List ℕ) (p : Packet) → b < 256 → 0xe8 ≤ b → addressed (b ∷ bs) ≡ Ok p → (b ≡ 0xff) × (idle bs ≡ Ok p)
unfolding addressed
idle-told b bs p a l e = grind (arith, nat_tests)

idle-byte : (d : ℕ) (p : Packet) → idle (d ∷ []) ≡ Ok p → (d ≡ 0x00) × (packet_of Idle NoOperation ≡ p)
idle-byte d p e = grind (arith, nat_tests)

idle_split : (bs : List ℕ) (p : Packet) → idle bs ≡ Ok p → Split p (0xff ∷ bs)
idle_split (d ∷ []) p e =
    let q = idle-byte d p e in
    rw (q.0, sym q.1) (record { head = 0xff ∷ 0x00 ∷ []; body = []; head_is = refl; body_is = refl; whole = refl })
idle_split _ p e = grind arith

idle_forth : (b : ℕ) (bs : List ℕ) (p : Packet) → b < 256 → 0xe8 ≤ b → addressed (b ∷ bs) ≡ Ok p → Split p (b ∷ bs)
idle_forth b bs p a l e = let q = idle-told b bs p a l e in rw q.0 (idle_split bs p q.1)

addressed_forth : (xs : List ℕ) (p : Packet) → AllByRecursion (λ x. x < 256) xs → addressed xs ≡ Ok p → Split p xs
unfolding addressed accessory long
addressed_forth [] p a e = grind arith
addressed_forth (b ∷ bs) p a e =
    ⊎_elim (λ l. short_forth b bs p a.1 l e)
    (λ l. ⊎_elim (λ m. two bs a.1 l m e) (λ m. idle_forth b bs p a.0 m e) (cases_lt b 0xe8))
    (cases_lt b 0x80)
  where
    two : (cs : List ℕ) → AllByRecursion (λ x. x < 256) cs → 0x80 ≤ b → b < 0xe8 → addressed (b ∷ cs) ≡ Ok p → Split p (b ∷ cs)
    two [] h l m f = grind (arith, nat_tests)
    two (d ∷ cs) h l m f =
        ⊎_elim (λ n. accessory_forth b d cs p h l n f) (λ n. long_forth b d cs p h n m f) (cases_lt b 0xc0)

-- a packet that passes the test of its error byte is the bytes before it, sealed
front_seals : (bs : List ℕ) → 3 ≤ length bs → parity bs ≡ 0 → sealed (front bs) ≡ bs
front_seals bs l e =
    let k : length bs - 1 < length bs = omega arith in
    let n : length bs - 1 + 1 ≡ length bs = omega arith in
    let s : front bs ++ (get_or bs (length bs - 1) 0 ∷ []) ≡ bs
    = sym (take_more bs (length bs - 1) 0 k) ∙ ap (λ m. take m bs) n ∙ take_all (length bs) bs (omega arith)
    in
    ap (λ y. front bs ++ (y ∷ [])) (sym (parity_last (front bs) (get_or bs (length bs - 1) 0) (ap parity s ∙ e))) ∙ s

reading_parts : (bs : List ℕ) (p : Packet) → packet_read bs ≡ Ok p → (3 ≤ length bs) × (parity bs ≡ 0) × (addressed (front bs) ≡ Ok p)
reading_parts bs p e = grind (arith, nat_tests)

pub read_writes : (bs : List ℕ) → AllByRecursion (λ b. b < 256) bs → (p : Packet) → packet_read bs ≡ Ok p → encoded p.target p.instruction ≡ Ok bs
unfolding encoded
read_writes bs a p e =
    let q = reading_parts bs p e in
    let s = addressed_forth (front bs) p (All-take (λ b. b < 256) (length bs - 1) bs a) q.2 in
    rw (s.head_is, s.body_is) (ap Ok (ap sealed s.whole ∙ front_seals bs q.0 q.1))

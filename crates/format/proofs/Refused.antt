-- Each refusal stands exactly where its cause is the first that stands. Assumes nothing.
use Rattle.std.proofs.Common.{◌≡◌, ℕ, ◌+◌, ◌-◌, ◌*◌, ◌<◌, ◌≤◌, true, false, cond, not, ◌&&◌, eqb, ltb, leb, List, [], ◌∷◌, length, Some, None, Ok, Err, Option, sym, refl, ap, ◌∙◌, ⊎_elim, arith, length-take}
use Rattle.std.proofs.ByRecursion.{All-take}
use Rattle.packet.specs.Parity.{parity}
use Rattle.std.proofs.lemmas.Bool.{cases_lt, cases_Bool, cond-true, cond-false, ne_eqb, lt-ltb}
use Rattle.std.proofs.lemmas.Bool.Decides.{nat_tests}
use Rattle.std.specs.List.{AllByRecursion}
use Rattle.std.specs.Result.{result_err}
use Rattle.fault.specs.declared.refusal.Refusal.{Refusal}
use Rattle.fault.specs.declared.refusal.Refusal.TheVariants.{PacketLength, ErrorByte, ReservedAddress, AdvancedFormat, IdleForm, NoInstruction, AccessoryHead}
use Rattle.packet.specs.declared.target.Target.{Target}
use Rattle.packet.specs.declared.target.Target.TheVariants.{Broadcast, Short, Long, Basic, Extended}
use Rattle.format.specs.Reading.{Asked, Told, told, by_first, mobile, cv_access, basic, extended, basic_address, extended_address, is_extended_head, idle, long, accessory, addressed, front, packet_read}
use Rattle.format.specs.Refusing.{Cause, within, byte, first_cause, mobile_causes, basic_causes, extended_causes, accessory_causes, address_causes, causes}

abbrev refusal_of : Asked → Option Refusal
refusal_of (Ok i) = None
refusal_of (Err e) = Some e

told_refused : (t : Target) (r : Asked) → result_err (told t r) ≡ refusal_of r
told_refused t (Ok i) = refl
told_refused t (Err e) = refl

abbrev Mobile : ℕ → List ℕ → Type 0
Mobile b bs = refusal_of (by_first b bs) ≡ first_cause (mobile_causes (b ∷ bs))

-- tried: fewer ranges of the first byte; `grind` stops at its limit of case splits
control : (b : ℕ) (bs : List ℕ) → b < 0x10 → Mobile b bs
control b (c ∷ d ∷ f ∷ bs) l = grind (arith, nat_tests)
control b _ l = grind (arith, nat_tests)

consist_or_speed : (b : ℕ) (bs : List ℕ) → 0x10 ≤ b → b < 0x40 → Mobile b bs
consist_or_speed b (c ∷ d ∷ f ∷ bs) l m = grind (arith, nat_tests)
consist_or_speed b _ l m = grind (arith, nat_tests)

speed_forms : (b : ℕ) (bs : List ℕ) → 0x40 ≤ b → b < 0x80 → Mobile b bs
speed_forms b bs l m = grind (arith, nat_tests)

group_forms : (b : ℕ) (bs : List ℕ) → 0x80 ≤ b → b < 0xc0 → Mobile b bs
group_forms b bs l m = grind (arith, nat_tests)

state_form : (b : ℕ) (bs : List ℕ) → 0xc0 ≤ b → b < 0xd8 → Mobile b bs
state_form b (c ∷ d ∷ f ∷ bs) l m = grind (arith, nat_tests)
state_form b _ l m = grind (arith, nat_tests)

features : (b : ℕ) (bs : List ℕ) → 0xd8 ≤ b → b < 0xe0 → Mobile b bs
features b (c ∷ d ∷ f ∷ bs) l m = grind (arith, nat_tests)
features b _ l m = grind (arith, nat_tests)

last_forms : (b : ℕ) (bs : List ℕ) → 0xe0 ≤ b → b < 0x100 → Mobile b bs
last_forms b (c ∷ d ∷ f ∷ bs) l m = grind (arith, nat_tests)
last_forms b _ l m = grind (arith, nat_tests)

by_first_lem : (b : ℕ) (bs : List ℕ) → b < 256 → Mobile b bs
by_first_lem b bs h =
    ⊎_elim (control b bs) (λ l.
    ⊎_elim (consist_or_speed b bs l) (λ l.
    ⊎_elim (speed_forms b bs l) (λ l.
    ⊎_elim (group_forms b bs l) (λ l.
    ⊎_elim (state_form b bs l) (λ l.
    ⊎_elim (features b bs l) (λ l. last_forms b bs l h)
    (cases_lt b 0xe0)) (cases_lt b 0xd8)) (cases_lt b 0xc0)) (cases_lt b 0x80)) (cases_lt b 0x40)) (cases_lt b 0x10)

mobile_refused : (b : ℕ) (bs : List ℕ) → b < 256 → refusal_of (mobile (b ∷ bs)) ≡ first_cause (mobile_causes (b ∷ bs))
unfolding mobile
mobile_refused b bs h = by_first_lem b bs h

basic_refused : (head : ℕ) (is : List ℕ) → AllByRecursion (λ x. x < 256) is → refusal_of (basic head is) ≡ first_cause (basic_causes head is)
unfolding cv_access
basic_refused head (b ∷ c ∷ d ∷ f ∷ bs) h = grind (arith, nat_tests)
basic_refused head _ h = grind (arith, nat_tests)

extended_refused : (is : List ℕ) → AllByRecursion (λ x. x < 256) is → refusal_of (extended is) ≡ first_cause (extended_causes is)
unfolding cv_access extended
extended_refused (b ∷ c ∷ d ∷ f ∷ bs) h = grind (arith, nat_tests)
extended_refused _ h = grind (arith, nat_tests)

abbrev Addressed : List ℕ → Type 0
Addressed xs = result_err (addressed xs) ≡ first_cause (address_causes xs)

-- the answer is r for a target, and the causes are those of r
joined : (xs : List ℕ) (t : Target) (r : Asked) (cs : List Cause) → addressed xs ≡ told t r → refusal_of r ≡ first_cause cs → address_causes xs ≡ cs → Addressed xs
joined xs t r cs e f g = ap result_err e ∙ told_refused t r ∙ f ∙ sym (ap first_cause g)

broadcast_told : (b : ℕ) (bs : List ℕ) → b < 1 → addressed (b ∷ bs) ≡ told Broadcast (mobile bs)
unfolding addressed
broadcast_told b bs l = grind (arith, nat_tests)

short_told : (b : ℕ) (bs : List ℕ) → 1 ≤ b → b < 0x80 → addressed (b ∷ bs) ≡ told (Short b) (mobile bs)
unfolding addressed
short_told b bs l m = grind (arith, nat_tests)

short_refused : (b d : ℕ) (bs : List ℕ) → d < 256 → b < 0x80 → Addressed (b ∷ d ∷ bs)
short_refused b d bs h l =
    let c : address_causes (b ∷ d ∷ bs) ≡ mobile_causes (d ∷ bs) = cond-true (ltb b 0x80) _ _ (lt-ltb b 0x80 l) in
    ⊎_elim (λ z. joined _ _ _ _ (broadcast_told b (d ∷ bs) z) (mobile_refused d bs h) c)
    (λ z. joined _ _ _ _ (short_told b (d ∷ bs) z l) (mobile_refused d bs h) c) (cases_lt b 1)

long-mobile : (b d : ℕ) (bs : List ℕ) → 0xc0 ≤ b → b < 0xe8 → addressed (b ∷ d ∷ bs) ≡ told (Long (256 * (b - 0xc0) + d)) (mobile bs)
unfolding addressed long
long-mobile b d bs l m = grind (arith, nat_tests)

long-causes : (b d : ℕ) (bs : List ℕ) → 0xc0 ≤ b → b < 0xe8 → address_causes (b ∷ d ∷ bs) ≡ (eqb (length (b ∷ d ∷ bs)) 2, NoInstruction) ∷ mobile_causes bs
long-causes b d bs l m = grind (arith, nat_tests)

no_instruction : refusal_of (mobile []) ≡ Some NoInstruction
unfolding mobile
no_instruction = refl

long_refused : (b d : ℕ) (bs : List ℕ) → AllByRecursion (λ x. x < 256) bs → 0xc0 ≤ b → b < 0xe8 → Addressed (b ∷ d ∷ bs)
long_refused b d [] a l m = joined _ _ _ _ (long-mobile b d [] l m) no_instruction (long-causes b d [] l m)
long_refused b d (c ∷ bs) a l m =
    let n : eqb (length (b ∷ d ∷ c ∷ bs)) 2 ≡ false = ne_eqb (length (b ∷ d ∷ c ∷ bs)) 2 (λ e. omega arith) in
    joined _ _ _ _ (long-mobile b d (c ∷ bs) l m)
    (mobile_refused c bs a.0 ∙ sym (cond-false (eqb (length (b ∷ d ∷ c ∷ bs)) 2) (Some NoInstruction) (first_cause (mobile_causes (c ∷ bs))) n))
    (long-causes b d (c ∷ bs) l m)

accessory-told : (b d : ℕ) (bs : List ℕ) → 0x80 ≤ b → b < 0xc0 → addressed (b ∷ d ∷ bs) ≡ cond (leb 0x80 d) (told (Basic (basic_address b d)) (basic d bs)) (cond (is_extended_head d) (told (Extended (extended_address b d)) (extended bs)) (Err AccessoryHead))
unfolding addressed accessory
accessory-told b d bs l m = grind (arith, nat_tests)

accessory-causes : (b d : ℕ) (bs : List ℕ) → 0x80 ≤ b → b < 0xc0 → address_causes (b ∷ d ∷ bs) ≡ accessory_causes (b ∷ d ∷ bs)
accessory-causes b d bs l m = grind (arith, nat_tests)

accessory_refused : (b d : ℕ) (bs : List ℕ) → AllByRecursion (λ x. x < 256) bs → 0x80 ≤ b → b < 0xc0 → Addressed (b ∷ d ∷ bs)
accessory_refused b d bs a l m = ⊎_elim is_basic (λ n. ⊎_elim (is_extended n) (is_neither n) (cases_Bool (is_extended_head d))) (cases_Bool (leb 0x80 d))
  where
    is_basic : leb 0x80 d ≡ true → Addressed (b ∷ d ∷ bs)
    is_basic n = joined _ _ _ _ (accessory-told b d bs l m ∙ cond-true (leb 0x80 d) _ _ n) (basic_refused d bs a) (accessory-causes b d bs l m ∙ cond-true (leb 0x80 d) _ _ n)

    is_extended : leb 0x80 d ≡ false → is_extended_head d ≡ true → Addressed (b ∷ d ∷ bs)
    is_extended n x =
        joined _ _ _ _ (accessory-told b d bs l m ∙ cond-false (leb 0x80 d) _ _ n ∙ cond-true (is_extended_head d) _ _ x) (extended_refused bs a)
        (accessory-causes b d bs l m ∙ cond-false (leb 0x80 d) _ _ n ∙ cond-true (is_extended_head d) _ _ x)

    is_neither : leb 0x80 d ≡ false → is_extended_head d ≡ false → Addressed (b ∷ d ∷ bs)
    is_neither n x =
        ap result_err (accessory-told b d bs l m ∙ cond-false (leb 0x80 d) _ _ n ∙ cond-false (is_extended_head d) _ _ x)
        ∙ sym (ap first_cause (accessory-causes b d bs l m ∙ cond-false (leb 0x80 d) _ _ n ∙ cond-false (is_extended_head d) _ _ x))

-- E8 to FF
last_told : (b d : ℕ) (bs : List ℕ) → 0xe8 ≤ b → addressed (b ∷ d ∷ bs) ≡ cond (ltb b 0xfd) (Err ReservedAddress) (cond (ltb b 0xff) (Err AdvancedFormat) (idle (d ∷ bs)))
unfolding addressed
last_told b d bs l = grind (arith, nat_tests)

abbrev last_causes : List ℕ → List Cause
last_causes xs = (within 0xe8 0xfc (byte 0 xs), ReservedAddress) ∷ (within 0xfd 0xfe (byte 0 xs), AdvancedFormat) ∷ (not (eqb (length xs) 2 && eqb (byte 1 xs) 0x00), IdleForm) ∷ []

last_causes_lem : (b : ℕ) (bs : List ℕ) → 0xe8 ≤ b → address_causes (b ∷ bs) ≡ last_causes (b ∷ bs)
last_causes_lem b bs l = grind (arith, nat_tests)

last_same : (b d : ℕ) (bs : List ℕ) → b < 256 → 0xe8 ≤ b → result_err (cond (ltb b 0xfd) (Err ReservedAddress) (cond (ltb b 0xff) (Err AdvancedFormat) (idle (d ∷ bs)))) ≡ first_cause (last_causes (b ∷ d ∷ bs))
last_same b d bs h l = grind (arith, nat_tests)

last_refused : (b d : ℕ) (bs : List ℕ) → b < 256 → 0xe8 ≤ b → Addressed (b ∷ d ∷ bs)
last_refused b d bs h l = ap result_err (last_told b d bs l) ∙ last_same b d bs h l ∙ sym (ap first_cause (last_causes_lem b (d ∷ bs) l))

addressed_refused : (b d : ℕ) (bs : List ℕ) → AllByRecursion (λ x. x < 256) (b ∷ d ∷ bs) → Addressed (b ∷ d ∷ bs)
addressed_refused b d bs a =
    ⊎_elim (short_refused b d bs a.1.0) (λ l.
    ⊎_elim (accessory_refused b d bs a.1.1 l) (λ l.
    ⊎_elim (long_refused b d bs a.1.1 l) (last_refused b d bs a.0)
    (cases_lt b 0xe8)) (cases_lt b 0xc0)) (cases_lt b 0x80)

two_up : (xs : List ℕ) → 2 ≤ length xs → AllByRecursion (λ x. x < 256) xs → Addressed xs
two_up (b ∷ d ∷ bs) l a = addressed_refused b d bs a
two_up _ l a = absurd (omega arith)

-- n bytes, whose XOR is x, with the answer r and the cause o of the bytes before the last
outer :
    (n x : ℕ) (r : Told) (o : Option Refusal)
    → (3 ≤ n → result_err r ≡ o)
    → result_err (cond (ltb n 3) (Err PacketLength) (cond (ltb 6 n) (Err PacketLength) (cond (eqb x 0) r (Err ErrorByte))))
    ≡ cond (not (within 3 6 n)) (Some PacketLength) (cond (not (eqb x 0)) (Some ErrorByte) o)
outer n x r o h = ⊎_elim (λ l. grind (arith, nat_tests)) (λ l. let e = h l in grind (arith, nat_tests)) (cases_lt n 3)

pub reading_refused : (bs : List ℕ) → AllByRecursion (λ x. x < 256) bs → result_err (packet_read bs) ≡ first_cause (causes bs)
reading_refused bs a =
    outer (length bs) (parity bs) (addressed (front bs)) (first_cause (address_causes (front bs)))
    (λ l. two_up (front bs) (simp length-take (omega arith)) (All-take (λ x. x < 256) (length bs - 1) bs a))

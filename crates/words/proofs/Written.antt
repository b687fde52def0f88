-- What is written of a byte, and of lists as they grow.
use Rattle.std.proofs.Common.{◌≡◌, ◌∙◌, ℕ, ◌+◌, ◌-◌, ◌^◌, ◌<◌, Bool, true, false, Some, List, [], ◌∷◌, ◌++◌, length, get_or, take, codes, ◌==◌, ap, sym, refl, arith, append-nil}
use Rattle.std.proofs.lemmas.Fmt.{hex_byte}
use Rattle.std.proofs.lemmas.List.{flat_map_more, length-take-le, take_more}
use Rattle.std.specs.Fmt.{decimal, digits, digits_output, format_spec, styled_digits_output}
use Rattle.std.specs.List.{items_where_true, join_by, range_with_len}
use Rattle.words.specs.Lists.{byte_text, numbers_on, numbers_text}

-- what `{:02X}` writes
pub styled_byte : (d : _) (s : _) (n : ℕ) → n < 256 → digits_output d ≡ Some (digits 16 true n) → s ≡ format_spec 32 0 4 2 (2 ^ 64 - 1)
    → styled_digits_output d s ≡ Some (byte_text n)
styled_byte d s n small digits_are spec_is = rw (spec_is, digits_are) (ap Some (hex_byte true n small))

-- what stands between the items so far and the next
abbrev pub before_next : {X A : Type 0} → List A → List X → List A
before_next sep [] = []
before_next sep (x ∷ xs) = sep

pub before_next_more : {X A : Type 0} (sep : List A) (xs : List X) (x : X) → before_next sep (xs ++ x ∷ []) ≡ sep
before_next_more sep [] x = refl
before_next_more sep (y ∷ ys) x = refl

-- the text of a list and of one item more, and of one more of the items after the first
pub joined_more : {X A : Type 0} (f : X → List A) (sep : List A) (xs : List X) (x : X) → join_by f sep xs ++ (before_next sep xs ++ f x) ≡ join_by f sep (xs ++ x ∷ [])
joined_more f sep [] x = sym (append-nil (f x))
joined_more f sep (y ∷ ys) x = flat_map_more (λ z. sep ++ f z) (f y) ys x

pub joined_after_first : {X A : Type 0} (f : X → List A) (sep : List A) (x : X) (xs : List X) (i : ℕ) (d : X) → i < length xs
    → join_by f sep (x ∷ take i xs) ++ (sep ++ f (get_or xs i d)) ≡ join_by f sep (x ∷ take (i + 1) xs)
joined_after_first f sep x xs i d below = joined_more f sep (x ∷ take i xs) (get_or xs i d) ∙ ap (λ ys. join_by f sep (x ∷ ys)) (sym (take_more xs i d below))

-- the numbers where the first switch has the number `first`, and those of one switch more
abbrev numbered : ℕ → List Bool → List ℕ
numbered first switches = items_where_true switches (range_with_len first (length switches))

numbered_more : (first : ℕ) (xs : List Bool) (on : Bool) → numbered first (xs ++ on ∷ []) ≡ numbered first xs ++ items_where_true (on ∷ []) ((first + length xs) ∷ [])
numbered_more first [] true = ap (λ (n : ℕ). n ∷ []) (omega arith)
numbered_more first [] false = refl
numbered_more first (true ∷ xs) on =
    ap (λ (ns : List ℕ). first ∷ ns) (numbered_more (first + 1) xs on ∙ ap (λ (n : ℕ). numbered (first + 1) xs ++ items_where_true (on ∷ []) (n ∷ [])) (omega arith))
numbered_more first (false ∷ xs) on =
    numbered_more (first + 1) xs on ∙ ap (λ (n : ℕ). numbered (first + 1) xs ++ items_where_true (on ∷ []) (n ∷ [])) (omega arith)

-- the numbers among one switch more
numbers_more : (xs : List Bool) (i : ℕ) (on : Bool) → i < length xs → get_or xs i false ≡ on → numbers_on (take (i + 1) xs) ≡ numbers_on (take i xs) ++ items_where_true (on ∷ []) (i ∷ [])
unfolding numbers_on
numbers_more xs i on below is =
    let count : 0 + length (take i xs) ≡ i = omega (arith, length-take-le i xs) in
    ap (numbered 0) (take_more xs i false below ∙ ap (λ (b : Bool). take i xs ++ b ∷ []) is) ∙ rw count at (numbered_more 0 (take i xs) on)

pub after_on : (xs : List Bool) (i : ℕ) → i < length xs → get_or xs i false ≡ true → numbers_on (take i xs) ++ i ∷ [] ≡ numbers_on (take (i + 1) xs)
after_on xs i below is = sym (numbers_more xs i true below is)

pub after_off : (xs : List Bool) (i : ℕ) → i < length xs → get_or xs i false ≡ false → numbers_on (take i xs) ≡ numbers_on (take (i + 1) xs)
after_off xs i below is = sym (numbers_more xs i false below is ∙ append-nil _)

-- the text where no number is listed, and where one is
pub text_of_none : (none numbers : List ℕ) → true ≡ (length (before_next (codes ",") numbers) == 0) → join_by decimal (codes ",") numbers ++ none ≡ numbers_text none numbers
text_of_none none [] empty = refl
text_of_none none (n ∷ ns) empty = cc

pub text_of_some : (none numbers : List ℕ) → false ≡ (length (before_next (codes ",") numbers) == 0) → join_by decimal (codes ",") numbers ≡ numbers_text none numbers
text_of_some none [] some = cc
text_of_some none (n ∷ ns) some = refl

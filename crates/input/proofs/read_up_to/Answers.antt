use Rattle.std.proofs.Common.{◌≡◌, ℕ, ◌+◌, ◌-◌, ◌≤◌, List, ◌++◌, rules, arith, length, take, SomeIndex, slice_range, sym, Ok, Err, Result, ap, ◌∙◌, subst, le_refl, drop_at, length-take-le}
use Rattle.std.proofs.lemmas.Slice.{take-put_mid_below}
use Rattle.std.specs.Io.KnownBytes.{Consumes}
use Rattle.std.specs.Result.{OnErr}
use Rattle.std.proofs.KnownBytes.{Consumes-trans, Consumes-kept}
use borrow.Rule.Slice.PartMut.{put_mid, post_of}
use lib.Seq.{take-add, take-append-le}
use Rattle.input.proofs.read_up_to.Goals as goal

-- the front as it was, and then what was read behind it
take_split : (a b : ℕ) (old new : List ℕ) → a ≤ b → take a new ≡ take a old → take a old ++ slice_range new a b ≡ take b new
take_split a b old new h front =
    let same : a + (b - a) ≡ b = omega arith in
    ap (λ l. l ++ slice_range new a b) (sym front) ∙ sym (take-add a (b - a) new) ∙ ap (λ n. take n new) same

slice_range-put_mid : (a k n : ℕ) (xs ys : List ℕ) → a ≤ length xs → n ≤ length ys → slice_range (put_mid a k xs ys) a (a + n) ≡ take n ys
slice_range-put_mid a k n xs ys within fits =
    let same : (a + n) - a ≡ n = omega arith in
    let after = post_of a k xs in
    ap (take ((a + n) - a)) (drop_at (take a xs) (ys ++ after) a (length-take-le a xs within)) ∙ ap (λ m. take m (ys ++ after)) same ∙ take-append-le n ys after fits

-- src/lib.rt:19:5
pub loop-count-preserved : goal.loop-count-preserved
loop-count-preserved g c =
    let from = c.loop-count.count in
    let more = c.in_ok-more.more in
    let room = length c.loop-count.place - from in
    let within = c.loop-count.invariant.1 in
    let part = slice_range-put_mid from room more c.loop-count.place c.read.new.buf within c.in_ok-more.ensures.bound.0 in
    let joined = take_split from (from + more) c.loop-count.place (put_mid from room c.loop-count.place c.read.new.buf) (omega arith) (take-put_mid_below _ _ _ _ _ (le_refl _) within) in
    (search rules, search rules, subst (Consumes _ _) (ap (λ l. take from c.loop-count.place ++ l) (sym part) ∙ joined) (Consumes-trans _ _ _ _ _ c.loop-count.invariant.2 c.in_ok-more.ensures.bytes.0))

always_on_err : {X E P : Type 0} (r : Result X E) → P → OnErr r P
always_on_err (Ok x) p = tt
always_on_err (Err e) p = p

-- a read that fails leaves what was read before it, in the input as at the front of the place
pub returns-in_err-more-clause-failed : goal.returns-in_err-more-clause-failed
returns-in_err-more-clause-failed g c =
    let from = c.loop-count.count in
    let place = c.loop-count.place in
    let within = c.loop-count.invariant.1 in
    let now = put_mid from (length place - from) place c.read.new.buf in
    let front : take from now ≡ take from place = take-put_mid_below _ _ _ _ _ (le_refl _) within in
    let kept = Consumes-kept _ _ _ _ c.loop-count.invariant.2 c.in_err-more.ensures.bytes in
    let had = g.R.Read.remaining c.args.input.now in
    let left = g.R.Read.remaining c.read.new.self in
    let some : SomeIndex now (λ n. Consumes had left (take n now))
    = (from, search rules, subst (Consumes _ _) (sym front) kept)
    in
    always_on_err _ some

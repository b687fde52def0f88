-- A variable is its number, and a wire address its value. Assumes nothing.
use Rattle.std.proofs.Common.{◌≡◌, ℕ, ◌<◌, ◌≤◌, ap, subst}
use native.Mathlib.Bridge.{le_prop}
use Rattle.packet.specs.declared.cv.CvNumber.{CvNumber}
use Rattle.packet.specs.declared.cv.WireAddress.{WireAddress}

abbrev mk_cv : (n : ℕ) → 1 ≤ n → n ≤ 1024 → CvNumber
mk_cv n a b = record { number = n; least = a; most = b }

pub cv_is : (a b : CvNumber) → a.number ≡ b.number → a ≡ b
cv_is a b e =
    let P : ℕ → Type 0 = λ n. (p : 1 ≤ n) (q : n ≤ 1024) → a ≡ mk_cv n p q in
    let go : P a.number = λ p q. subst (λ x. a ≡ mk_cv a.number x q) (le_prop a.least p) (ap (mk_cv a.number a.least) (le_prop a.most q)) in
    subst P e go b.least b.most

abbrev mk_wire : (n : ℕ) → n < 1024 → WireAddress
mk_wire n h = record { address = n; bound = h }

pub wire_is : (a b : WireAddress) → a.address ≡ b.address → a ≡ b
wire_is a b e =
    let P : ℕ → Type 0 = λ n. (q : n < 1024) → a ≡ mk_wire n q in
    subst P e (λ q. ap (mk_wire a.address) (le_prop a.bound q)) b.bound

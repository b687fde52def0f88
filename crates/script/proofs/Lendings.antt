-- What a board answers that is lent too little, or asked about a decoder that it has not. Assumes nothing.
use Rattle.std.proofs.Common.{◌≡◌, ℕ, ◌≤◌, true, leb, List, ap, ◌∙◌, arith}
use Rattle.std.proofs.lemmas.Bool.{cond-true, cond-false, and_parts, and_from}
use Rattle.std.proofs.lemmas.Bool.Decides.{nat_tests}
use Rattle.bank.specs.declared.kind.Kind.{Kind}
use Rattle.bank.specs.declared.kind.Kind.TheVariants as kind
use Rattle.bank.specs.Kinds.{count_of}
use Rattle.script.specs.Boards.{Lent, bank_size, is_lent}
use Rattle.script.specs.Calls.{about}
use Rattle.script.specs.Lending.{IsEnough, AnswersLent, LendingsAnswered}

-- the tests of what is lent
test : (m n : ℕ) → m ≤ n → leb m n ≡ true
test m n h = grind (arith, nat_tests)

tested : (m n : ℕ) → leb m n ≡ true → m ≤ n
tested m n h = grind (arith, nat_tests)

pub lent_from : (ks : List Kind) (l : Lent) → IsEnough ks l → is_lent ks l ≡ true
lent_from ks l h =
    and_from _ _ (test _ _ (h.records kind.Mobile)) (and_from _ _ (test _ _ (h.records kind.Basic)) (and_from _ _ (test _ _ (h.records kind.Extended)) (test _ _ h.cells)))

pub enough : (ks : List Kind) (l : Lent) → is_lent ks l ≡ true → IsEnough ks l
enough ks l e =
    let ms = and_parts _ _ e in
    let bs = and_parts _ _ ms.1 in
    let es = and_parts _ _ bs.1 in
    record { records = of_kind (tested _ _ ms.0) (tested _ _ bs.0) (tested _ _ es.0); cells = tested _ _ es.1 }
  where
    of_kind : count_of ks kind.Mobile ≤ bank_size kind.Mobile l → count_of ks kind.Basic ≤ bank_size kind.Basic l → count_of ks kind.Extended ≤ bank_size kind.Extended l → (k : Kind) → count_of ks k ≤ bank_size k l
    of_kind m b x kind.Mobile = m
    of_kind m b x kind.Basic = b
    of_kind m b x kind.Extended = x

answers_lent : (A : Type 0) (ks : List Kind) (l : Lent) → AnswersLent A ks l
answers_lent A ks l = record {
  too_little = λ f e. cond-false _ _ _ e;
  too_little_for = λ n f e. cond-false _ _ _ e;
  by = λ f e. cond-true _ _ _ e;
  of_none = λ n f e h. cond-true _ _ _ e ∙ ap (about f) h;
  of = λ n f d e h. cond-true _ _ _ e ∙ ap (about f) h;
}

pub lendings_answered : LendingsAnswered
lendings_answered = record {
  enough = lent_from;
  is_enough = enough;
  stay = λ ks l g e. cond-false _ _ _ e;
  change = λ ks l g e. cond-true _ _ _ e;
  taken = answers_lent _;
  set = answers_lent _;
  byte = answers_lent _;
  bit = answers_lent _;
  holds = answers_lent _;
  any = answers_lent _;
}

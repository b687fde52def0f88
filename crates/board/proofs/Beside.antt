-- What a board on a strip leaves of the memory below the strip.
use Rattle.std.proofs.Common.{◌≡◌, ℕ, ◌+◌, ◌-◌, ◌*◌, ◌<◌, ◌≤◌, List, [], length, get_or, take, drop, sym, ap, ◌∙◌, subst, ap₂, ⊎_elim, arith}
use Rattle.std.proofs.lemmas.Bool.{cases_lt}
use Rattle.std.proofs.lemmas.List.{get_or-take, get_or-drop, length-take, length-drop}
use Rattle.memory.specs.Cells.{Outside, outside_of}
use Rattle.memory.specs.Strips.{cells_within, outsides}
use Rattle.memory.specs.declared.memory.Memory.{Ghosts}
use Rattle.memory.specs.declared.strip.Strip.{Strip}
use Rattle.bank.specs.declared.kind.Kind.{Kind}
use Rattle.board.specs.Strips.{Stays, BesideKept, BelowKept}

-- ---- lists that agree in a part

module _ (xs ys : List ℕ) (n c : ℕ) where
  same_before : take n ys ≡ take n xs → c < n → get_or ys c 0 ≡ get_or xs c 0
  same_before e low = sym (get_or-take n ys c 0 low) ∙ ap (λ l. get_or l c 0) e ∙ get_or-take n xs c 0 low

  same_behind : drop n ys ≡ drop n xs → n ≤ c → get_or ys c 0 ≡ get_or xs c 0
  same_behind e past =
      let at : n + (c - n) ≡ c = omega arith in
      subst (λ c. get_or ys c 0 ≡ get_or xs c 0) at (sym (get_or-drop n ys (c - n) 0) ∙ ap (λ l. get_or l (c - n) 0) e ∙ get_or-drop n xs (c - n) 0)

-- ---- two strips outside of which all is the same

module _ {M : Type 0} (m : Ghosts M) (s s' : Strip M) (e : outsides m.cells m.outside s' ≡ outsides m.cells m.outside s) where
  nearest : outside_of (m.cells s'.below) s'.first s'.count ≡ outside_of (m.cells s.below) s.first s.count
  nearest = ap (λ os. get_or os 0 (outside_of [] 0 0)) e

  lies_first : s'.first ≡ s.first
  lies_first = ap (λ (o : Outside). o.first) nearest

  lies_count : s'.count ≡ s.count
  lies_count = ap (λ (o : Outside). o.count) nearest

  same_front : take s.first (m.cells s'.below) ≡ take s.first (m.cells s.below)
  same_front = ap (λ n. take n (m.cells s'.below)) (sym lies_first) ∙ ap (λ (o : Outside). o.before) nearest

  same_rear : drop (s.first + s.count) (m.cells s'.below) ≡ drop (s.first + s.count) (m.cells s.below)
  same_rear = ap₂ (λ n k. drop (n + k) (m.cells s'.below)) (sym lies_first) (sym lies_count) ∙ ap (λ (o : Outside). o.behind) nearest

  pub beside_kept : BesideKept m s s'
  beside_kept = record {
    first = lies_first;
    count = lies_count;
    before = λ c. same_before (m.cells s.below) (m.cells s'.below) s.first c same_front;
    behind = λ c. same_behind (m.cells s.below) (m.cells s'.below) (s.first + s.count) c same_rear;
    further = ap (drop 1) e;
  }

  module _ (ks : List Kind) (sizes : length (cells_within m.cells s') ≡ length (cells_within m.cells s)) (rest : (c : ℕ) → 1024 * length ks ≤ c → get_or (cells_within m.cells s') c 0 ≡ get_or (cells_within m.cells s) c 0) where
    as_many : length (m.cells s'.below) ≡ length (m.cells s.below)
    as_many =
        omega (
          arith,
          lies_first,
          lies_count,
          sizes,
          ap length same_front,
          ap length same_rear,
          length-take s.first (m.cells s'.below),
          length-take s.first (m.cells s.below),
          length-drop (s.first + s.count) (m.cells s'.below),
          length-drop (s.first + s.count) (m.cells s.below),
          length-take s'.count (drop s'.first (m.cells s'.below)),
          length-take s.count (drop s.first (m.cells s.below)),
          length-drop s'.first (m.cells s'.below),
          length-drop s.first (m.cells s.below),
        )

    own_spare : (c : ℕ) → s.first + 1024 * length ks ≤ c → c < s.first + s.count → Stays m s s' c
    own_spare c past low =
        let at : s.first + (c - s.first) ≡ c = omega arith in
        let at' : s'.first + (c - s.first) ≡ c = omega (arith, lies_first) in
        let within : c - s.first < s.count = omega arith in
        let within' : c - s.first < s'.count = omega (arith, lies_count) in
        ap (λ c. get_or (m.cells s'.below) c 0) (sym at')
        ∙ sym (get_or-drop s'.first (m.cells s'.below) (c - s.first) 0)
        ∙ sym (get_or-take s'.count (drop s'.first (m.cells s'.below)) (c - s.first) 0 within')
        ∙ rest (c - s.first) (omega arith)
        ∙ get_or-take s.count (drop s.first (m.cells s.below)) (c - s.first) 0 within
        ∙ get_or-drop s.first (m.cells s.below) (c - s.first) 0
        ∙ ap (λ c. get_or (m.cells s.below) c 0) at

    pub below_kept : BelowKept m s s' ks
    below_kept = record {
      beside = beside_kept;
      size = as_many;
      spare = λ c past. ⊎_elim (own_spare c past) (beside_kept.behind c) (cases_lt c (s.first + s.count));
    }

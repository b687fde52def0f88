-- A window that is cleared variable by variable.
use Rattle.std.proofs.Common.{◌≡◌, ℕ, ◌+◌, ◌<◌, get_or, replicate, sym, subst, ◌∙◌, arith}
use lib.ListN.{length-replicate, get_or-replicate}
use Rattle.std.proofs.lemmas.List.{get_or_default, same_lists}
use Rattle.memory.specs.declared.memory.Memory.{Ghosts}
use Rattle.decoder.specs.Fitted.{blank}
use Rattle.bank.specs.declared.window.Window.{Window}
use Rattle.bank.specs.Opened.{variables, Became}
use Rattle.bank.proofs.Windowed.{length-variables}

module _ {M : Type 0} {m : Ghosts M} where
  -- the variables with numbers below n are 0, and nothing else is otherwise
  pub record Cleared (old new : Window M m) (n : ℕ) : Type 0 where
    pub only : Became old new (variables new)
    pub zeros : (k : ℕ) → k + 1 < n → get_or (variables new) k 0 ≡ 0

  module _ {old new : Window M m} {n : ℕ} (c : Cleared old new n) where
    pub clear_all : n ≡ 1025 → Became old new blank
    unfolding blank
    clear_all e =
        let l = length-variables new in
        subst (λ w. Became old new w)
        (same_lists (variables new) (replicate 1024 0) (l ∙ sym (length-replicate {A = ℕ} 1024 0)) (λ k d h. get_or_default (variables new) k d 0 h ∙ c.zeros k (omega arith) ∙ sym (get_or-replicate 1024 k 0 d (omega arith))))
        c.only

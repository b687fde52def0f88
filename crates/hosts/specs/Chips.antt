-- A board whose memory stands on the bytes of a chip, and one setting of a decoder of it.
use Rattle.std.specs.Prelude.{◌≡◌, ℕ, List, [], ◌∷◌}
use Rattle.memory.specs.Cells.{byte_cells, strip_cells, outside_of}
use Rattle.bank.specs.declared.kind.Kind.{Kind}
use Rattle.script.specs.declared.call.Request.TheVariants.{Set}
use Rattle.script.specs.declared.name.DecoderName.{DecoderName}
use Rattle.script.specs.Decoders.{lives, changed, events_of}
use Rattle.script.specs.Boards.{Lent, lent, decoders, Rest}
use Rattle.script.specs.Calls.{after_by}
use Rattle.roster.specs.declared.banks.BanksMut.{BanksMut}

-- all of the chip is lent
abbrev pub on_chip : BanksMut → List ℕ → Lent
on_chip b chip = lent b.mobiles.now b.basics.now b.extendeds.now (byte_cells chip) []

-- a strip of it is
abbrev pub on_strip : BanksMut → List ℕ → ℕ → ℕ → Lent
on_strip b chip first count =
    lent b.mobiles.now b.basics.now b.extendeds.now (strip_cells (byte_cells chip) first count)
    (outside_of (byte_cells chip) first count ∷ [])

-- variable v of the decoder that is named n was set to x, if there are both; all else is as it was
pub record SetOne (ks : List Kind) (l l' : Lent) (n : DecoderName) (v x : ℕ) : Type 0 where
  pub decoders_are :
      decoders ks l' ≡ after_by ks l (changed (λ d. lives d (events_of (Set v x))) n.kind n.number)
  pub rest : Rest ks l l'

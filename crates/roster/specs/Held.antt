-- What the banks and the memory hold that a board is lent.
use Rattle.std.specs.Prelude.{◌≡◌, ℕ, length, List, Ok, Err, Result, Some, true}
use Rattle.fault.specs.declared.fault.Fault.{Fault}
use Rattle.memory.specs.declared.memory.Memory.{Ghosts}
use Rattle.bank.specs.declared.kind.Kind.{Kind}
use Rattle.bank.specs.Kinds.{is_kind, SlotOf}
use Rattle.script.specs.declared.name.DecoderName.{DecoderName}
use Rattle.script.specs.Boards.{Lent, lent, is_lent}
use Rattle.script.specs.Calls.{answer_of}
use Rattle.roster.specs.declared.banks.Banks.{Banks}
use Rattle.roster.specs.declared.banks.BanksMut.{BanksMut}

module _ {M : Type 0} (m : Ghosts M) where
  abbrev pub seen : Banks → M → Lent
  seen b x = lent b.mobiles.now b.basics.now b.extendeds.now (m.cells x) (m.outside x)

  abbrev pub held : BanksMut → M → Lent
  held b x = lent b.mobiles.now b.basics.now b.extendeds.now (m.cells x) (m.outside x)

  -- the banks and the memory stand in the same lenders' slices
  pub record SameLenders (b : BanksMut) (x : M) (b' : BanksMut) (x' : M) : Type 0 where
    pub mobiles : b'.mobiles.ghost_name ≡ b.mobiles.ghost_name
    pub basics : b'.basics.ghost_name ≡ b.basics.ghost_name
    pub extendeds : b'.extendeds.ghost_name ≡ b.extendeds.ghost_name
    pub memory : m.lenders x' ≡ m.lenders x

-- the slot of the decoder that is named, where enough is lent and there is one; else why none can be asked
abbrev pub Located : List Kind → Lent → DecoderName → Result ℕ Fault → Type 0
Located ks l n (Ok s) = (is_lent ks l ≡ true) × SlotOf (is_kind ks n.kind) (length ks) n.number (Some s)
Located ks l n (Err e) = answer_of ks l {A = Unit {0}} n (λ _. Ok tt) ≡ Err e

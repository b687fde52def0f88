-- A reading changes no decoder.
use Rattle.std.proofs.Common.{◌≡◌, true, false, List, [], Bool, cond, sym, refl, ap, ◌∙◌}
use Rattle.bank.specs.declared.kind.Kind.{Kind}
use Rattle.script.specs.declared.name.DecoderName.{DecoderName}
use Rattle.script.specs.declared.call.Request.{Request}
use Rattle.script.specs.declared.call.Call.TheVariants.{Ask}
use Rattle.script.specs.Decoders.{Decoder, lives, events_of}
use Rattle.script.specs.Boards.{Lent, is_lent, decoders}
use Rattle.script.specs.Calls.{after_call, after_by}
use Rattle.script.proofs.Lives.{lives_none}
use Rattle.script.proofs.Slots.{changed_same}

module _ (ks : List Kind) (l : Lent) (n : DecoderName) (q : Request) (e : events_of q ≡ []) where
  none_after : (b : Bool) (ds : List Decoder) → ds ≡ cond b (after_call ds (Ask n q)) ds
  none_after true ds = sym (changed_same (λ d. lives d (events_of q)) (λ d. ap (lives d) e ∙ lives_none d) n.kind n.number ds)
  none_after false ds = refl

  pub read_after : decoders ks l ≡ after_by ks l (λ ds. after_call ds (Ask n q))
  read_after = none_after (is_lent ks l) (decoders ks l)

  -- and where what is held is the same afterwards
  pub same_after : (l' : Lent) → l' ≡ l → decoders ks l' ≡ after_by ks l (λ ds. after_call ds (Ask n q))
  same_after l' s = ap (decoders ks) s ∙ read_after

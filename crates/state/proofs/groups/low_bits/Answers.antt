use Rattle.std.proofs.Common.{◌≡◌, ◌%◌, false, refl, sym, ap, ◌∙◌, arith, rules}
use Rattle.std.proofs.lemmas.List.{ext_get_or}
use Rattle.state.specs.Bits.{bit_of}
use Rattle.state.proofs.Lows.{length-low_bits, low_bit, given_at}
use Rattle.state.proofs.groups.low_bits.Goals as goal

pub returns : goal.returns
returns g c =
    let items = c.from_fn.ensures.items in
    ext_get_or false _ _ (items.long ∙ sym (length-low_bits g.row.N c.args.byte))
    (λ i h.
    let e : i % 8 ≡ i = omega (arith, items.long, c.requires) in
    given_at _ (λ j. bit_of c.args.byte (j % 8)) _ (λ j y f' k. search rules) _ false _ 0 g.row.N i refl items.each (omega arith) (omega (arith, items.long))
    ∙ ap (bit_of c.args.byte) e ∙ sym (low_bit g.row.N c.args.byte i (omega (arith, items.long))))

use Rattle.std.proofs.Common.{◌<◌, length, get_or, take, drop, codes, ◌-◌, rules, refl}
use Rattle.std.proofs.Output.{has_written_append, has_written_of_eq}
use Rattle.words.proofs.Written.{styled_byte, joined_after_first}
use Rattle.words.specs.Lists.{byte_text}
use Rattle.words.proofs.lists.HexDisplay.fmt.Goals as goal

pub loop-byte-init : goal.loop-byte-init
loop-byte-init g c =
    let small : get_or c.args.self.now.0.now 0 0 < 256 = search rules in
    let writes = rw (styled_byte _ _ _ small c.in_radix.ensures c.laid_out.ensures) at c.in_ok-write.ensures.writes in
    λ plain. writes plain refl

pub loop-byte-preserved : goal.loop-byte-preserved
loop-byte-preserved g c =
    let rest = take (length c.args.self.now.0.now - 1) (drop 1 c.args.self.now.0.now) in
    let small : get_or rest c.loop-byte.byte-index 0 < 256 = search rules in
    let writes = rw (styled_byte _ _ _ small c.in_radix-in-loop-byte.ensures c.laid_out-in-loop-byte.ensures) at c.in_ok-write-2.ensures.writes in
    let below : c.loop-byte.byte-index < length rest = search rules in
    λ plain.
    let so_far = c.loop-byte.invariant plain in
    has_written_of_eq _ _ _ _ _ (joined_after_first byte_text (codes " ") (get_or c.args.self.now.0.now 0 0) rest c.loop-byte.byte-index 0 below)
    (has_written_append _ _ _ _ _ _ so_far (writes so_far.plain refl))

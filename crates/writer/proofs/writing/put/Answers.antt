use Rattle.std.proofs.Common.{arith}
use Rattle.packet.proofs.Parities.{parity-append}
use Rattle.writer.proofs.Places.{packet_put}
use Rattle.writer.proofs.writing.put.Goals as goal

pub returns : goal.returns
returns c =
    simp
    (c.copy_from_slice.ensures.after, c.copy_from_slice-2.ensures.after, c.parity.ensures, c.parity-2.ensures, parity-append)
    (packet_put _ _ _ _ c.args.place.now _ c.split_at_mut-front.ensures.back c.split_at_mut-middle.ensures.back (omega (arith, c.requires)))

use Rattle.std.proofs.Common.{◌≡◌, ◌<◌, sym, ap, ◌∙◌, rules}
use Rattle.std.proofs.ByRecursion.{All-from_get_or}
use Rattle.std.specs.Option.{option_map}
use Rattle.std.specs.Result.{result_err}
use Rattle.fault.specs.Places.{nowhere}
use Rattle.format.specs.Reading.{packet_read}
use Rattle.format.proofs.Nowhere.{placeless, accepted, refused}
use Rattle.format.proofs.Rounds.{written_reads}
use Rattle.format.proofs.Returns.{read_writes}
use Rattle.format.proofs.Refused.{reading_refused}
use Rattle.reader.proofs.reading.read.Goals as goal

pub returns : goal.returns
returns c =
    let bs = c.args.packet.now in
    let bytes = All-from_get_or (λ b. b < 256) c.args.packet.now 0 (λ k _. (c.type_inv.packet k).fits) in
    let is : c.map_err.result ≡ placeless (packet_read bs) = search rules in
    record {
      value = is;
      written_back = λ p e. read_writes bs bytes p (accepted (packet_read bs) p (sym is ∙ e));
      all_accepted = λ t i e. is ∙ ap placeless (written_reads t i bs e);
      refused =
          ap result_err is ∙ refused (packet_read bs)
          ∙ ap (option_map nowhere) (reading_refused bs bytes);
    }

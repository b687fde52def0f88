-- A mobile decoder that is named, for what only mobile decoders have.
use Rattle.std.specs.Prelude.{◌≡◌, Bool, List, Ok, Err, Result}
use Rattle.std.specs.Borrow.{Bor}
use Rattle.fault.specs.declared.fault.Fault.{Fault}
use Rattle.decoder.specs.declared.records.Mobile.{Mobile}
use Rattle.bank.specs.declared.kind.Kind.{Kind}
use Rattle.script.specs.declared.name.DecoderName.{DecoderName}
use Rattle.script.specs.Decoders.{on_mobile}
use Rattle.script.specs.Boards.{Lent}
use Rattle.script.specs.Calls.{answer_of}

-- whatever is asked of a mobile decoder, it is asked of this record, or it is refused
abbrev pub MobileFound : List Kind → Lent → DecoderName → Result (Bor Mobile) Fault → Type 0
MobileFound ks l n (Ok r) = (f : Mobile → Result Bool Fault) → answer_of ks l n (on_mobile f) ≡ f r.now
MobileFound ks l n (Err e) = (f : Mobile → Result Bool Fault) → answer_of ks l n (on_mobile f) ≡ Err e

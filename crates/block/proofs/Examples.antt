-- What some short blocks say.
use Rattle.std.proofs.Common.{◌≡◌, [], ◌∷◌, refl}
use Rattle.fault.specs.declared.refusal.Refusal.TheVariants.{UnknownKind, BodyCutOff, NonzeroFill}
use Rattle.fault.specs.Places.{fault_at}
use Rattle.block.specs.Contents.{first_nonzero}
use Rattle.block.specs.Contents.Thing.{power_up, packet}
use Rattle.block.specs.Reading.{read_on, reading}
use Rattle.block.specs.Reading.Reading.{done, filled, broken, more}

only_fill : reading (0x00 ∷ 0x00 ∷ 0x00 ∷ []) ≡ filled 0
unfolding read_on first_nonzero
only_fill = refl

one_packet : reading (0x03 ∷ 0x00 ∷ 0x00 ∷ 0x00 ∷ []) ≡ more 0 (packet (0x00 ∷ 0x00 ∷ 0x00 ∷ [])) done
unfolding read_on first_nonzero
one_packet = refl

-- a power-up, a packet of three bytes, and fill behind it
three_records : reading (0x10 ∷ 0x03 ∷ 0xff ∷ 0x00 ∷ 0xff ∷ 0x00 ∷ 0x00 ∷ []) ≡ more 0 power_up (more 1 (packet (0xff ∷ 0x00 ∷ 0xff ∷ [])) (filled 5))
unfolding read_on first_nonzero
three_records = refl

no_kind : reading (0x02 ∷ []) ≡ broken 0 (fault_at UnknownKind 0)
unfolding read_on first_nonzero
no_kind = refl

cut_short : reading (0x03 ∷ 0x03 ∷ 0x74 ∷ []) ≡ broken 0 (fault_at BodyCutOff 0)
unfolding read_on first_nonzero
cut_short = refl

spoilt_fill : reading (0x00 ∷ 0x01 ∷ []) ≡ broken 0 (fault_at NonzeroFill 1)
unfolding read_on first_nonzero
spoilt_fill = refl

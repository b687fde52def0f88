-- A decoder as the power comes up.
use Rattle.std.specs.Prelude.{ℕ, Bool, List}
use Rattle.state.specs.Starting.{mobile_start}
use Rattle.decoder.specs.declared.records.Mobile.{Mobile}
use Rattle.decoder.specs.declared.records.Accessory.{Accessory}
use Rattle.decoder.specs.Accessories.{AccessoryKind, basic_kind, extended_kind}

-- the two kinds by what they show: outputs, or an aspect
abbrev pub Basic : Type 0
Basic = Accessory (List Bool)

abbrev pub Extended : Type 0
Extended = Accessory ℕ

abbrev pub fresh_mobile : Mobile
fresh_mobile = record { state = mobile_start }

abbrev pub fresh_accessory : {S : Type 0} → AccessoryKind S → ℕ → Accessory S
fresh_accessory k a = record { address = a; state = k.start }

abbrev pub fresh_basic : ℕ → Basic
fresh_basic a = fresh_accessory basic_kind a

abbrev pub fresh_extended : ℕ → Extended
fresh_extended a = fresh_accessory extended_kind a

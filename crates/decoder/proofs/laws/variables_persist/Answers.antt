use Rattle.decoder.specs.Alone.{mobile_rules, basic_rules, extended_rules}
use Rattle.decoder.specs.Persistence.{mobile_exceptions, accessory_exceptions}
use Rattle.decoder.proofs.Lawfuls.{mobile_lawful, basic_lawful, extended_lawful}
use Rattle.decoder.proofs.Persisted.{persists}
use Rattle.decoder.proofs.laws.variables_persist.Goals as goal

pub returns : goal.returns
returns c = (
  persists mobile_rules mobile_exceptions mobile_lawful,
  persists basic_rules accessory_exceptions basic_lawful,
  persists extended_rules accessory_exceptions extended_lawful,
)

use Rattle.std.proofs.Common.{sym, ◌∙◌, ap, Err}
use Rattle.farm_types.proofs.IdTexts.{id_fault-digit, id_fault-length, id_fault-ok}
use Rattle.farm_types.proofs.commit_id.CommitId.read_slowly.Goals as goal

pub returns-in-Ok-clause-taken : goal.returns-in-Ok-clause-taken
returns-in-Ok-clause-taken c = (id_fault-ok c.args.text.now c.in-Ok.bytes (sym c.from_hex.ensures ∙ c.in-Ok.is)).0

pub returns-in-InvalidHexCharacter-clause-refused : goal.returns-in-InvalidHexCharacter-clause-refused
returns-in-InvalidHexCharacter-clause-refused c =
    id_fault-digit c.args.text.now _ _ (sym c.from_hex.ensures ∙ c.in-Err.is ∙ ap Err c.in-InvalidHexCharacter.is)

pub returns-in_default-clause-refused : goal.returns-in_default-clause-refused
returns-in_default-clause-refused c =
    id_fault-length c.args.text.now _ (sym c.from_hex.ensures ∙ c.in-Err.is) c.in_default.not-InvalidHexCharacter

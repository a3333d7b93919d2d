use Rattle.std.proofs.Common.{◌≡◌, ℕ, List, Ok, sym, ap, ◌∙◌}
use Rattle.hex.specs.Hex.{decode_sized}
use Rattle.farm_types.proofs.IdTexts.{id_fault-ok}
use Rattle.farm_types.proofs.commit_id.CommitId.read.Goals as goal

pub returns-in-Some-clause-taken : goal.returns-in-Some-clause-taken
returns-in-Some-clause-taken c =
    (id_fault-ok c.args.text.now c.in-Some.bytes
    (ap (λ (text : List ℕ). decode_sized text 20) (sym c.as_bytes.ensures.value) ∙ c.in-Some.ensures)).0

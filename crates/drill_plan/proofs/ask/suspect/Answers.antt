use Rattle.std.proofs.Common.{◌+◌, ◌*◌, ◌%◌, ap}
use Rattle.farm_types.specs.declared.commit_id.CommitId.{CommitId}
use Rattle.suspect_range.specs.declared.suspect.Suspect.{Suspect}
use Rattle.drill_plan.proofs.ask.suspect.Goals as goal

pub returns : goal.returns
returns c =
    let made : CommitId → Suspect = λ id. record { commit = id; weight = 1 + c.args.position * c.args.search % 7 } in
    ap made c.commit_numbered.ensures

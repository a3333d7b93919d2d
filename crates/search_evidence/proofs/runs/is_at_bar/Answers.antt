use Rattle.std.proofs.Common.{List, ap, is_some, ◌∙◌}
use Rattle.weight_exact.specs.Share.{reached}
use Rattle.weight_exact.specs.Weights.{Setup}
use Rattle.weight_exact.specs.declared.run.Run.{Run}
use Rattle.farm_entry.specs.History.{runs}
use Rattle.search_evidence.proofs.runs.is_at_bar.Goals as goal

pub returns : goal.returns
returns c =
    let told : List Run = runs c.args.history.now c.args.opening.now.search in
    c.is_some.ensures
    ∙ ap is_some (c.reached.ensures told c.in_ok-belief.ensures.runs
    ∙ ap (λ (s : Setup). reached s told) c.in_ok-belief.ensures.setup)

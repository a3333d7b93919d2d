use Rattle.std.proofs.Common.{◌∙◌, sym, ap, subst}
use Rattle.farm_entry.specs.History.{lease_in}
use Rattle.farm_entry.specs.declared.entry.Entry.{Entry}
use Rattle.farm_core.specs.Outcome.{IsRunAt}
use Rattle.farm_core.proofs.Handed.{run-read}
use Rattle.farm_core.proofs.tail.run_at.Goals as goal

pub returns : goal.returns
returns c =
    subst (IsRunAt c.args.kept.now c.args.place)
    (sym (c.lease.ensures ∙ ap (λ (e : Entry). lease_in e.what) (sym c.index-history-place.is)))
    (run-read c.args.kept.now c.history.result.now c.args.place c.index-history-place.result c.history.ensures.history
    c.history.ensures.legal c.requires c.index-history-place.is)

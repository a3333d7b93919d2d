use Rattle.std.proofs.Common.{◌∷◌, [], sym, subst, ap, ◌∙◌}
use Rattle.farm_disk.specs.Images.{DiskState}
use Rattle.farm_store.specs.State.{StoreState}
use Rattle.drill_plan.specs.Start.{drill_founding}
use Rattle.farm_drill.specs.Drilled.{IsDrilled}
use Rattle.farm_drill.specs.Line.{drill_line}
use Rattle.farm_drill.proofs.Growing.{prefix-trans}
use Rattle.farm_drill.proofs.Played.{drilled}
use Rattle.farm_drill.proofs.whole.end_drill.Goals as goal

pub take_reverts-requires-clause-founded : goal.take_reverts-requires-clause-founded
take_reverts-requires-clause-founded c =
    prefix-trans (drill_founding ∷ []) c.args.store.now.history c.end_runs.new.store.history c.requires.founded
    c.end_runs.ensures.longer

pub returns-clause-line : goal.returns-clause-line
returns-clause-line c =
    c.in_ok-line.ensures.line ∙ ap (λ (s : StoreState DiskState). drill_line s.history) (sym c.drill_line.ensures.kept)

pub returns-clause-drilled : goal.returns-clause-drilled
returns-clause-drilled c searches start opened begins =
    subst (λ (s : StoreState DiskState). IsDrilled searches s.history) (sym c.drill_line.ensures.kept)
    (drilled searches start c.args.store.now.history c.end_runs.new.store.history c.take_reverts.new.store.history
    opened
    begins c.end_runs.ensures.longer c.in_ok-keys.ensures.ended c.in_ok-take_reverts.ensures.orders
    c.in_ok-take_reverts.ensures.ended c.in_ok-take_reverts.ensures.legal c.in_ok-keys.ensures.planned)

pub returns-clause-decided : goal.returns-clause-decided
returns-clause-decided c =
    ap (λ (s : StoreState DiskState). s.pending) c.drill_line.ensures.kept ∙ c.in_ok-take_reverts.ensures.decided

use Rattle.std.proofs.Common.{◌∷◌, [], List, subst}
use Rattle.farm_entry.specs.declared.entry.Entry.{Entry}
use Rattle.drill_plan.specs.Start.{drill_founding}
use Rattle.farm_drill.specs.Ends.{AllReported}
use Rattle.farm_drill.specs.Free.{AreFree}
use Rattle.farm_drill.proofs.Growing.{prefix-trans}
use Rattle.farm_drill.proofs.Marks.{free-marked}
use Rattle.farm_drill.proofs.Steps.{free-on}
use Rattle.farm_drill.proofs.runs.end_runs.Goals as goal

pub report_rest-requires-clause-reported : goal.report_rest-requires-clause-reported
report_rest-requires-clause-reported c is =
    subst AllReported c.history.ensures.value (c.in_ok-found.ensures.reported is)

pub lease_rest-requires-clause-founded : goal.lease_rest-requires-clause-founded
lease_rest-requires-clause-founded c =
    prefix-trans (drill_founding ∷ []) c.args.store.now.history c.report_rest.new.store.history c.requires.founded
    c.report_rest.ensures.longer

pub lease_rest-requires-clause-free : goal.lease_rest-requires-clause-free
lease_rest-requires-clause-free c =
    let H : List Entry = c.args.store.now.history in
    let keys = c.in_ok-found.found.keys in
    let free = subst (λ (G : List Entry). AreFree G keys) c.history.ensures.value
    (free-marked c.history.result.now keys c.in_ok-found.ensures.marked) in
    free-on H c.report_rest.new.store.history keys free c.in_ok-report_rest.ensures.keys

pub returns-then-not-branch-clause-free : goal.returns-then-not-branch-clause-free
returns-then-not-branch-clause-free c =
    let H : List Entry = c.args.store.now.history in
    let keys = c.in_ok-found.found.keys in
    let free = subst (λ (G : List Entry). AreFree G keys) c.history.ensures.value
    (free-marked c.history.result.now keys c.in_ok-found.ensures.marked) in
    free-on H c.report_rest.new.store.history keys free c.in_ok-report_rest.ensures.keys

use Rattle.std.proofs.Common.{◌≡◌, ◌⊎◌, ◌++◌, ◌∷◌, [], List, Option, Bool, true, MatchBool, IfSome, IfNone, append-nil, subst, sym, ◌∙◌}
use Rattle.farm_types.specs.declared.key.Key.{Key}
use Rattle.farm_entry.specs.History.{is_reported}
use Rattle.farm_entry.specs.declared.entry.Entry.{Entry}
use Rattle.farm_entry.specs.declared.lease.LeasedRun.{LeasedRun}
use Rattle.drill_plan.specs.Start.{drill_founding}
use Rattle.farm_drill.specs.Ends.{IsFull}
use Rattle.farm_drill.specs.Free.{AreFree}
use Rattle.farm_drill.specs.Planned.{GoesByPlan}
use Rattle.farm_drill.specs.Steps.{FindsNone, HandsOut}
use Rattle.farm_drill.proofs.Deciding.{handed-goes}
use Rattle.farm_drill.proofs.Growing.{prefix-trans}
use Rattle.farm_drill.proofs.Rest.{IsRestOn, handed-there, rest-ended, rest-on}
use Rattle.farm_drill.proofs.runs.lease_rest.Goals as goal

pub loop-key-init : goal.loop-key-init
loop-key-init c = record {
  decided = c.requires.decided;
  founded = c.requires.founded;
  legal = c.requires.legal;
  by_commands = c.requires.by_commands;
  planned = c.requires.planned;
  reported = c.requires.reported;
  longer = ([], sym (append-nil c.args.store.now.history));
  free = c.requires.free;
}

-- the history goes by the plan once the run is leased, and once it is reported too
goes : (c : goal.Else-not-branch) → GoesByPlan c.report.new.store.history
goes c =
    let H : List Entry = c.loop-key.store.history in
    let mid : List Entry = c.lease.new.store.history in
    let key : Key = c.in_ok-key.key in
    let handed = subst (λ (o : Option LeasedRun). IfSome o (λ (l : LeasedRun). HandsOut H key l mid)) c.in-Some.is
    c.in_ok-lease.ensures.leased in
    c.in_ok-report-in-Some.ensures.planned (handed-goes H mid key c.in-Some.lease handed c.loop-key.invariant.planned)

-- what holds once the run that was leased is reported
rest : (c : goal.Else-not-branch) → IsRestOn c.loop-key.store.history c.report.new.store.history c.fresh.new.self
rest c =
    let H : List Entry = c.loop-key.store.history in
    let mid : List Entry = c.lease.new.store.history in
    let new : List Entry = c.report.new.store.history in
    let key : Key = c.in_ok-key.key in
    let handed = subst (λ (o : Option LeasedRun). IfSome o (λ (l : LeasedRun). HandsOut H key l mid)) c.in-Some.is
    c.in_ok-lease.ensures.leased in
    let now = subst (λ (b : Bool). MatchBool b (is_reported new c.in-Some.lease.run ≡ true) (IsFull new))
    c.if-not-branch.false c.in_ok-report-in-Some.ensures.reported in
    rest-on H mid new key c.in-Some.lease c.fresh.new.self c.loop-key.invariant.reported handed
    (λ e keyed. subst (λ (G : List Entry). AreFree (G ++ e ∷ []) c.fresh.new.self) c.history.ensures.value
    (c.in_ok-key.ensures.free e keyed)) c.report.ensures.longer c.in_ok-report-in-Some.ensures.leases
    c.in_ok-report-in-Some.ensures.keys now

pub loop-key-preserved : goal.loop-key-preserved
loop-key-preserved c =
    let H : List Entry = c.loop-key.store.history in
    let mid : List Entry = c.lease.new.store.history in
    let new : List Entry = c.report.new.store.history in
    let more = prefix-trans H mid new c.lease.ensures.longer c.report.ensures.longer in
    let on = rest c in
    record {
      decided = c.in_ok-report-in-Some.ensures.decided;
      founded = prefix-trans (drill_founding ∷ []) H new c.loop-key.invariant.founded more;
      legal = c.report.ensures.legal;
      by_commands = c.in_ok-report-in-Some.ensures.by_commands;
      planned = goes c;
      reported = on.reported;
      longer = prefix-trans c.args.store.now.history H new c.loop-key.invariant.longer more;
      free = on.free;
    }

pub loop-key-smaller : goal.loop-key-smaller
loop-key-smaller c = let on = rest c in on.shorter

pub report-requires-clause-lease : goal.report-requires-clause-lease
report-requires-clause-lease c =
    let H : List Entry = c.loop-key.store.history in
    let mid : List Entry = c.lease.new.store.history in
    handed-there H mid c.in_ok-key.key c.in-Some.lease
    (subst (λ (o : Option LeasedRun). IfSome o (λ (l : LeasedRun). HandsOut H c.in_ok-key.key l mid)) c.in-Some.is
    c.in_ok-lease.ensures.leased)

pub returns-in-None-clause-ended : goal.returns-in-None-clause-ended
returns-in-None-clause-ended c =
    let H : List Entry = c.loop-key.store.history in
    let new : List Entry = c.lease.new.store.history in
    let none = subst (λ (o : Option LeasedRun). IfNone o ((new ≡ H) × (IsFull new ⊎ FindsNone new))) c.in-None.is
    c.in_ok-lease.ensures.none in
    rest-ended H new c.lease.ensures.legal c.in_ok-lease.ensures.by_commands.unclosed
    (prefix-trans (drill_founding ∷ []) H new c.loop-key.invariant.founded c.lease.ensures.longer)
    c.loop-key.invariant.reported none.0 none.1

pub returns-in-None-clause-free : goal.returns-in-None-clause-free
returns-in-None-clause-free c =
    let H : List Entry = c.loop-key.store.history in
    let new : List Entry = c.lease.new.store.history in
    let none = subst (λ (o : Option LeasedRun). IfNone o ((new ≡ H) × (IsFull new ⊎ FindsNone new))) c.in-None.is
    c.in_ok-lease.ensures.none in
    subst (λ (G : List Entry). AreFree G c.fresh.new.self) (c.history.ensures.value ∙ sym none.0)
    c.in_ok-key.ensures.still

pub returns-then-not-branch-clause-planned : goal.returns-then-not-branch-clause-planned
returns-then-not-branch-clause-planned c =
    let H : List Entry = c.loop-key.store.history in
    let mid : List Entry = c.lease.new.store.history in
    let key : Key = c.in_ok-key.key in
    let handed = subst (λ (o : Option LeasedRun). IfSome o (λ (l : LeasedRun). HandsOut H key l mid)) c.in-Some.is
    c.in_ok-lease.ensures.leased in
    c.in_ok-report-in-Some.ensures.planned (handed-goes H mid key c.in-Some.lease handed c.loop-key.invariant.planned)

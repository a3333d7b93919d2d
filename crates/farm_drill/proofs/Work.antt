-- What a worker's steps come to, by the plan.
use Rattle.std.proofs.Common.{◌≡◌, ◌⊎◌, ℕ, List, Option, Some, None, IfSome, Ok, Err, Result, IfOk, ⊎_elim, refl, sym, ap, subst, ◌∙◌}
use Rattle.farm_types.specs.declared.key.Key.{Key}
use Rattle.farm_entry.specs.History.{lease_of}
use Rattle.farm_entry.specs.declared.command.Command.{Command}
use Rattle.farm_entry.specs.declared.command.Command.TheVariants as command
use Rattle.farm_entry.specs.declared.entry.Entry.{Entry}
use Rattle.farm_entry.specs.declared.lease.LeasedRun.{LeasedRun}
use Rattle.common_types.specs.Prefix.{IsPrefix}
use Rattle.drill_plan.specs.Plan.{planned_verdict}
use Rattle.worker_core.specs.Core.{Core}
use Rattle.worker_core.specs.Origins.{ComesFrom}
use Rattle.worker_core.specs.Steps.{core_step}
use Rattle.worker_core.proofs.Origins.{last-is, step-origin}
use Rattle.worker_core.specs.declared.action.Action.{Action}
use Rattle.worker_core.specs.declared.action.Action.TheVariants as action
use Rattle.worker_core.specs.declared.event.Event.{Event}
use Rattle.worker_core.specs.declared.event.Event.TheVariants as event
use Rattle.worker_core.specs.declared.tested.Tested.{Tested}
use Rattle.worker_core.specs.declared.tested.Tested.TheVariants as tested
use Rattle.farm_drill.specs.Planned.{AsksByPlan}
use Rattle.farm_drill.specs.Work.{ActsByPlan, CameByPlan, IsHeld, IsLease, IsRun, IsTestedByPlan, TakesLease}
use Rattle.farm_drill.specs.declared.worker.Ended.{Ended}
use Rattle.farm_drill.specs.declared.worker.Held.{Held}
use Rattle.farm_drill.proofs.Planned.{leased-on, planned-on}

-- whoever asks for a run reports none
pub lease-asks : (H : List Entry) (q : Command) → IsLease q → AsksByPlan H q
lease-asks H (command.Lease key worker) is = tt
lease-asks H (command.Report run verdict) is = absurd is
lease-asks H (command.Skip run) is = absurd is
lease-asks H q is = tt

-- What goes by the plan does so in a longer history.

held-on : (H G : List Entry) (run : ℕ) (held : Option Held) → IsPrefix H G → IfSome held (IsHeld H run)
    → IfSome held (IsHeld G run)
held-on H G run None longer is = tt
held-on H G run (Some held) longer is = record {
  lease = is.lease;
  leased = leased-on H G run is.lease longer is.leased;
  search = is.search;
  position = is.position;
}

tested-on : (H G : List Entry) (run : ℕ) (result : Tested) → IsPrefix H G → IsTestedByPlan H run result
    → IsTestedByPlan G run result
tested-on H G run (tested.Verdict verdict) longer is = planned-on H G run verdict longer is
tested-on H G run tested.Untestable longer is = is

pub acts-on : (H G : List Entry) (held : Option Held) (last : Option Action) → IsPrefix H G → ActsByPlan H held last
    → ActsByPlan G held last
acts-on H G held (Some (action.RunTest run)) longer is = held-on H G run held longer is
acts-on H G held (Some (action.SendReport run result)) longer is = tested-on H G run result longer is
acts-on H G held last longer is = tt

-- What a worker does next goes by the plan where what it did last does, and what came of it.
next-acts : (H : List Entry) (held : Option Held) (core : Core) (given : Event) (next : Action)
    → ComesFrom core given next → ActsByPlan H held core.last → CameByPlan H held core.last given
    → ActsByPlan H held (Some next)
next-acts H held core given action.Draw from last came = tt
next-acts H held core given (action.AskLease key) from last came = tt
next-acts H held core given (action.RunTest run) from last came =
    ⊎_elim
    (λ (same : core.last ≡ Some (action.RunTest run)). subst (ActsByPlan H held) same last)
    (λ asked. subst (λ (e : Event). CameByPlan H held (Some (action.AskLease asked.0.0)) e) asked.1
    (subst (λ (a : Option Action). CameByPlan H held a given) asked.0.1 came))
    from
next-acts H held core given (action.SendReport run result) from last came =
    ⊎_elim
    (λ (same : core.last ≡ Some (action.SendReport run result)). subst (ActsByPlan H held) same last)
    (λ (ran : (core.last ≡ Some (action.RunTest run)) × (given ≡ event.Ran result)).
    subst (λ (e : Event). CameByPlan H held (Some (action.RunTest run)) e) ran.1
    (subst (λ (a : Option Action). CameByPlan H held a given) ran.0 came))
    from
next-acts H held core given (action.Stop end) from last came = tt

pub step-acts : (H : List Entry) (held : Option Held) (core : Core) (given : Event) (next : Action)
    → next ≡ (core_step core given).action → ActsByPlan H held core.last → CameByPlan H held core.last given
    → ActsByPlan H held (Some next)
step-acts H held core given next is last came =
    next-acts H held core given next
    (subst (ComesFrom core given) (sym is) (step-origin core given)) last came

-- what it did last is then what it did next
pub step-last : (core after : Core) (given : Event) (next : Action) → next ≡ (core_step core given).action
    → after ≡ (core_step core given).core → after.last ≡ Some next
step-last core after given next is then_is =
    ap (λ (c : Core). c.last) then_is ∙ last-is core given ∙ ap (λ (a : Action). Some a) (sym is)

-- nothing came before the first step
pub first-acts : (H : List Entry) (held : Option Held) (last : Option Action) → last ≡ None → ActsByPlan H held last
first-acts H held last is = subst (ActsByPlan H held) (sym is) tt

pub first-came : (H : List Entry) (held : Option Held) (last : Option Action) (given : Event) → last ≡ None
    → CameByPlan H held last given
first-came H held last given is = subst (λ (a : Option Action). CameByPlan H held a given) (sym is) tt

-- the test of what is held says what the plan does
pub tested-came : (H : List Entry) (held : Option Held) (run : ℕ) (result : Result Event Ended)
    → IfSome held (IsHeld H run) → IfOk result (IsRun held)
    → IfOk result (CameByPlan H held (Some (action.RunTest run)))
tested-came H held run (Err ended) is ran = tt
tested-came H None run (Ok given) is ran = absurd ran
tested-came H (Some held) run (Ok given) is ran =
    subst (λ (e : Event). CameByPlan H (Some held) (Some (action.RunTest run)) e) (sym ran)
    (record {
      lease = is.lease;
      leased = is.leased;
      says = ap (λ (s : ℕ). planned_verdict s held.position) is.search
          ∙ ap (λ (p : ℕ). planned_verdict is.lease.search p) is.position;
    })

-- nothing is asked of what comes of a report
pub noted-came : (H : List Entry) (held : Option Held) (run : ℕ) (what : Tested) (result : Result Event Ended)
    → IfOk result (CameByPlan H held (Some (action.SendReport run what)))
noted-came H held run what (Err ended) = tt
noted-came H held run what (Ok given) = tt

-- a run that was handed out and is held
pub taken-came : (H : List Entry) (key : Key) (run : Option LeasedRun) (result : Result Event Ended)
    (held : Option Held) → TakesLease run result held → ((l : LeasedRun) → run ≡ Some l → lease_of H l.run ≡ Some l)
    → IfOk result (CameByPlan H held (Some (action.AskLease key)))
taken-came H key None result held takes leased =
    subst (λ (r : Result Event Ended). IfOk r (CameByPlan H held (Some (action.AskLease key)))) (sym takes) tt
taken-came H key (Some l) result held takes leased =
    subst (λ (r : Result Event Ended). IfOk r (CameByPlan H held (Some (action.AskLease key)))) (sym takes.0)
    (subst (λ (h : Option Held). IfSome h (IsHeld H l.run)) (sym takes.1)
    (record { lease = l; leased = leased l refl; search = refl; position = refl }))

-- A worker takes no more leases than it was started for, and stops at its limit after exactly so many.
use Rattle.std.proofs.Common.{◌≡◌, ℕ, ◌+◌, ◌≤◌, ◌==◌, Bool, true, false, List, [], ◌∷◌, if◌then◌else◌, Option, Some, None, refl, sym, subst, ap, ◌∙◌, ⊎_elim, ◌⊎◌, arith}
use Rattle.std.proofs.lemmas.Bool.Decides.{nat_tests}
use Rattle.worker_core.specs.Core.{Core, HasLeases}
use Rattle.worker_core.specs.Leases.{leases_taken, taken_by}
use Rattle.worker_core.specs.Origins.{Asked, Reported}
use Rattle.worker_core.specs.Steps.{Stepped, act, again, core_after, core_start, core_step, lose, step_from}
use Rattle.worker_core.specs.declared.action.Action.{Action}
use Rattle.worker_core.specs.declared.action.Action.TheVariants.{Draw, AskLease, RunTest, SendReport, Stop}
use Rattle.worker_core.specs.declared.action.End.TheVariants.{Limit, Peer}
use Rattle.worker_core.specs.declared.event.Event.{Event}
use Rattle.worker_core.specs.declared.event.Event.TheVariants.{Drew, Leased, Nothing, Ran, Noted, Lost}

-- at the limit no lease is left
abbrev IsSpent : ℕ → Option Action → Type 0
IsSpent left (Some (Stop Limit)) = left ≡ 0
IsSpent left last = Unit {0}

-- what holds of a worker that was started for at least one lease
record IsOnWay (core : Core) : Type 0 where
  leases : HasLeases core.left core.last
  spent : IsSpent core.left core.last

-- a step keeps that, and takes its lease from those that are left
record IsStep (left : ℕ) (last : Option Action) (event : Event) (core : Core) : Type 0 where
  way : IsOnWay core
  counts : taken_by last event + core.left ≡ left

same-way : (left lost : ℕ) (action : Action) (event : Event) → HasLeases left (Some action) → IsSpent left (Some action) →
    taken_by (Some action) event ≡ 0 → IsStep left (Some action) event (again left lost action).core
same-way left lost action event leases spent none = record {
  way = record { leases = leases; spent = spent };
  counts = ap (λ (n : ℕ). n + left) none ∙ omega arith;
}

lost-way : (left lost : ℕ) (request : Action) (status : ℕ) → HasLeases left (Some request) → IsSpent left (Some request) →
    taken_by (Some request) (Lost status) ≡ 0 → (b : Bool) →
    IsStep left (Some request) (Lost status) (if b then again left (lost + 1) request else act left (Stop (Peer status))).core
lost-way left lost request status leases spent none true = same-way left (lost + 1) request (Lost status) leases spent none
lost-way left lost request status leases spent none false = record {
  way = record { leases = tt; spent = tt };
  counts = ap (λ (n : ℕ). n + left) none ∙ omega arith;
}

noted-way : (left : ℕ) (last : Option Action) → taken_by last Noted ≡ 0 → (b : Bool) → (left == 0) ≡ b →
    IsStep left last Noted (act left (if b then Stop Limit else Draw)).core
noted-way left last none true e = record {
  way = record { leases = tt; spent = grind (arith, nat_tests, e) };
  counts = ap (λ (n : ℕ). n + left) none ∙ omega arith;
}
noted-way left last none false e = record {
  way = record { leases = grind (arith, nat_tests, e); spent = tt };
  counts = ap (λ (n : ℕ). n + left) none ∙ omega arith;
}

on-way : (left lost : ℕ) (last : Option Action) (event : Event) → HasLeases left last → IsSpent left last →
    IsStep left last event (step_from left lost last event).core
on-way left lost None event leases spent = record { way = record { leases = leases; spent = tt }; counts = omega arith }
on-way left lost (Some Draw) (Drew key) leases spent =
    record { way = record { leases = leases; spent = tt }; counts = omega arith }
on-way left lost (Some Draw) event leases spent = same-way left lost Draw event leases spent refl
on-way left lost (Some (AskLease key)) (Leased run) leases spent =
    record { way = record { leases = tt; spent = tt }; counts = omega (arith, leases) }
on-way left lost (Some (AskLease key)) Nothing leases spent =
    record { way = record { leases = tt; spent = tt }; counts = omega arith }
on-way left lost (Some (AskLease key)) (Lost status) leases spent =
    lost-way left lost (AskLease key) status leases spent refl _
on-way left lost (Some (AskLease key)) event leases spent = same-way left lost (AskLease key) event leases spent refl
on-way left lost (Some (RunTest run)) (Ran tested) leases spent =
    record { way = record { leases = tt; spent = tt }; counts = omega arith }
on-way left lost (Some (RunTest run)) event leases spent = same-way left lost (RunTest run) event leases spent refl
on-way left lost (Some (SendReport run tested)) Noted leases spent =
    noted-way left (Some (SendReport run tested)) refl _ refl
on-way left lost (Some (SendReport run tested)) (Lost status) leases spent =
    lost-way left lost (SendReport run tested) status leases spent refl _
on-way left lost (Some (SendReport run tested)) event leases spent =
    same-way left lost (SendReport run tested) event leases spent refl
on-way left lost (Some (Stop end)) event leases spent = same-way left lost (Stop end) event leases spent refl

-- over a list of events

record AreSteps (core : Core) (events : List Event) : Type 0 where
  way : IsOnWay (core_after core events)
  counts : leases_taken core events + (core_after core events).left ≡ core.left

all-steps : (core : Core) (events : List Event) → IsOnWay core → AreSteps core events
all-steps core [] way = record { way = way; counts = omega arith }
all-steps core (event ∷ events) way =
    let one = on-way core.left core.lost core.last event way.leases way.spent in
    let rest = all-steps (core_step core event).core events one.way in
    let first : taken_by core.last event + (core_step core event).core.left ≡ core.left = one.counts in
    let more : leases_taken (core_step core event).core events + (core_after (core_step core event).core events).left
    ≡ (core_step core event).core.left = rest.counts in
    record { way = rest.way; counts = omega (arith, first, more) }

started : (runs : ℕ) → 1 ≤ runs → IsOnWay (core_start runs)
started runs some = record { leases = some; spent = tt }

-- what a worker took and what it may still take make up what it was started for
pub taken-and-left : (runs : ℕ) (events : List Event) → 1 ≤ runs →
    leases_taken (core_start runs) events + (core_after (core_start runs) events).left ≡ runs
taken-and-left runs events some = (all-steps (core_start runs) events (started runs some)).counts

pub at-most : (runs : ℕ) (events : List Event) → 1 ≤ runs → leases_taken (core_start runs) events ≤ runs
at-most runs events some =
    let all = (all-steps (core_start runs) events (started runs some)).counts in omega (arith, all)

spent-at : (left : ℕ) (last : Option Action) → IsSpent left last → last ≡ Some (Stop Limit) → left ≡ 0
spent-at left last spent is = subst (IsSpent left) is spent

pub limit-spent : (runs : ℕ) (events : List Event) → 1 ≤ runs →
    (core_after (core_start runs) events).last ≡ Some (Stop Limit) → leases_taken (core_start runs) events ≡ runs
limit-spent runs events some is =
    let all = all-steps (core_start runs) events (started runs some) in
    let counts = all.counts in
    let none : (core_after (core_start runs) events).left ≡ 0 = spent-at _ _ all.way.spent is in
    omega (arith, counts, none)

-- a request that is lost, from its first try on
pub retried : (left : ℕ) (request : Action) (x y z : ℕ) →
    ((lost status : ℕ) → step_from left lost (Some request) (Lost status) ≡ lose left lost request status) →
    ((core_after (record { left = left; lost = 0; last = Some request }) (Lost x ∷ Lost y ∷ [])).last ≡ Some request)
    × ((core_after (record { left = left; lost = 0; last = Some request }) (Lost x ∷ Lost y ∷ Lost z ∷ [])).last
    ≡ Some (Stop (Peer z)))
retried left request x y z loses =
    let first : step_from left 0 (Some request) (Lost x) ≡ again left 1 request = loses 0 x in
    let second : step_from left 1 (Some request) (Lost y) ≡ again left 2 request = loses 1 y in
    let third : step_from left 2 (Some request) (Lost z) ≡ act left (Stop (Peer z)) = loses 2 z in
    let start : Core = record { left = left; lost = 0; last = Some request } in
    let two : (core_step (core_step start (Lost x)).core (Lost y)).core ≡ (again left 2 request).core =
    ap (λ (s : Stepped). (core_step s.core (Lost y)).core) first ∙ ap (λ (s : Stepped). s.core) second in (
      ap (λ (c : Core). c.last) two,
      ap (λ (c : Core). (core_step c (Lost z)).core.last) two ∙ ap (λ (s : Stepped). s.core.last) third,
    )

-- where a request was last sent, and not lost yet
lost-at : (left lost : ℕ) (last : Option Action) (x y z : ℕ) →
    Asked (record { left = left; lost = lost; last = last }) ⊎ Reported (record { left = left; lost = lost; last = last }) →
    lost ≡ 0 →
    ((core_after (record { left = left; lost = lost; last = last }) (Lost x ∷ Lost y ∷ [])).last ≡ last)
    × ((core_after (record { left = left; lost = lost; last = last }) (Lost x ∷ Lost y ∷ Lost z ∷ [])).last
    ≡ Some (Stop (Peer z)))
lost-at left lost last x y z sent none =
    let P : Option Action → ℕ → Type 0 = λ o n.
    ((core_after (record { left = left; lost = n; last = o }) (Lost x ∷ Lost y ∷ [])).last ≡ o)
    × ((core_after (record { left = left; lost = n; last = o }) (Lost x ∷ Lost y ∷ Lost z ∷ [])).last ≡ Some (Stop (Peer z))) in
    subst (P last) (sym none)
    (⊎_elim
    (λ (asked : Asked (record { left = left; lost = lost; last = last })).
    subst (λ (o : Option Action). P o 0) (sym asked.1) (retried left (AskLease asked.0) x y z (λ n status. refl)))
    (λ (reported : Reported (record { left = left; lost = lost; last = last })).
    subst (λ (o : Option Action). P o 0) (sym reported.2)
    (retried left (SendReport reported.0 reported.1) x y z (λ n status. refl)))
    sent)

pub lost-thrice : (core : Core) (x y z : ℕ) → Asked core ⊎ Reported core → core.lost ≡ 0 →
    ((core_after core (Lost x ∷ Lost y ∷ [])).last ≡ core.last)
    × ((core_after core (Lost x ∷ Lost y ∷ Lost z ∷ [])).last ≡ Some (Stop (Peer z)))
lost-thrice core x y z sent none = lost-at core.left core.lost core.last x y z sent none

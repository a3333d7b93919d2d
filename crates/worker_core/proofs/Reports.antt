-- A worker has no more reports noted than it took leases.
use Rattle.std.proofs.Common.{◌≡◌, ◌≢◌, ◌∙◌, ap, refl, ℕ, ◌+◌, ◌≤◌, ◌==◌, nat_lt, Bool, true, false, List, [], ◌∷◌, if◌then◌else◌, Option, Some, None, arith}
use Rattle.worker_core.specs.Core.{Core}
use Rattle.worker_core.specs.Leases.{leases_taken, taken_by}
use Rattle.worker_core.specs.Reports.{noted_by, reports_noted}
use Rattle.worker_core.specs.Steps.{act, again, core_after, core_start, core_step, step_from}
use Rattle.worker_core.specs.declared.action.Action.{Action}
use Rattle.worker_core.specs.declared.action.End.{End}
use Rattle.worker_core.specs.declared.action.Action.TheVariants.{Draw, AskLease, RunTest, SendReport, Stop}
use Rattle.worker_core.specs.declared.action.End.TheVariants.{Idle, Limit, Peer}
use Rattle.worker_core.specs.declared.event.Event.{Event}
use Rattle.worker_core.specs.declared.event.Event.TheVariants.{Drew, Leased, Nothing, Ran, Noted, Lost}
use Rattle.worker_core.specs.declared.worker.TheConstants.{MAX_TRIES}

-- whether a lease was taken whose report isn't noted yet
abbrev owed : Option Action → ℕ
owed (Some (RunTest run)) = 1
owed (Some (SendReport run tested)) = 1
owed last = 0

lost-owed : (left lost status : ℕ) (request : Action) (b : Bool) →
    owed (if b then again left (lost + 1) request else act left (Stop (Peer status))).core.last ≤ owed (Some request)
lost-owed left lost status request true = omega arith
lost-owed left lost status request false = omega arith

noted-owed : (left : ℕ) (b : Bool) → owed (act left (if b then Stop Limit else Draw)).core.last ≤ 0
noted-owed left true = omega arith
noted-owed left false = omega arith

step-owed : (left lost : ℕ) (last : Option Action) (event : Event) →
    noted_by last event + owed (step_from left lost last event).core.last ≤ owed last + taken_by last event
step-owed left lost None event = omega arith
step-owed left lost (Some Draw) (Drew key) = omega arith
step-owed left lost (Some Draw) event = omega arith
step-owed left lost (Some (AskLease key)) (Leased run) = omega arith
step-owed left lost (Some (AskLease key)) Nothing = omega arith
step-owed left lost (Some (AskLease key)) (Lost status) =
    let few = lost-owed left lost status (AskLease key) (nat_lt (lost + 1) MAX_TRIES) in omega (arith, few)
step-owed left lost (Some (AskLease key)) event = omega arith
step-owed left lost (Some (RunTest run)) (Ran tested) = omega arith
step-owed left lost (Some (RunTest run)) event = omega arith
step-owed left lost (Some (SendReport run tested)) Noted = let few = noted-owed left (left == 0) in omega (arith, few)
step-owed left lost (Some (SendReport run tested)) (Lost status) =
    let few = lost-owed left lost status (SendReport run tested) (nat_lt (lost + 1) MAX_TRIES) in omega (arith, few)
step-owed left lost (Some (SendReport run tested)) event = omega arith
step-owed left lost (Some (Stop end)) event = omega arith

steps-owed : (core : Core) (events : List Event) →
    reports_noted core events + owed (core_after core events).last ≤ owed core.last + leases_taken core events
steps-owed core [] = omega arith
steps-owed core (event ∷ events) =
    let one : noted_by core.last event + owed (core_step core event).core.last ≤ owed core.last + taken_by core.last event =
    step-owed core.left core.lost core.last event in
    let rest = steps-owed (core_step core event).core events in omega (arith, one, rest)

pub noted-taken : (runs : ℕ) (events : List Event) →
    reports_noted (core_start runs) events ≤ leases_taken (core_start runs) events
noted-taken runs events = let all = steps-owed (core_start runs) events in omega (arith, all)

-- Where no request was given up, each lease is reported.

-- whether a worker stopped as its request was lost
abbrev given_up : Option Action → Bool
given_up (Some (Stop (Peer status))) = true
given_up last = false

-- it stays so
stays-given_up : (left lost : ℕ) (last : Option Action) (event : Event) → given_up last ≡ true →
    given_up (step_from left lost last event).core.last ≡ true
stays-given_up left lost None event up = absurd (cc up)
stays-given_up left lost (Some Draw) event up = absurd (cc up)
stays-given_up left lost (Some (AskLease key)) event up = absurd (cc up)
stays-given_up left lost (Some (RunTest run)) event up = absurd (cc up)
stays-given_up left lost (Some (SendReport run tested)) event up = absurd (cc up)
stays-given_up left lost (Some (Stop end)) event up = up

ever-given_up : (core : Core) (events : List Event) → given_up core.last ≡ true → given_up (core_after core events).last ≡ true
ever-given_up core [] up = up
ever-given_up core (event ∷ events) up =
    ever-given_up (core_step core event).core events (stays-given_up core.left core.lost core.last event up)

-- a request that is lost is still owed, or given up
lost-paid : (left lost status : ℕ) (request : Action) (b : Bool) →
    given_up (if b then again left (lost + 1) request else act left (Stop (Peer status))).core.last ≡ false →
    owed (if b then again left (lost + 1) request else act left (Stop (Peer status))).core.last ≡ owed (Some request)
lost-paid left lost status request true kept = refl
lost-paid left lost status request false kept = absurd (cc kept)

noted-paid : (left : ℕ) (b : Bool) → owed (act left (if b then Stop Limit else Draw)).core.last ≡ 0
noted-paid left true = refl
noted-paid left false = refl

step-paid : (left lost : ℕ) (last : Option Action) (event : Event) → given_up (step_from left lost last event).core.last ≡ false →
    noted_by last event + owed (step_from left lost last event).core.last ≡ owed last + taken_by last event
step-paid left lost None event kept = omega arith
step-paid left lost (Some Draw) (Drew key) kept = omega arith
step-paid left lost (Some Draw) event kept = omega arith
step-paid left lost (Some (AskLease key)) (Leased run) kept = omega arith
step-paid left lost (Some (AskLease key)) Nothing kept = omega arith
step-paid left lost (Some (AskLease key)) (Lost status) kept =
    let same = lost-paid left lost status (AskLease key) (nat_lt (lost + 1) MAX_TRIES) kept in omega (arith, same)
step-paid left lost (Some (AskLease key)) event kept = omega arith
step-paid left lost (Some (RunTest run)) (Ran tested) kept = omega arith
step-paid left lost (Some (RunTest run)) event kept = omega arith
step-paid left lost (Some (SendReport run tested)) Noted kept =
    let none = noted-paid left (left == 0) in omega (arith, none)
step-paid left lost (Some (SendReport run tested)) (Lost status) kept =
    let same = lost-paid left lost status (SendReport run tested) (nat_lt (lost + 1) MAX_TRIES) kept in
    omega (arith, same)
step-paid left lost (Some (SendReport run tested)) event kept = omega arith
step-paid left lost (Some (Stop end)) event kept = omega arith

not-up : (core : Core) (events : List Event) (b : Bool) → given_up core.last ≡ b → given_up (core_after core events).last ≡ false →
    b ≡ false
not-up core events true is kept = let up = ever-given_up core events is in absurd (cc (up, kept))
not-up core events false is kept = refl

steps-paid : (core : Core) (events : List Event) → given_up (core_after core events).last ≡ false →
    reports_noted core events + owed (core_after core events).last ≡ owed core.last + leases_taken core events
steps-paid core [] kept = omega arith
steps-paid core (event ∷ events) kept =
    let next = (core_step core event).core in
    let first : given_up next.last ≡ false =
    let none = not-up next events (given_up next.last) refl kept in none in
    let one : noted_by core.last event + owed (core_step core event).core.last ≡ owed core.last + taken_by core.last event =
    step-paid core.left core.lost core.last event first in
    let rest = steps-paid (core_step core event).core events kept in omega (arith, one, rest)

not-peer : (end : End) → ((status : ℕ) → end ≢ Peer status) → given_up (Some (Stop end)) ≡ false
not-peer Idle other = refl
not-peer Limit other = refl
not-peer (Peer status) other = absurd (other status refl)

pub noted-all : (runs : ℕ) (events : List Event) (end : End) →
    (core_after (core_start runs) events).last ≡ Some (Stop end) → ((status : ℕ) → end ≢ Peer status) →
    reports_noted (core_start runs) events ≡ leases_taken (core_start runs) events
noted-all runs events end is other =
    let kept : given_up (core_after (core_start runs) events).last ≡ false = ap given_up is ∙ not-peer end other in
    let none : owed (core_after (core_start runs) events).last ≡ 0 = ap owed is in
    let all = steps-paid (core_start runs) events kept in omega (arith, all, none)

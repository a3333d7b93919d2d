-- How much a worker may still do.
use Rattle.std.proofs.Common.{◌≡◌, ◌<◌, ◌≤◌, ◌+◌, ◌*◌, ◌-◌, ◌==◌, ℕ, Bool, true, false, nat_lt, if◌then◌else◌, Option, Some, None, refl, arith}
use Rattle.std.proofs.lemmas.Bool.Decides.{nat_tests}
use Rattle.worker_core.specs.Core.{IsCore}
use Rattle.worker_core.specs.Steps.{act, again, step_from}
use Rattle.worker_core.specs.declared.action.Action.{Action}
use Rattle.worker_core.specs.declared.action.Action.TheVariants.{Draw, AskLease, RunTest, SendReport, Stop}
use Rattle.worker_core.specs.declared.action.End.TheVariants.{Limit, Peer}
use Rattle.worker_core.specs.declared.event.Event.{Event}
use Rattle.worker_core.specs.declared.event.Event.TheVariants.{Drew, Leased, Nothing, Ran, Noted, Lost}
use Rattle.worker_core.specs.declared.worker.TheConstants.{MAX_TRIES}

-- ten for each lease that may still be taken, and what is left of the one in hand
abbrev pub work_left : (left lost : ℕ) → Option Action → ℕ
work_left left lost None = 10 * left + 6
work_left left lost (Some Draw) = 10 * left + 5
work_left left lost (Some (AskLease key)) = 10 * left + 4 - lost
work_left left lost (Some (RunTest run)) = 10 * left + 10
work_left left lost (Some (SendReport run tested)) = 10 * left + 9 - lost
work_left left lost (Some (Stop end)) = 0

-- an event that the action comes to
abbrev pub Suits : Option Action → Event → Type 0
Suits (Some Draw) (Drew key) = Unit {0}
Suits (Some (AskLease key)) (Leased run) = Unit {0}
Suits (Some (AskLease key)) Nothing = Unit {0}
Suits (Some (AskLease key)) (Lost status) = Unit {0}
Suits (Some (RunTest run)) (Ran tested) = Unit {0}
Suits (Some (SendReport run tested)) Noted = Unit {0}
Suits (Some (SendReport run tested)) (Lost status) = Unit {0}
Suits last event = ⊥

less-asked : (left lost : ℕ) (key : _) (status : ℕ) (b : Bool) → lost < MAX_TRIES → 1 ≤ left → nat_lt (lost + 1) MAX_TRIES ≡ b →
    let core = (if b then again left (lost + 1) (AskLease key) else act left (Stop (Peer status))).core in
    work_left core.left core.lost core.last < 10 * left + 4 - lost
less-asked left lost key status true few some test = let more : lost + 1 < MAX_TRIES = grind (arith, nat_tests, test) in omega (arith, more)
less-asked left lost key status false few some test = omega arith

less-sent : (left lost run : ℕ) (tested : _) (status : ℕ) (b : Bool) → lost < MAX_TRIES
    → nat_lt (lost + 1) MAX_TRIES ≡ b →
    let core = (if b then again left (lost + 1) (SendReport run tested) else act left (Stop (Peer status))).core in
    work_left core.left core.lost core.last < 10 * left + 9 - lost
less-sent left lost run tested status true few test =
    let more : lost + 1 < MAX_TRIES = grind (arith, nat_tests, test) in omega (arith, more)
less-sent left lost run tested status false few test = omega arith

less-noted : (left lost : ℕ) (b : Bool) → lost < MAX_TRIES →
    let core = (act left (if b then Stop Limit else Draw)).core in
    work_left core.left core.lost core.last < 10 * left + 9 - lost
less-noted left lost true few = omega arith
less-noted left lost false few = omega arith

pub less : (left lost : ℕ) (last : Option Action) (event : Event) → IsCore left lost last → Suits last event →
    let core = (step_from left lost last event).core in work_left core.left core.lost core.last < work_left left lost last
less left lost (Some Draw) (Drew key) core suits = omega arith
less left lost (Some (AskLease key)) (Leased run) core suits =
    let some : 1 ≤ left = core.leases in let few = core.tries in omega (arith, some, few)
less left lost (Some (AskLease key)) Nothing core suits = let few = core.tries in omega (arith, few)
less left lost (Some (AskLease key)) (Lost status) core suits =
    less-asked left lost key status (nat_lt (lost + 1) MAX_TRIES) core.tries core.leases refl
less left lost (Some (RunTest run)) (Ran tested) core suits = let few = core.tries in omega (arith, few)
less left lost (Some (SendReport run tested)) Noted core suits = less-noted left lost (left == 0) core.tries
less left lost (Some (SendReport run tested)) (Lost status) core suits =
    less-sent left lost run tested status (nat_lt (lost + 1) MAX_TRIES) core.tries refl
less left lost last event core suits = absurd suits

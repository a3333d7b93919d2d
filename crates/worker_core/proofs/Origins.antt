-- Each step does what it is a cause for.
use Rattle.std.proofs.Common.{◌≡◌, ◌⊎◌, ℕ, ◌+◌, ◌==◌, nat_lt, Bool, true, false, if◌then◌else◌, Option, Some, None, refl, inl, inr, arith}
use Rattle.std.proofs.lemmas.Bool.Decides.{nat_tests}
use Rattle.worker_core.specs.Core.{Core}
use Rattle.worker_core.specs.Origins.{Asked, ComesFrom, Reported}
use Rattle.worker_core.specs.Steps.{act, again, core_step, step_from}
use Rattle.worker_core.specs.declared.action.Action.{Action}
use Rattle.worker_core.specs.declared.action.Action.TheVariants.{Draw, AskLease, RunTest, SendReport, Stop}
use Rattle.worker_core.specs.declared.action.End.TheVariants.{Idle, Limit, Peer}
use Rattle.worker_core.specs.declared.event.Event.{Event}
use Rattle.worker_core.specs.declared.event.Event.TheVariants.{Drew, Leased, Nothing, Ran, Noted, Lost}
use Rattle.worker_core.specs.declared.worker.TheConstants.{MAX_TRIES}

-- a lost request
lost-from : (core : Core) (request : Action) (status : ℕ) → ComesFrom core (Lost status) request →
    Asked core ⊎ Reported core → (b : Bool) → nat_lt (core.lost + 1) MAX_TRIES ≡ b →
    ComesFrom core (Lost status) (if b then again core.left (core.lost + 1) request else act core.left (Stop (Peer status))).action
lost-from core request status same sent true more = same
lost-from core request status same sent false last = inr (sent, refl, grind (arith, nat_tests, last))

-- a report that was noted
noted-from : (core : Core) → Reported core → (b : Bool) → (core.left == 0) ≡ b →
    ComesFrom core Noted (act core.left (if b then Stop Limit else Draw)).action
noted-from core sent true none = inr (sent, refl, grind (arith, nat_tests, none))
noted-from core sent false some = inr (inr (sent, refl, grind (arith, nat_tests, some)))

from : (left lost : ℕ) (last : Option Action) (event : Event) →
    ComesFrom (record { left = left; lost = lost; last = last }) event (step_from left lost last event).action
from left lost None event = inl refl
from left lost (Some Draw) (Drew key) = inr (refl, refl)
from left lost (Some Draw) event = inr (inl refl)
from left lost (Some (AskLease key)) (Leased run) = inr ((key, refl), refl)
from left lost (Some (AskLease key)) Nothing = inr ((key, refl), refl)
from left lost (Some (AskLease key)) (Lost status) =
    lost-from (record { left = left; lost = lost; last = Some (AskLease key) }) (AskLease key) status (inl refl) (inl (key, refl)) _ refl
from left lost (Some (AskLease key)) event = inl refl
from left lost (Some (RunTest run)) (Ran tested) = inr (refl, refl)
from left lost (Some (RunTest run)) event = inl refl
from left lost (Some (SendReport run tested)) Noted =
    noted-from (record { left = left; lost = lost; last = Some (SendReport run tested) }) (run, tested, refl) _ refl
from left lost (Some (SendReport run tested)) (Lost status) =
    lost-from (record { left = left; lost = lost; last = Some (SendReport run tested) }) (SendReport run tested) status
    (inl refl) (inr (run, tested, refl)) _ refl
from left lost (Some (SendReport run tested)) event = inl refl
from left lost (Some (Stop Idle)) event = inl refl
from left lost (Some (Stop Limit)) event = inl refl
from left lost (Some (Stop (Peer status))) event = inl refl

-- the action of a step has its cause
pub step-origin : (core : Core) (event : Event) → ComesFrom core event (core_step core event).action
step-origin core event = from core.left core.lost core.last event

-- the action of a step is the last one after it

last-lost : (left lost : ℕ) (request : Action) (status : ℕ) (b : Bool) →
    (if b then again left (lost + 1) request else act left (Stop (Peer status))).core.last
    ≡ Some (if b then again left (lost + 1) request else act left (Stop (Peer status))).action
last-lost left lost request status true = refl
last-lost left lost request status false = refl

last-from : (left lost : ℕ) (last : Option Action) (event : Event) →
    (step_from left lost last event).core.last ≡ Some (step_from left lost last event).action
last-from left lost None event = refl
last-from left lost (Some Draw) (Drew key) = refl
last-from left lost (Some Draw) event = refl
last-from left lost (Some (AskLease key)) (Leased run) = refl
last-from left lost (Some (AskLease key)) Nothing = refl
last-from left lost (Some (AskLease key)) (Lost status) = last-lost left lost (AskLease key) status _
last-from left lost (Some (AskLease key)) event = refl
last-from left lost (Some (RunTest run)) (Ran tested) = refl
last-from left lost (Some (RunTest run)) event = refl
last-from left lost (Some (SendReport run tested)) Noted = refl
last-from left lost (Some (SendReport run tested)) (Lost status) = last-lost left lost (SendReport run tested) status _
last-from left lost (Some (SendReport run tested)) event = refl
last-from left lost (Some (Stop end)) event = refl

pub last-is : (core : Core) (event : Event) → (core_step core event).core.last ≡ Some (core_step core event).action
last-is core event = last-from core.left core.lost core.last event

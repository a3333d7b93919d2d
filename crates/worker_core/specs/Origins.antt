-- What an action comes from: what the worker did last, and what came of that.
use Rattle.std.specs.Prelude.{◌≡◌, ◌⊎◌, ℕ, ◌+◌, ◌≤◌, Bool, true, false, Option, Some, None}
use Rattle.farm_types.specs.declared.key.Key.{Key}
use Rattle.worker_core.specs.Core.{Core}
use Rattle.worker_core.specs.declared.action.Action.{Action}
use Rattle.worker_core.specs.declared.action.Action.TheVariants.{Draw, AskLease, RunTest, SendReport, Stop}
use Rattle.worker_core.specs.declared.action.End.TheVariants.{Idle, Limit, Peer}
use Rattle.worker_core.specs.declared.event.Event.{Event}
use Rattle.worker_core.specs.declared.event.Event.TheVariants.{Drew, Leased, Nothing, Ran, Noted, Lost}
use Rattle.worker_core.specs.declared.tested.Tested.{Tested}
use Rattle.worker_core.specs.declared.worker.TheConstants.{MAX_TRIES}

-- the worker last asked for a lease
abbrev pub Asked : Core → Type 0
Asked core = (key : Key) × (core.last ≡ Some (AskLease key))

-- the worker last sent a report
abbrev pub Reported : Core → Type 0
Reported core = (run : ℕ) × (tested : Tested) × (core.last ≡ Some (SendReport run tested))

-- An action comes where the worker did just that last, or else: a lease is asked for under the key that was drawn, the
-- test of the run is run that was leased, what came of it is reported. A worker stops where the farm has
-- no run, where it has no lease left, or where its request was lost in the last try
abbrev pub ComesFrom : Core → Event → Action → Type 0
ComesFrom core event Draw =
    (core.last ≡ None) ⊎ ((core.last ≡ Some Draw) ⊎ (Reported core × (event ≡ Noted) × (1 ≤ core.left)))
ComesFrom core event (AskLease key) = (core.last ≡ Some (AskLease key)) ⊎ ((core.last ≡ Some Draw) × (event ≡ Drew key))
ComesFrom core event (RunTest run) = (core.last ≡ Some (RunTest run)) ⊎ (Asked core × (event ≡ Leased run))
ComesFrom core event (SendReport run tested) =
    (core.last ≡ Some (SendReport run tested)) ⊎ ((core.last ≡ Some (RunTest run)) × (event ≡ Ran tested))
ComesFrom core event (Stop Idle) = (core.last ≡ Some (Stop Idle)) ⊎ (Asked core × (event ≡ Nothing))
ComesFrom core event (Stop Limit) =
    (core.last ≡ Some (Stop Limit)) ⊎ (Reported core × (event ≡ Noted) × (core.left ≡ 0))
ComesFrom core event (Stop (Peer status)) =
    (core.last ≡ Some (Stop (Peer status)))
    ⊎ ((Asked core ⊎ Reported core) × (event ≡ Lost status) × (MAX_TRIES ≤ core.lost + 1))

-- whether an action is to run a test
abbrev pub is_test : Option Action → Bool
is_test (Some (RunTest run)) = true
is_test _ = false

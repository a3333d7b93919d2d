-- How far a connection has come, between two of its items, and what its serving came to.
use Rattle.std.specs.Prelude.{ℕ, ◌≡◌, ◌≤◌, ◌<◌, ◌+◌, ◌-◌, ◌*◌, true, List, ◌++◌, length, Option, Some, None, Result, Ok, Err, if◌then◌else◌}
use Rattle.connection_laws.specs.Answers.{interim_of}
use Rattle.http_requests.specs.Fronts.{behind}
use Rattle.connection_laws.specs.Held.{IsSoFar}
use Rattle.connection_laws.specs.Outcomes.{Step}
use Rattle.connection_laws.specs.Told.{noted_in}
use Rattle.connection_laws.specs.Owners.{holding_of}
use Rattle.connection_laws.specs.Progress.{Progress}
use Rattle.connection_laws.specs.Serving.{HasPassed, IsServed, IsStopped, IsWaiting}
use Rattle.connection_laws.specs.declared.served.Served.{Served}
use Rattle.connection_laws.specs.declared.served.ServeFault.{ServeFault}
use Rattle.connection_laws.specs.declared.served.Why.{Why}
use Rattle.connection_laws.specs.Moments.{Given}
use Rattle.http_requests.specs.Items.{Item, Items, End}
use Rattle.link_io.specs.Links.{LinkState}
use Rattle.link_io.specs.declared.source.TheConstants.{INPUT_LIMIT}
use Rattle.farm_http.specs.Callers.{CallerState, IsAfter, mark_of}
use Rattle.farm_http.specs.Received.{ReceivedState, AsksInterim}

-- Of what was taken, the items so far were answered whole, none of them closes, and what is behind them is held. An
-- interim answer may be out for the one at the front.
pub record IsServing (start : Progress) (gives : Given → Type 0) (old new : CallerState) (before now : LinkState)
    (r : ReceivedState) (requests : ℕ) : Type 0 where
  pub taken : List ℕ
  pub put : List ℕ
  pub items : List Item
  pub steps : List Step
  pub so_far : IsSoFar start gives (noted_in new.pass.rows before now) taken put items steps
  pub passed : HasPassed before now taken (put ++ interim_of r.interim)
  pub held : r.held ≡ behind taken items
  pub size : r.taken ≡ length taken
  pub most : r.taken ≤ INPUT_LIMIT
  pub ends : r.ended ≡ true → now.ended ≡ true
  pub interim : r.interim ≡ true → AsksInterim r.held
  pub after : IsAfter start steps old new
  pub requests_are : requests ≡ length items
  pub few : requests + length r.held ≤ r.taken

-- The serving came to this where all was answered, where a fault stopped it, and where more had to be taken: from the
-- caller and the link at entry to those now.
abbrev pub WasServed : Served → Progress → (Given → Type 0) → (old new : CallerState) → (before now : LinkState) →
    Type 0
WasServed served start gives old new before now =
    IsServed served start (mark_of new.pass new.reader) gives (noted_in new.pass.rows before now) before now
    (holding_of old.pass) (holding_of new.pass) new.reader

abbrev pub HasStopped : ServeFault → Progress → (Given → Type 0) → (old new : CallerState) → (before now : LinkState)
    → Type 0
HasStopped fault start gives old new before now =
    IsStopped fault start (mark_of new.pass new.reader) gives (noted_in new.pass.rows before now) before now
    (holding_of old.pass) (holding_of new.pass) new.reader

abbrev pub IsLeftWaiting : Progress → (Given → Type 0) → (old new : CallerState) → (before now : LinkState) → Type 0
IsLeftWaiting start gives old new before now =
    IsWaiting start (mark_of new.pass new.reader) gives (noted_in new.pass.rows before now) before now
    (holding_of old.pass) (holding_of new.pass)
    new.reader

-- What the serving came to, by its answer and by the bytes that are held in the end: after a fault it takes the list
-- of the items of these.
abbrev pub HasServed : Result Served ServeFault → (held : List ℕ) → Progress → (Given → Type 0) →
    (old new : CallerState)
    → (before now : LinkState) → Type 0
HasServed (Ok served) held start gives old new before now = WasServed served start gives old new before now
HasServed (Err fault) held start gives old new before now =
    (items : List Item) (end : End) → Items held items end → HasStopped fault start gives old new before now

-- how much may still be done, which falls with each turn of the loop
abbrev pub work_left : ReceivedState → ℕ
work_left r = 2 * (INPUT_LIMIT - r.taken) + length r.held + (if r.ended then 0 else 1)

-- What a turn of the loop came to: it goes on, and less is left to do than there was; or it has ended; or a fault
-- stopped it.
abbrev pub GoesOn : Progress → (Given → Type 0) → (old : CallerState) → (before : LinkState) → (work : ℕ)
    → Result (Option Why) ServeFault → (new : CallerState) → (now : LinkState) → ReceivedState → (requests : ℕ) → Type 0
GoesOn start gives old before work (Ok None) new now r requests =
    IsServing start gives old new before now r requests × (work_left r < work)
GoesOn start gives old before work (Ok (Some why)) new now r requests =
    HasServed (Ok (record { requests = requests; why = why })) r.held start gives old new before now
GoesOn start gives old before work (Err fault) new now r requests =
    HasServed (Err fault) r.held start gives old new before now

-- The steps of the workers in a world.
use Rattle.std.specs.Prelude.{ℕ, ◌==◌, not, ◌&&◌, List, [], ◌∷◌, ◌++◌, map, slice_get, slice_set, if◌then◌else◌, Option, Some, None}
use Rattle.std.specs.Option.{option_and_then}
use Rattle.farm_entry.specs.declared.command.Command.{Command}
use Rattle.farm_entry.specs.declared.command.Command.TheVariants.{Lease, Report, Skip}
use Rattle.farm_entry.specs.declared.refusal.Refusal.TheVariants.{Closed, NoRun}
use Rattle.farm_entry.specs.declared.reply.Reply.TheVariants as reply
use Rattle.worker_core.specs.Origins.{is_test}
use Rattle.worker_core.specs.Steps.{core_start, core_step}
use Rattle.worker_core.specs.declared.action.Action.{Action}
use Rattle.worker_core.specs.declared.action.Action.TheVariants.{AskLease, RunTest, SendReport}
use Rattle.worker_core.specs.declared.event.Event.{Event}
use Rattle.worker_core.specs.declared.event.Event.TheVariants.{Leased, Nothing, Noted, Ran}
use Rattle.worker_core.specs.declared.tested.Tested.{Tested}
use Rattle.worker_core.specs.declared.tested.Tested.TheVariants.{Untestable, Verdict}
use Rattle.leaf_laws.specs.World.{LeaseAnswer, Request, Said, SentAnswer, Worker, World, refused, replied}

-- a worker that starts, or starts anew, to take so many leases
abbrev pub fresh : (name : List ℕ) → (runs : ℕ) → Worker
fresh name runs = record { name = name; core = core_start runs; lease = None }

-- workers that start, by their names and how many leases each is to take
abbrev pub crew : List (List ℕ × ℕ) → List Worker
crew starts = map (λ start. fresh start.0 start.1) starts

-- the command that reports what came of a run
abbrev pub report_of : (run : ℕ) → Tested → Command
report_of run (Verdict verdict) = Report run verdict
report_of run Untestable = Skip run

-- the request that an action sends
abbrev pub request_of : (worker : ℕ) → (name : List ℕ) → Action → List Request
request_of worker name (AskLease key) = record { sender = worker; command = Lease key name } ∷ []
request_of worker name (SendReport run tested) = record { sender = worker; command = report_of run tested } ∷ []
request_of worker name _ = []

-- the lease answer after a step: the one that came with it, where the action became a run of the test
abbrev pub lease_after : (before after : Option Action) → (came kept : Option LeaseAnswer) → Option LeaseAnswer
lease_after before after came kept = if is_test after && not (is_test before) then came else kept

-- a worker after an event, and after the lease answer that came with it, if one did
abbrev pub told : Worker → Event → (came : Option LeaseAnswer) → Worker
told w event came = record {
  name = w.name;
  core = (core_step w.core event).core;
  lease = lease_after w.core.last (core_step w.core event).core.last came w.lease;
}

-- a worker takes a step, and its request is sent
abbrev pub steps : World → (worker : ℕ) → Event → (came : Option LeaseAnswer) → Option Worker → World
steps world worker event came None = world
steps world worker event came (Some w) = record {
  history = world.history;
  workers = slice_set world.workers worker (told w event came);
  requests = world.requests ++ request_of worker w.name (core_step w.core event).action;
  answers = world.answers;
  made = world.made;
}

abbrev pub worker_steps : World → (worker : ℕ) → Event → (came : Option LeaseAnswer) → World
worker_steps world worker event came = steps world worker event came (slice_get world.workers worker)

-- what a worker makes of it that the farm is closed, by what it did last: nobody needs its report any more, or there
-- is no run for it
abbrev pub closed_event : (last : Option Action) → Event
closed_event (Some (SendReport run tested)) = Noted
closed_event _ = Nothing

-- What an answer tells a worker that did this last. Any other answer ends its work: it takes no step by it, and may
-- start anew
abbrev pub event_of : (last : Option Action) → Said → Option Event
event_of last (replied (reply.Leased run search stage position commit test deadline)) = Some (Leased run)
event_of last (replied (reply.Reported run search verdict _ standing)) = Some Noted
event_of last (replied (reply.Skipped run search _ standing)) = Some Noted
event_of last (refused NoRun) = Some Nothing
event_of last (refused Closed) = Some (closed_event last)
event_of last _ = None

-- what a worker did last
abbrev pub last_of : World → (worker : ℕ) → Option Action
last_of world worker = option_and_then (λ w. w.core.last) (slice_get world.workers worker)

-- the lease in an answer
abbrev pub lease_in_answer : Said → Option LeaseAnswer
lease_in_answer (replied (reply.Leased run search stage position commit test deadline)) =
    Some (record { run = run; test = test; commit = commit })
lease_in_answer _ = None

abbrev pub hears : World → (worker : ℕ) → Said → Option Event → World
hears world worker said None = world
hears world worker said (Some event) = worker_steps world worker event (lease_in_answer said)

-- a worker gets an answer that was sent to it
abbrev pub gets : World → (worker : ℕ) → Option SentAnswer → World
gets world worker None = world
gets world worker (Some answer) =
    if answer.to == worker then hears world worker answer.said (event_of (last_of world worker) answer.said) else world

-- the runner of a worker makes its run, of the test and at the commit of its lease
abbrev pub runs_test : World → (worker : ℕ) → Tested → (last : Option Action) → Option LeaseAnswer → World
runs_test world worker tested (Some (RunTest run)) (Some lease) =
    worker_steps (record {
      history = world.history;
      workers = world.workers;
      requests = world.requests;
      answers = world.answers;
      made = world.made ++ record { test = lease.test; commit = lease.commit; tested = tested } ∷ [];
    }) worker (Ran tested) None
runs_test world worker tested last lease = world

abbrev pub runner_says : World → (worker : ℕ) → Tested → Option Worker → World
runner_says world worker tested None = world
runner_says world worker tested (Some w) = runs_test world worker tested w.core.last w.lease

-- a worker starts anew, and keeps nothing but its name
abbrev pub restarts : World → (worker : ℕ) → (runs : ℕ) → Option Worker → World
restarts world worker runs None = world
restarts world worker runs (Some w) = record {
  history = world.history;
  workers = slice_set world.workers worker (fresh w.name runs);
  requests = world.requests;
  answers = world.answers;
  made = world.made;
}

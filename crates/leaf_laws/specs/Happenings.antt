-- What may happen to workers and their farm, in any order and any number.
use Rattle.std.specs.Prelude.{ℕ, Bool, true, false, List, [], ◌∷◌, ◌++◌, length, slice_get, if◌then◌else◌, Option, Some, None}
use Rattle.std.specs.Option.{option_map}
use Rattle.farm_types.specs.declared.commit_id.CommitId.{CommitId}
use Rattle.farm_types.specs.declared.key.Key.{Key}
use Rattle.farm_types.specs.declared.moment.Moment.{Moment}
use Rattle.worker_core.specs.declared.tested.Tested.{Tested}
use Rattle.farm_entry.specs.Closing.{may_carry, may_close}
use Rattle.farm_entry.specs.Decision.{decide}
use Rattle.farm_entry.specs.Playing.{after}
use Rattle.farm_entry.specs.Reply.{reply_at}
use Rattle.farm_entry.specs.declared.command.Command.{Command}
use Rattle.farm_entry.specs.declared.command.Command.TheVariants.{Report, Skip}
use Rattle.farm_entry.specs.declared.decision.Decision.{Decision}
use Rattle.farm_entry.specs.declared.decision.Decision.TheVariants.{New, Refuse, Repeat, Show}
use Rattle.farm_entry.specs.declared.entry.Entry.{Entry}
use Rattle.farm_entry.specs.declared.entry.What.TheVariants.{Carried, Closed}
use Rattle.worker_core.specs.declared.event.Event.TheVariants.{Begin, Drew, Lost}
use Rattle.leaf_laws.specs.World.{Request, Said, SentAnswer, World, refused, replied}
use Rattle.leaf_laws.specs.Workers.{gets, restarts, runner_says, worker_steps}

-- how far the farm comes with a command before it stops, if it stops
pub data Reach : Type 0 where
  nothing_appended : Reach
  nothing_sent : Reach
  answered : Reach

-- Workers, requests and answers are named by their places in the lists of the world
pub data Happening : Type 0 where
  begins : (worker : ℕ) → Happening  -- a worker begins
  draws : (worker : ℕ) → Key → Happening  -- it draws any key, an old one too
  loses : (worker : ℕ) → (status : ℕ) → Happening  -- its request or the answer is lost, or not served
  receives : (worker : ℕ) → (answer : ℕ) → Happening  -- it gets any answer that was ever sent to it
  runner_answers : (worker : ℕ) → Tested → Happening  -- its runner says anything of its run
  starts_anew : (worker : ℕ) → (runs : ℕ) → Happening  -- it starts anew
  takes : (request : ℕ) → Moment → Reach → Happening  -- the farm takes any request that was ever sent, at any moment
  is_asked : (sender : ℕ) → Command → Moment → Reach → Happening  -- anybody asks it anything, but for a report
  farm_starts_anew : Happening  -- it starts anew, with its history
  farm_carries : Moment → CommitId → (day : ℕ) → Happening  -- it begins with one order more of a farm before it, if legal
  farm_is_closed : Moment → Happening  -- it starts anew with a closing behind it, where that may come next

-- what a command is answered, by what it comes to
abbrev pub said_of : List Entry → Decision → Option Said
said_of H (Refuse cause) = Some (refused cause)
said_of H (Repeat place) = option_map replied (reply_at H place)
said_of H (Show page) = Some (replied page)
said_of H (New e) = option_map replied (reply_at (H ++ e ∷ []) (length H))

abbrev pub answer_to : (to : ℕ) → Option Said → List SentAnswer
answer_to to None = []
answer_to to (Some said) = record { to = to; said = said } ∷ []

-- the farm takes a command, so far
abbrev pub decides : World → (sender : ℕ) → Decision → Reach → World
decides world sender decision nothing_appended = world
decides world sender decision nothing_sent = record {
  history = after world.history decision;
  workers = world.workers;
  requests = world.requests;
  answers = world.answers;
  made = world.made;
}
decides world sender decision answered = record {
  history = after world.history decision;
  workers = world.workers;
  requests = world.requests;
  answers = world.answers ++ answer_to sender (said_of world.history decision);
  made = world.made;
}

abbrev pub farm_takes : World → Option Request → Moment → Reach → World
farm_takes world None at reach = world
farm_takes world (Some request) at reach =
    decides world request.sender (decide world.history request.command at) reach

abbrev pub is_report : Command → Bool
is_report (Report run verdict) = true
is_report (Skip run) = true
is_report q = false

-- a command that no packet carried: no report is taken so, since reports come from workers alone
abbrev pub farm_is_asked : World → (sender : ℕ) → Command → Moment → Reach → World
farm_is_asked world sender q at reach =
    if is_report q then world else decides world sender (decide world.history q at) reach

-- an entry that no command adds comes next, where it may
abbrev pub unasked : World → (may : Bool) → Entry → World
unasked world may e = record {
  history = if may then world.history ++ e ∷ [] else world.history;
  workers = world.workers;
  requests = world.requests;
  answers = world.answers;
  made = world.made;
}

-- the world after something happened. What names nothing that is there changes nothing
abbrev pub happens : World → Happening → World
happens world (begins worker) = worker_steps world worker Begin None
happens world (draws worker key) = worker_steps world worker (Drew key) None
happens world (loses worker status) = worker_steps world worker (Lost status) None
happens world (receives worker answer) = gets world worker (slice_get world.answers answer)
happens world (runner_answers worker tested) = runner_says world worker tested (slice_get world.workers worker)
happens world (starts_anew worker runs) = restarts world worker runs (slice_get world.workers worker)
happens world (takes request at reach) = farm_takes world (slice_get world.requests request) at reach
happens world (is_asked sender q at reach) = farm_is_asked world sender q at reach
happens world farm_starts_anew = world
happens world (farm_carries at commit day) =
    unasked world (may_carry world.history at commit day) (record { at = at; what = Carried commit day })
happens world (farm_is_closed at) = unasked world (may_close world.history at) (record { at = at; what = Closed })

-- the world after a list of happenings
abbrev pub all_happen : World → List Happening → World
all_happen world [] = world
all_happen world (h ∷ more) = all_happen (happens world h) more

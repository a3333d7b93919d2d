-- Workers and a farm, with all that they sent each other, and what the tests' runners said.
use Rattle.std.specs.Prelude.{ℕ, List, [], ◌∷◌, Option}
use Rattle.farm_types.specs.declared.commit_id.CommitId.{CommitId}
use Rattle.farm_types.specs.declared.moment.Moment.{Moment}
use Rattle.worker_core.specs.declared.tested.Tested.{Tested}
use Rattle.farm_entry.specs.declared.command.Command.{Command}
use Rattle.farm_entry.specs.declared.entry.Entry.{Entry}
use Rattle.farm_entry.specs.declared.entry.What.TheVariants.{Founded}
use Rattle.farm_entry.specs.declared.refusal.Refusal.{Refusal}
use Rattle.farm_entry.specs.declared.reply.Reply.{Reply}
use Rattle.farm_entry.specs.declared.settings.Settings.{Settings}
use Rattle.worker_core.specs.Core.{Core}

-- what a lease was answered: the run, its test, and the commit at which it is to be run
pub record LeaseAnswer : Type 0 where
  pub run : ℕ
  pub test : List ℕ
  pub commit : CommitId

-- a worker, with the lease answer at which its action last became a run of the test
pub record Worker : Type 0 where
  pub name : List ℕ
  pub core : Core
  pub lease : Option LeaseAnswer

-- what a command is answered
pub data Said : Type 0 where
  replied : Reply → Said
  refused : Refusal → Said

-- a command on its way to the farm, with who sent it
pub record Request : Type 0 where
  pub sender : ℕ
  pub command : Command

-- an answer on its way from the farm, with whom it was sent to
pub record SentAnswer : Type 0 where
  pub to : ℕ
  pub said : Said

-- a runner was to run a test at a commit, and said what came of it
pub record Made : Type 0 where
  pub test : List ℕ
  pub commit : CommitId
  pub tested : Tested

-- Everything that was ever sent is kept. The network may hand it over never, late, often and in any order
pub record World : Type 0 where
  pub history : List Entry
  pub workers : List Worker
  pub requests : List Request
  pub answers : List SentAnswer
  pub made : List Made

-- a farm that was just founded, with its workers
abbrev pub founded : Settings → Moment → List Worker → World
founded settings at workers = record {
  history = record { at = at; what = Founded settings } ∷ [];
  workers = workers;
  requests = [];
  answers = [];
  made = [];
}

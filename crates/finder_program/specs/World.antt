-- What is outside of the program, as contracts see it.
use Rattle.std.specs.Prelude.{ℕ, List, Option}
use Rattle.outside_seen.specs.Outside.{DiskSeen, InputSeen, NetworkSeen, Outside, OutputSeen, outside}
use Rattle.farm_types.specs.declared.key.Key.{Key}
use Rattle.farm_types.specs.declared.moment.Moment.{Moment}
use Rattle.link_io.specs.Streams.{Streams}
use Rattle.worker_core.specs.Runs.{Asked}
use Rattle.finder_commands.specs.WorkCommand.{WorkSeen, work_seen}

-- what a runner was asked and has answered, the newest first, where it tells, and how often it failed
pub record RunnerSeen : Type 0 where
  pub told : Option (List Asked)
  pub faults : ℕ

-- All that is outside, at a moment: the input, the output, the disk of the journal, the network, the runner of tests,
-- the keys that were drawn, the newest first, where their source tells, and the moments that the clock may give.
pub record World : Type 1 where
  pub input : InputSeen
  pub output : OutputSeen
  pub disk : DiskSeen
  pub network : NetworkSeen
  pub runner : RunnerSeen
  pub keys : Option (List Key)
  pub clock : Moment → Type 0

-- what is seen of a runner by what it told and its count
abbrev pub runner_seen : Option (List Asked) → ℕ → RunnerSeen
runner_seen told count = record { told = told; faults = count }

-- all of it together
abbrev pub world : InputSeen → OutputSeen → DiskSeen → NetworkSeen → RunnerSeen → Option (List Key) → (Moment → Type 0)
    → World
world input output disk network runner keys clock = record {
  input = input;
  output = output;
  disk = disk;
  network = network;
  runner = runner;
  keys = keys;
  clock = clock;
}

-- its input and its output
abbrev pub streams_of : World → Streams
streams_of seen = record {
  left = seen.input.left;
  written = seen.output.written;
  read_faults = seen.input.faults;
  write_faults = seen.output.faults;
}

-- its network, its output and its disk
abbrev pub journal_outside : World → Outside
journal_outside seen = outside seen.network seen.output seen.disk

-- its network, its runner and its keys
abbrev pub work_outside : World → WorkSeen
work_outside seen =
    work_seen seen.network.told seen.network.faults seen.runner.told seen.runner.faults seen.keys

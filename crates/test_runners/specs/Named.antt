-- Which runner a word names.
use Rattle.std.specs.Prelude.{ℕ, List, take, drop, if◌then◌else◌, codes}
use Rattle.std.specs.Str.{bytes_eq}
use Rattle.test_runners.specs.declared.named.RunnerName.{RunnerName}
use Rattle.test_runners.specs.declared.named.RunnerName.TheVariants as name

-- a table in the file at a path, a test host at an address, or none
pub data RunnerAsked : Type 0 where
  table_at : (path : List ℕ) → RunnerAsked
  host_at : (address : List ℕ) → RunnerAsked
  no_runner : RunnerAsked

abbrev pub runner_asked : (word : List ℕ) → RunnerAsked
runner_asked word =
    if bytes_eq (take 6 word) (codes "table:") then table_at (drop 6 word)
    else if bytes_eq (take 5 word) (codes "host:") then host_at (drop 5 word)
    else no_runner

abbrev pub name_seen : RunnerName → RunnerAsked
name_seen (name.Table path) = table_at path.now
name_seen (name.Host address) = host_at address.now
name_seen name.Nothing = no_runner

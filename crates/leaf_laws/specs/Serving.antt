-- What happens to one worker and a farm with one search.
use Rattle.std.specs.Prelude.{List, [], ◌∷◌}
use Rattle.weight_exact.specs.declared.run.Verdict.TheVariants.{Fail, Pass}
use Rattle.farm_entry.specs.declared.command.Command.TheVariants.{Open}
use Rattle.leaf_laws.specs.WorkedFarms.{ask_for, at_first, revert_with, the_key, the_settings, the_worker}
use Rattle.worker_core.specs.declared.tested.Tested.TheVariants.{Verdict}
use Rattle.leaf_laws.specs.Happenings.{Happening, all_happen, answered, begins, draws, farm_is_closed, is_asked, loses, receives, runner_answers, starts_anew, takes}
use Rattle.leaf_laws.specs.Workers.{crew}
use Rattle.leaf_laws.specs.World.{World, founded}

-- the search is opened, and the worker leases, runs and reports until there is no run. The answer at place 2, which is
-- the first to a report, is never received
abbrev pub what_happens : List Happening
what_happens =
    is_asked 9 (Open (ask_for 1 1000 1)) at_first answered
    ∷ begins 0
    ∷ draws 0 (the_key 2)
    ∷ takes 0 at_first answered
    ∷ receives 0 1
    ∷ runner_answers 0 (Verdict Fail)
    ∷ takes 1 at_first answered
    ∷ loses 0 0
    ∷ takes 2 at_first answered
    ∷ receives 0 3
    ∷ draws 0 (the_key 3)
    ∷ takes 3 at_first answered
    ∷ receives 0 4
    ∷ runner_answers 0 (Verdict Pass)
    ∷ takes 4 at_first answered
    ∷ receives 0 5
    ∷ draws 0 (the_key 4)
    ∷ takes 5 at_first answered
    ∷ receives 0 6
    ∷ []

abbrev pub played : World
played = all_happen (founded the_settings at_first (crew ((the_worker, 5) ∷ []))) what_happens

-- then the order is taken, and the farm is closed; the worker starts anew, and asks it for a run
abbrev pub then_closed : List Happening
then_closed =
    is_asked 9 (revert_with 5) at_first answered
    ∷ farm_is_closed at_first
    ∷ starts_anew 0 5
    ∷ begins 0
    ∷ draws 0 (the_key 6)
    ∷ takes 6 at_first answered
    ∷ receives 0 8
    ∷ []

abbrev pub played_closed : World
played_closed = all_happen played then_closed

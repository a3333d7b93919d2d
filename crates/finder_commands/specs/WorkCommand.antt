-- What the command `work` does.
use Rattle.std.specs.Prelude.{◌≡◌, ◌⊎◌, ◌++◌, ℕ, Bool, true, false, List, [], ◌∷◌, Option, Result, Ok, Err, codes, decimal}
use Rattle.farm_types.specs.declared.key.Key.{Key}
use Rattle.common_types.specs.Counts.{Rose}
use Rattle.link_io.specs.Events.{NetworkEvent}
use Rattle.worker_agent.specs.Told.{Told}
use Rattle.worker_agent.specs.Work.{Works}
use Rattle.worker_agent.specs.declared.worked.Worked.{Worked}
use Rattle.worker_agent.specs.declared.worked.WorkFault.{WorkFault}
use Rattle.worker_core.specs.Runs.{Asked}
use Rattle.finder_commands.specs.Statuses.{status_of_work}
use Rattle.outside_seen.specs.Outside.{OutputSeen}
use Rattle.finder_commands.specs.TextPut.{TextPut}
use Rattle.finder_commands.specs.declared.status.Status.{Status}
use Rattle.finder_commands.specs.declared.status.Status.TheVariants.{Done, NetFault, RunnerFault, Memory, Peer}

-- what is seen of the network, the runner and the source of keys: what they have told, and how often the first two
-- failed
pub record WorkSeen : Type 0 where
  pub told : Told
  pub network_faults : ℕ
  pub runner_faults : ℕ

abbrev pub work_seen : Option (List NetworkEvent) → ℕ → Option (List Asked) → ℕ → Option (List Key) → WorkSeen
work_seen network network_faults runner runner_faults keys = record {
  told = record { network = network; runner = runner; keys = keys };
  network_faults = network_faults;
  runner_faults = runner_faults;
}

-- why a worker is done, as the line says it
abbrev pub end_word : (idle : Bool) → List ℕ
end_word true = codes "idle"
end_word false = codes "limit"

-- the line of what a worker did
abbrev pub work_line : Worked → List ℕ
work_line worked =
    codes "leased " ++ decimal worked.leased ++ codes " reported " ++ decimal worked.reported ++ codes " "
    ++ end_word worked.idle ++ 10 ∷ []

-- What is said of what the work came to. Where it came to its end, its line is put; else the status is that of its
-- fault, and nothing is written
abbrev pub SaysWork : Result Worked WorkFault → Status → OutputSeen → OutputSeen → Type 0
SaysWork (Ok worked) status before after = TextPut (work_line worked) status before after
SaysWork (Err fault) status before after = (status ≡ status_of_work fault) × (after ≡ before)

-- The work of a worker of this name that is to take so many leases, and what was written of it. A fault of the network
-- or the runner is answered only where it failed in this call
pub record WorkEnds (worker : List ℕ) (runs : ℕ) (status : Status) (before after : WorkSeen)
    (written now : OutputSeen) : Type 0 where
  pub result : Result Worked WorkFault
  pub works : Works worker runs before.told after.told result
  pub says : SaysWork result status written now
  pub net_fault : status ≡ NetFault → Rose before.network_faults after.network_faults
  pub runner_fault : status ≡ RunnerFault → Rose before.runner_faults after.runner_faults

-- where nothing fails and memory is there, the work comes to its end, or the service's answers are none that it goes
-- on with
abbrev pub WorkCompletes : Status → (before after : WorkSeen) → (written now : OutputSeen) → Type 0
WorkCompletes status before after written now =
    ¬ Rose before.network_faults after.network_faults → ¬ Rose before.runner_faults after.runner_faults →
    ¬ Rose written.faults now.faults → (status ≡ Memory) ⊎ (status ≡ Done) ⊎ ((answer : ℕ) × (status ≡ Peer answer))

-- what is said of a call: how it ends, and that it does its work
pub record WorkSays (worker : List ℕ) (runs : ℕ) (status : Status) (before after : WorkSeen)
    (written now : OutputSeen) : Type 0 where
  pub ends : WorkEnds worker runs status before after written now
  pub completes : WorkCompletes status before after written now

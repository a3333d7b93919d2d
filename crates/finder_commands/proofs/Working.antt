-- How a call of `work` ends.
use Rattle.std.proofs.Common.{◌≡◌, ◌⊎◌, ℕ, List, [], inl, inr, Result, Ok, Err, refl, subst}
use Rattle.common_types.specs.Counts.{Rose}
use Rattle.worker_agent.specs.Steps.{agent_start}
use Rattle.worker_agent.specs.Work.{nothing}
use Rattle.worker_agent.specs.declared.worked.Worked.{Worked}
use Rattle.worker_agent.specs.declared.worked.WorkFault.{WorkFault}
use Rattle.worker_agent.specs.declared.worked.WorkFault.TheVariants as work
use Rattle.finder_commands.specs.Statuses.{status_of_work}
use Rattle.outside_seen.specs.Outside.{OutputSeen}
use Rattle.finder_commands.specs.TextPut.{TextPut}
use Rattle.finder_commands.specs.WorkCommand.{WorkSeen, SaysWork, WorkCompletes, WorkEnds, work_line}
use Rattle.finder_commands.specs.declared.status.Status.{Status}
use Rattle.finder_commands.specs.declared.status.Status.TheVariants.{Done, WriteFault, NetFault, RunnerFault, Memory, Peer}

-- no other than these faults has these statuses
pub net-from_status : (fault : WorkFault) → status_of_work fault ≡ NetFault → fault ≡ work.NetFault
net-from_status work.NetFault e = refl
net-from_status work.RunnerFault e = cc
net-from_status (work.Peer answer) e = cc
net-from_status work.Memory e = cc

pub runner-from_status : (fault : WorkFault) → status_of_work fault ≡ RunnerFault → fault ≡ work.RunnerFault
runner-from_status work.NetFault e = cc
runner-from_status work.RunnerFault e = refl
runner-from_status (work.Peer answer) e = cc
runner-from_status work.Memory e = cc

-- a text that is put ends by neither of them
pub put-not_net : (text : List ℕ) (status : Status) (before after : OutputSeen) → TextPut text status before after →
    status ≡ NetFault → ⊥
put-not_net text status before after put e =
    let at : TextPut text NetFault before after = subst (λ (s : Status). TextPut text s before after) e put in
    at

pub put-not_runner : (text : List ℕ) (status : Status) (before after : OutputSeen) → TextPut text status before after →
    status ≡ RunnerFault → ⊥
put-not_runner text status before after put e =
    let at : TextPut text RunnerFault before after = subst (λ (s : Status). TextPut text s before after) e put in
    at

-- where memory ran out to read the words, nothing was done
pub unread-work : (worker : List ℕ) (runs : ℕ) (seen : WorkSeen) (written : OutputSeen) →
    WorkEnds worker runs Memory seen seen written written
unread-work worker runs seen written = record {
  result = Err work.Memory;
  works = record {
    steps = [];
    events = [];
    agent = agent_start runs;
    last = nothing;
    are = refl;
    tells = refl;
    ends = inl tt;
  };
  says = (refl, refl);
  net_fault = λ is. cc;
  runner_fault = λ is. cc;
}

put-completes : (text : List ℕ) (status : Status) (before after : OutputSeen) → TextPut text status before after →
    ¬ Rose before.faults after.faults → (status ≡ Memory) ⊎ (status ≡ Done) ⊎ ((answer : ℕ) × (status ≡ Peer answer))
put-completes text Done before after put calm = inr (inl refl)
put-completes text WriteFault before after put calm = absurd (calm put.0)
put-completes text Memory before after put calm = inl refl
put-completes text _ before after put calm = absurd put

fault-completes : (fault : WorkFault) (status : Status) (before after : WorkSeen) → status ≡ status_of_work fault →
    (status ≡ NetFault → Rose before.network_faults after.network_faults) →
    (status ≡ RunnerFault → Rose before.runner_faults after.runner_faults) →
    ¬ Rose before.network_faults after.network_faults → ¬ Rose before.runner_faults after.runner_faults →
    (status ≡ Memory) ⊎ (status ≡ Done) ⊎ ((answer : ℕ) × (status ≡ Peer answer))
fault-completes work.NetFault status before after is net ran steady calm = absurd (steady (net is))
fault-completes work.RunnerFault status before after is net ran steady calm = absurd (calm (ran is))
fault-completes (work.Peer answer) status before after is net ran steady calm = inr (inr (answer, is))
fault-completes work.Memory status before after is net ran steady calm = inl is

says-completes : (result : Result Worked WorkFault) (status : Status) (before after : WorkSeen)
    (written now : OutputSeen) →
    SaysWork result status written now →
    (status ≡ NetFault → Rose before.network_faults after.network_faults) →
    (status ≡ RunnerFault → Rose before.runner_faults after.runner_faults)
    → WorkCompletes status before after written now
says-completes (Ok worked) status before after written now says net ran steady calm quiet =
    put-completes (work_line worked) status written now says quiet
says-completes (Err fault) status before after written now says net ran steady calm quiet =
    fault-completes fault status before after says.0 net ran steady calm

pub work-completes : (worker : List ℕ) (runs : ℕ) (status : Status) (before after : WorkSeen)
    (written now : OutputSeen) →
    WorkEnds worker runs status before after written now → WorkCompletes status before after written now
work-completes worker runs status before after written now ends =
    says-completes ends.result status before after written now ends.says ends.net_fault ends.runner_fault

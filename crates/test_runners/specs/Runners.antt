-- What contracts see of a runner of the outside, and what it answers.
use Rattle.std.specs.Prelude.{◌≡◌, ℕ, List, Option, Some, None}
use Rattle.farm_types.specs.CommitId.{id_bytes}
use Rattle.farm_types.specs.declared.commit_id.CommitId.{CommitId}
use Rattle.http_exchange.specs.Exchanges.{Exchange, exchange_events, tell_all}
use Rattle.link_io.specs.Events.{NetworkEvent}
use Rattle.worker_core.specs.declared.tested.Tested.{Tested}
use Rattle.worker_core.specs.declared.runner.Ran.{Ran}
use Rattle.worker_core.specs.declared.runner.Ran.TheVariants as ran
use Rattle.test_runners.specs.Host.{SaysOver, question_of}
use Rattle.test_runners.specs.Rows.{TableRow}
use Rattle.test_runners.specs.Tables.{tested_in}
use Rattle.test_runners.specs.declared.runner.Origin.{Origin}
use Rattle.test_runners.specs.declared.runner.Origin.TheVariants as origin
use Rattle.test_runners.specs.declared.runner.TestRunner.{TestRunner}

-- who says what comes of a test: nobody, a table with these rows, or the host behind a network
pub data OriginSeen (N : Type 0) : Type 0 where
  by_nothing : OriginSeen N
  by_table : List TableRow → OriginSeen N
  by_host : N → OriginSeen N

abbrev pub origin_seen : {N O L : Type 0} → Origin N O L → OriginSeen N
origin_seen origin.Nothing = by_nothing
origin_seen (origin.Table rows) = by_table rows
origin_seen (origin.Host network) = by_host network

abbrev pub origin_of : {N O L : Type 0} → TestRunner N O L → OriginSeen N
origin_of runner = origin_seen runner.origin

-- how often it has failed
abbrev pub runner_faults : {N O L : Type 0} → TestRunner N O L → ℕ
runner_faults runner = runner.faults

-- what a run answers of whose test this is said, or nothing
abbrev pub ran_by : Option Tested → Ran
ran_by (Some said) = ran.Tested said
ran_by None = ran.Failed

-- What a run of a test at a commit answers, and what becomes of who says it. A table stays as it is and answers by its
-- first row; a host is asked by one line over one connection of its network
abbrev pub Asks : {N : Type 0} → (told : N → Option (List NetworkEvent)) → (test : List ℕ) → CommitId →
    (before after : OriginSeen N) → Ran → Type 0
Asks told test commit by_nothing after answer = (after ≡ by_nothing) × (answer ≡ ran.Failed)
Asks told test commit (by_table rows) after answer =
    (after ≡ by_table rows) × (answer ≡ ran_by (tested_in rows test (id_bytes commit)))
Asks told test commit (by_host network) (by_host next) answer =
    (x : Exchange) × (said : Option Tested) × (told next ≡ tell_all (exchange_events x) (told network))
    × SaysOver (question_of commit test) x said × (answer ≡ ran_by said)
Asks told test commit (by_host network) after answer = ⊥

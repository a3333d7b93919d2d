-- What a call of the program says, by what its words ask for.
use Rattle.std.specs.Prelude.{◌≡◌, ◌⊎◌, Option, Some, None}
use Rattle.finder_words.specs.Words.{Asked, audit, close, drill, evidence, follow, found, inherit, judge, rates}
use Rattle.finder_words.specs.Words.{run, run_journal, serve, show, work}
use Rattle.finder_commands.specs.AuditCommand.{AuditSays}
use Rattle.finder_commands.specs.CloseCommand.{CloseSays}
use Rattle.finder_commands.specs.DrillCommand.{DrillSays}
use Rattle.finder_commands.specs.EvidenceCommand.{EvidenceSays}
use Rattle.finder_commands.specs.FollowCommand.{FollowSays}
use Rattle.finder_commands.specs.Found.{FoundSays}
use Rattle.finder_commands.specs.InheritCommand.{InheritSays}
use Rattle.finder_commands.specs.JudgeCommand.{JudgeSays}
use Rattle.finder_commands.specs.RatesCommand.{RatesSays}
use Rattle.finder_commands.specs.RunCommand.{MemoryRunSays}
use Rattle.finder_commands.specs.RunJournal.{JournalRunSays}
use Rattle.finder_program.specs.ServeCommand.{ServeSays}
use Rattle.finder_commands.specs.Show.{ShowSays}
use Rattle.finder_commands.specs.WorkCommand.{WorkSays}
use Rattle.finder_program.specs.World.{World, journal_outside, streams_of, work_outside}
use Rattle.finder_commands.specs.declared.status.Status.{Status}
use Rattle.finder_commands.specs.declared.status.Status.TheVariants.{Usage, Memory}

-- What the status of a call says of the world before it and after it, and that the work is done where nothing fails: a
-- case for each subcommand. Words that ask for nothing are answered Usage, unless memory runs out to read them.
abbrev pub FinderSays : Option Asked → Status → (before after : World) → Type 0
FinderSays None status before after = (status ≡ Usage) ⊎ (status ≡ Memory)
FinderSays (Some judge) status before after = JudgeSays status (streams_of before) (streams_of after)
FinderSays (Some run) status before after = MemoryRunSays status (streams_of before) (streams_of after)
FinderSays (Some audit) status before after = AuditSays status (streams_of before) (streams_of after)
FinderSays (Some (found lease_ms daily zone_minutes)) status before after =
    FoundSays lease_ms daily zone_minutes before.clock status before.output after.output before.disk after.disk
FinderSays (Some show) status before after = ShowSays status before.output after.output before.disk after.disk
FinderSays (Some rates) status before after = RatesSays status before.output after.output before.disk after.disk
FinderSays (Some (evidence search)) status before after =
    EvidenceSays search status before.output after.output before.disk after.disk
FinderSays (Some close) status before after =
    CloseSays before.clock status before.output after.output before.disk after.disk
FinderSays (Some (inherit lease_ms daily zone_minutes)) status before after =
    InheritSays lease_ms daily zone_minutes before.clock status (streams_of before) (streams_of after)
    before.disk after.disk
FinderSays (Some run_journal) status before after =
    JournalRunSays status (streams_of before) (streams_of after) before.disk after.disk
FinderSays (Some (serve handlers links)) status before after =
    ServeSays links before.clock status (journal_outside before) (journal_outside after)
FinderSays (Some (work worker runs)) status before after =
    WorkSays worker runs status (work_outside before) (work_outside after) before.output after.output
FinderSays (Some (drill searches workers)) status before after =
    DrillSays searches status before.output after.output
FinderSays (Some (follow rounds)) status before after =
    FollowSays rounds status (journal_outside before) (journal_outside after)

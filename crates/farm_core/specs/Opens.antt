-- The commands told apart by what their decision takes, and a search that is opened.
use Rattle.std.specs.Prelude.{nat_le, List, length, if◌then◌else◌, ⊤}
use Rattle.farm_types.specs.declared.moment.Moment.{Moment}
use Rattle.farm_entry.specs.Decision.{add_at}
use Rattle.farm_entry.specs.History.{openings}
use Rattle.farm_entry.specs.declared.command.Command.{Command}
use Rattle.farm_entry.specs.declared.command.Command.TheVariants.{Lease as LeaseRun, Report as ReportRun, Skip as SkipRun, Cancel, TakeRevert}
use Rattle.farm_entry.specs.declared.decision.Decision.{Decision}
use Rattle.farm_entry.specs.declared.decision.Decision.TheVariants.{Refuse}
use Rattle.farm_entry.specs.declared.entry.Entry.{Entry}
use Rattle.farm_entry.specs.declared.entry.What.TheVariants.{Opened}
use Rattle.farm_entry.specs.declared.limits.TheConstants.{MAX_SEARCHES}
use Rattle.farm_entry.specs.declared.opening.Opening.{Opening}
use Rattle.farm_entry.specs.declared.refusal.Refusal.TheVariants.{TooManySearches}

-- the command asks for an entry that opens no search
abbrev pub AsksOther : Command → Type 0
AsksOther (LeaseRun key worker) = ⊤
AsksOther (ReportRun run verdict) = ⊤
AsksOther (SkipRun run) = ⊤
AsksOther (Cancel key search) = ⊤
AsksOther (TakeRevert key agent) = ⊤
AsksOther _ = ⊥

-- what an open of a search comes to, where neither its key nor the number of entries has decided before
abbrev pub opened_decision : List Entry → Opening → Moment → Decision
opened_decision H o m =
    if nat_le MAX_SEARCHES (length (openings H)) then Refuse TooManySearches else add_at m (Opened o)

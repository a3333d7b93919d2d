-- The reply to the request that made an entry, by what is kept.
use Rattle.std.specs.Prelude.{List, Option, Some, None}
use Rattle.std.specs.Option.{option_map}
use Rattle.farm_entry.specs.History.{lease_of, opening_numbered}
use Rattle.farm_entry.specs.Setup.{budget_of_search, commit_of}
use Rattle.farm_entry.specs.declared.entry.Entry.{Entry}
use Rattle.farm_entry.specs.declared.entry.What.{What}
use Rattle.farm_entry.specs.declared.entry.What.TheVariants.{Founded, Opened, Leased, Reported, Skipped, Cancelled, Ordered, Carried, Closed}
use Rattle.farm_entry.specs.declared.lease.LeasedRun.{LeasedRun}
use Rattle.farm_entry.specs.declared.lease.ReportedRun.{ReportedRun}
use Rattle.farm_entry.specs.declared.lease.SkippedRun.{SkippedRun}
use Rattle.farm_entry.specs.declared.opening.Opening.{Opening}
use Rattle.farm_entry.specs.declared.reply.Reply.{Reply}
use Rattle.farm_entry.specs.declared.reply.Reply.TheVariants as reply
use Rattle.farm_entry.specs.declared.standing.Standing.{Standing}

-- the reply to a lease, by the search of the run
abbrev pub reply_to_lease : LeasedRun → Option Opening → Option Reply
reply_to_lease l found =
    option_map (λ o. reply.Leased l.run l.search l.stage l.position (commit_of o l.position) o.test l.deadline) found

-- the reply to a report, by the lease of the run and where its search stood then
abbrev pub reply_to_report : ReportedRun → Standing → Option LeasedRun → Option Reply
reply_to_report r stood found = option_map (λ l. reply.Reported l.run l.search r.verdict r.fate stood) found

-- the same where the run's tree can't be tested
abbrev pub reply_to_skip : SkippedRun → Standing → Option LeasedRun → Option Reply
reply_to_skip r stood found = option_map (λ l. reply.Skipped l.run l.search r.fate stood) found

-- the reply to what an entry records, where the search that it is about stood so then
abbrev pub reply_with : List Entry → Standing → What → Option Reply
reply_with H stood (Founded settings) = None
reply_with H stood (Opened o) = Some (reply.Opened o.search (budget_of_search o) stood)
reply_with H stood (Leased key worker run search stage position deadline) =
    reply_to_lease (record { run = run; search = search; stage = stage; position = position; deadline = deadline })
    (opening_numbered H search)
reply_with H stood (Reported run verdict fate) =
    reply_to_report (record { run = run; verdict = verdict; fate = fate }) stood (lease_of H run)
reply_with H stood (Skipped run fate) =
    reply_to_skip (record { run = run; fate = fate }) stood (lease_of H run)
reply_with H stood (Cancelled key search) = Some (reply.Cancelled search)
reply_with H stood (Ordered key agent order commit search day) = Some (reply.Ordered order commit search day)
reply_with H stood (Carried commit day) = None
reply_with H stood Closed = None

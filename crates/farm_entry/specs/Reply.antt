-- The reply to a request that made an entry.
use Rattle.std.specs.Prelude.{ℕ, ◌+◌, List, take, slice_get, Option, Some, None}
use Rattle.std.specs.Option.{option_and_then, option_map}
use Rattle.weight_exact.specs.declared.run.Verdict.{Verdict}
use Rattle.farm_entry.specs.History.{lease_of, opening_numbered}
use Rattle.farm_entry.specs.Setup.{budget_of_search, commit_of}
use Rattle.farm_entry.specs.Standing.{standing}
use Rattle.farm_entry.specs.declared.entry.Entry.{Entry}
use Rattle.farm_entry.specs.declared.entry.Fate.{Fate}
use Rattle.farm_entry.specs.declared.entry.SkipFate.{SkipFate}
use Rattle.farm_entry.specs.declared.entry.What.{What}
use Rattle.farm_entry.specs.declared.entry.What.TheVariants.{Founded, Opened, Leased, Reported, Skipped, Cancelled, Ordered, Carried, Closed}
use Rattle.farm_entry.specs.declared.lease.LeasedRun.{LeasedRun}
use Rattle.farm_entry.specs.declared.reply.Reply.{Reply}
use Rattle.farm_entry.specs.declared.reply.Reply.TheVariants as reply

-- the reply to a report: the run's search, and where it stands
abbrev pub reply_to_report : List Entry → Verdict → Fate → LeasedRun → Option Reply
reply_to_report H verdict fate l =
    option_map (λ o. reply.Reported l.run l.search verdict fate (standing H o)) (opening_numbered H l.search)

-- the same where its tree can't be tested
abbrev pub reply_to_skip : List Entry → SkipFate → LeasedRun → Option Reply
reply_to_skip H fate l =
    option_map (λ o. reply.Skipped l.run l.search fate (standing H o)) (opening_numbered H l.search)

-- what is replied for what an entry records, by the history up to it and with it. A founding, a carried order and a
-- closing have no reply
abbrev pub reply_to : List Entry → What → Option Reply
reply_to H (Founded settings) = None
reply_to H (Opened o) = Some (reply.Opened o.search (budget_of_search o) (standing H o))
reply_to H (Leased key worker run search stage position deadline) =
    option_map (λ o. reply.Leased run search stage position (commit_of o position) o.test deadline)
    (opening_numbered H search)
reply_to H (Reported run verdict fate) = option_and_then (reply_to_report H verdict fate) (lease_of H run)
reply_to H (Skipped run fate) = option_and_then (reply_to_skip H fate) (lease_of H run)
reply_to H (Cancelled key search) = Some (reply.Cancelled search)
reply_to H (Ordered key agent order commit search day) = Some (reply.Ordered order commit search day)
reply_to H (Carried commit day) = None
reply_to H Closed = None

-- the reply of the entry at a place: the same whatever came later
abbrev pub reply_at : List Entry → (place : ℕ) → Option Reply
reply_at H place = option_and_then (λ e. reply_to (take (place + 1) H) e.what) (slice_get H place)

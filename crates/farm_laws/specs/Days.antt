-- The days that a reply shows.
use Rattle.std.specs.Prelude.{◌≤◌, ⊤}
use Rattle.std.specs.List.{All}
use Rattle.farm_types.specs.declared.moment.TheConstants.{LAST_DAY}
use Rattle.farm_entry.specs.declared.reply.Reply.{Reply}
use Rattle.farm_entry.specs.declared.reply.Reply.TheVariants as reply

-- each day that a reply shows is at most the last one
abbrev pub HasDays : Reply → Type 0
HasDays (reply.Opened search budget standing) = ⊤
HasDays (reply.Leased run search stage position commit test deadline) = ⊤
HasDays (reply.Reported run search verdict outcome standing) = ⊤
HasDays (reply.Skipped run search outcome standing) = ⊤
HasDays (reply.Cancelled search) = ⊤
HasDays (reply.Ordered order commit search day) = day ≤ LAST_DAY
HasDays (reply.Search page) = ⊤
HasDays (reply.Farm totals) = ⊤
HasDays (reply.Orders lines) = All (λ line. line.day ≤ LAST_DAY) lines
HasDays (reply.Runs page) = ⊤
HasDays (reply.Searches list) = ⊤

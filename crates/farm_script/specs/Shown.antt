-- What a farm shows of itself: its own page, and that of each search.
use Rattle.std.specs.Prelude.{ℕ, List, [], ◌∷◌, ◌++◌, Option, Some, None}
use Rattle.serde_json.specs.Written.{compact_text}
use Rattle.farm_entry.specs.History.{openings}
use Rattle.farm_entry.specs.Pages.{page_of, totals}
use Rattle.farm_entry.specs.declared.entry.Entry.{Entry}
use Rattle.farm_entry.specs.declared.opening.Opening.{Opening}
use Rattle.farm_entry.specs.declared.reply.Reply.{Reply}
use Rattle.farm_entry.specs.declared.reply.Reply.TheVariants as reply
use Rattle.farm_wire.specs.Replies.{reply_data}
use Rattle.farm_script.specs.Lines.{LINE_FEED}

-- a reply's text with its line feed
abbrev pub shown_line : Reply → List ℕ
shown_line r = compact_text (reply_data r) ++ LINE_FEED ∷ []

-- the lines of these searches, one after the other
abbrev pub shown_searches : List Entry → List Opening → List ℕ
shown_searches H [] = []
shown_searches H (o ∷ others) = shown_line (reply.Search (page_of H o)) ++ shown_searches H others

-- the line of the farm, and then that of each search, by number
abbrev pub shown_text : List Entry → List ℕ
shown_text H = shown_line (reply.Farm (totals H)) ++ shown_searches H (openings H)

-- the line of a search that is there, or nothing
abbrev pub shown_opening : List Entry → Option Opening → List ℕ
shown_opening H None = []
shown_opening H (Some o) = shown_line (reply.Search (page_of H o))

-- The line that the service puts last.
use Rattle.std.specs.Prelude.{◌≡◌, ◌<◌, ℕ, List, length, take, ◌++◌, codes, Result, Ok, Err}
use Rattle.std.specs.Io.KnownBytes.{append_known}
use Rattle.farm_entry.specs.Pages.{totals}
use Rattle.farm_entry.specs.declared.entry.Entry.{Entry}
use Rattle.farm_entry.specs.declared.reply.Reply.TheVariants as reply
use Rattle.farm_entry.specs.declared.reply.Totals.{Totals}
use Rattle.serde_json.specs.Written.{compact_text}
use Rattle.farm_wire.specs.Replies.{reply_data}
use Rattle.common_types.specs.Counts.{Rose}
use Rattle.link_io.specs.declared.sink.PutFault.{PutFault}
use Rattle.link_io.specs.declared.sink.PutFault.TheVariants as put
use Rattle.farm_serve.specs.Ending.{ending_of}
use Rattle.outside_seen.specs.Outside.{OutputSeen}
use Rattle.farm_serve.specs.declared.ending.Ending.{Ending}
use Rattle.farm_serve.specs.declared.standing.ServeState.{ServeState}
use Rattle.farm_serve.specs.declared.ending.Ending.TheVariants.{Done, NetFault, WriteFault, Memory, NotOpened}

-- the reply line of a farm's page
abbrev pub page_line : Totals → List ℕ
page_line counted = compact_text (reply_data (reply.Farm counted)) ++ codes "\n"

-- the farm's reply line at a history
abbrev pub farm_line : List Entry → List ℕ
farm_line H = page_line (totals H)

-- the whole text was put
abbrev pub IsAllPut : List ℕ → OutputSeen → OutputSeen → Type 0
IsAllPut text before after = after.written ≡ append_known before.written text

-- the output failed, and not all of the text was put
abbrev pub IsCutOff : List ℕ → OutputSeen → OutputSeen → Type 0
IsCutOff text before after =
    Rose before.faults after.faults
    × ((n : ℕ) × (n < length text) × (after.written ≡ append_known before.written (take n text)))

-- a part of the text was put, nothing or all of it too
abbrev pub IsPartPut : List ℕ → OutputSeen → OutputSeen → Type 0
IsPartPut text before after = (n : ℕ) × (after.written ≡ append_known before.written (take n text))

-- what became of the text, by what putting it answered
abbrev pub LineSays : List ℕ → Result (Unit {0}) PutFault → OutputSeen → OutputSeen → Type 0
LineSays text (Ok done) before after = IsAllPut text before after
LineSays text (Err put.Failed) before after = IsCutOff text before after
LineSays text (Err put.Memory) before after = IsPartPut text before after

-- and by how the service ended
abbrev pub LinePut : List ℕ → Ending → OutputSeen → OutputSeen → Type 0
LinePut text Done before after = IsAllPut text before after
LinePut text NetFault before after = IsAllPut text before after
LinePut text WriteFault before after = IsCutOff text before after
LinePut text Memory before after = IsPartPut text before after
LinePut text (NotOpened fault) before after = ⊥

-- what became of the text, and how the service ended by that and by how the serving stood
pub record EndSays (s : ServeState) (text : List ℕ) (ending : Ending) (before after : OutputSeen) : Type 0 where
  pub line : Result (Unit {0}) PutFault
  pub says : LineSays text line before after
  pub is : ending ≡ ending_of s line

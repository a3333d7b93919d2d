-- What items come to.
use Rattle.std.specs.Prelude.{ℕ, Bool, List}
use Rattle.farm_entry.specs.declared.entry.Entry.{Entry}
use Rattle.farm_entry.specs.declared.answer.Answer.{Answer}
use Rattle.farm_store.specs.declared.asking.Ask.{Ask}
use Rattle.farm_wire.specs.declared.fault.WireFault.{WireFault}
use Rattle.http_words.specs.declared.fault.Fault.{Fault}

-- What an item came to. A command is asked at a history, which is that of the farm as its turn began and its repair
-- left it, with the new entries of the commands before it in its batch.
pub data ItemOutcome : Type 0 where
  -- it is a fault
  faulted : Fault → ItemOutcome
  -- its body is no command
  misread : WireFault → ItemOutcome
  -- the farm answered its command
  answered : (at : List Entry) → Ask → Answer → ItemOutcome
  -- it got the totals of a history
  counted : (at : List Entry) → ItemOutcome
  -- it got a page of a history, from an entry on
  copied : (at : List Entry) → (from : ℕ) → ItemOutcome
  -- the disk failed in the call with its command, from one count to another: the first of a batch
  failed : (at : List Entry) → Ask → (before count : ℕ) → ItemOutcome
  -- the same in the same call: one more of the batch
  failed_too : Ask → ItemOutcome
  -- memory ran out before its command was known
  unread : ItemOutcome
  -- memory ran out in the call with its command
  uncalled : (at : List Entry) → Ask → ItemOutcome

-- what an item came to, and whether there was memory for the text that says so
pub record Step : Type 0 where
  pub outcome : ItemOutcome
  pub written : Bool

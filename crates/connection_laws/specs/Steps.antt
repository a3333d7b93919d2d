-- What the items of a connection may come to, one after the other.
use Rattle.std.specs.Prelude.{ℕ, ◌≡◌, ◌<◌, ◌≤◌, Bool, true, false, List, [], ◌∷◌, Result, Ok, Err, ⊤}
use Rattle.farm_entry.specs.Legal.{IsLegal}
use Rattle.farm_entry.specs.declared.command.Command.{Command}
use Rattle.farm_entry.specs.declared.entry.Entry.{Entry}
use Rattle.farm_entry.specs.Answer.{IsAnswer}
use Rattle.farm_entry.specs.declared.answer.Answer.{Answer}
use Rattle.farm_store.specs.declared.asking.Ask.{Ask}
use Rattle.connection_laws.specs.Moments.{Given, at_moment, at_count}
use Rattle.farm_wire.specs.declared.fault.WireFault.{WireFault}
use Rattle.http_requests.specs.Items.{Item}
use Rattle.common_types.specs.Prefix.{IsPrefix}
use Rattle.common_types.specs.Counts.{Rose}
use Rattle.connection_laws.specs.Progress.{Progress, decision_on, progress_past}
use Rattle.connection_laws.specs.Kinds.{faulty, commands, totals, log, kind_of}
use Rattle.connection_laws.specs.Outcomes.{ItemOutcome, faulted, misread, answered, counted, copied, failed, failed_too, unread, uncalled, Step}

-- the item's command is asked, at a moment that the clock gave
pub record IsAsked (gives : Given → Type 0) (item : Item) (ask : Ask) : Type 0 where
  pub command : kind_of item ≡ commands (Ok ask.command)
  pub moment : gives (at_moment ask.at)

-- the farm answered the item's command at this history
pub record IsAnswered (gives : Given → Type 0) (c : Progress) (item : Item) (H : List Entry) (ask : Ask) (a : Answer) :
    Type 0 where
  pub asked : IsAsked gives item ask
  pub begins : IsPrefix c.seen H
  pub answer : IsAnswer H (decision_on H ask) a

-- it got the totals of this history
pub record IsCounted (c : Progress) (item : Item) (H : List Entry) : Type 0 where
  pub asked : kind_of item ≡ totals
  pub begins : IsPrefix c.totals H
  pub legal : IsLegal H

-- it got a page of this history
pub record IsCopied (c : Progress) (item : Item) (H : List Entry) (from : ℕ) : Type 0 where
  pub asked : kind_of item ≡ log from
  pub begins : IsPrefix c.seen H

-- The disk failed in the call with the item's command, and the history is as it was before: the first of a batch. The
-- counts are such as the farm's disk may have, so over one that never fails there is none.
pub record IsFailed (gives : Given → Type 0) (c : Progress) (item : Item) (H : List Entry) (ask : Ask)
    (before count : ℕ) : Type 0 where
  pub asked : IsAsked gives item ask
  pub begins : IsPrefix c.seen H
  pub first : c.faults ≤ before
  pub rose : Rose before count
  pub from_disk : gives (at_count before)
  pub to_disk : gives (at_count count)

-- the same in the same call: one more of the batch, of which none but the first has an interim answer
pub record IsFailedToo (gives : Given → Type 0) (c : Progress) (item : Item) (ask : Ask) : Type 0 where
  pub asked : IsAsked gives item ask
  pub room : 0 < c.left
  pub at_once : item.interim ≡ false

-- memory ran out before the item's command was known
pub record IsUnread (item : Item) : Type 0 where
  pub reading : Result Command WireFault
  pub asked : kind_of item ≡ commands reading

-- memory ran out in the call with the item's command, and the history is as it was before
pub record IsUncalled (gives : Given → Type 0) (c : Progress) (item : Item) (H : List Entry) (ask : Ask) : Type 0 where
  pub asked : IsAsked gives item ask
  pub begins : IsPrefix c.seen H

-- an item may come to this
abbrev pub MayComeTo : (Given → Type 0) → Progress → Item → ItemOutcome → Type 0
MayComeTo gives c item (faulted f) = kind_of item ≡ faulty f
MayComeTo gives c item (misread f) = kind_of item ≡ commands (Err f)
MayComeTo gives c item (answered H ask a) = IsAnswered gives c item H ask a
MayComeTo gives c item (counted H) = IsCounted c item H
MayComeTo gives c item (copied H from) = IsCopied c item H from
MayComeTo gives c item (failed H ask before count) = IsFailed gives c item H ask before count
MayComeTo gives c item (failed_too ask) = IsFailedToo gives c item ask
MayComeTo gives c item unread = IsUnread item
MayComeTo gives c item (uncalled H ask) = IsUncalled gives c item H ask

-- whether there was memory for the text: some texts need none
abbrev pub IsWritten : ItemOutcome → Bool → Type 0
IsWritten (faulted f) written = written ≡ true
IsWritten (failed H ask before count) written = written ≡ true
IsWritten (failed_too ask) written = written ≡ true
IsWritten _ written = ⊤

-- an item may come to this step
abbrev pub IsStep : (Given → Type 0) → Progress → Item → Step → Type 0
IsStep gives c item step = MayComeTo gives c item step.outcome × IsWritten step.outcome step.written

-- the items came to this, one after the other
abbrev pub AreSteps : (Given → Type 0) → Progress → List Item → List Step → Type 0
AreSteps gives c [] [] = ⊤
AreSteps gives c (item ∷ items) (step ∷ steps) =
    IsStep gives c item step × AreSteps gives (progress_past c step.outcome) items steps
AreSteps gives c _ _ = ⊥

-- What the turns of those go by whose asks were answered together, or are asked one after the other.
use Rattle.std.specs.Prelude.{◌≡◌, ◌≤◌, ℕ, List, [], ◌∷◌, length, take, ⊤}
use Rattle.atomic_table.specs.Seated.{TableId}
use Rattle.farm_entry.specs.Legal.{IsLegal}
use Rattle.farm_entry.specs.declared.entry.Entry.{Entry}
use Rattle.farm_store.specs.Answering.{AreAnswers, history_after}
use Rattle.farm_store.specs.State.{StoreState}
use Rattle.farm_store.specs.Together.{all_asks}
use Rattle.farm_store.specs.declared.asking.Ask.{Ask}
use Rattle.farm_store.specs.declared.asking.Part.{Part}
use Rattle.farm_board.specs.Jobs.{Jobs}
use Rattle.common_types.specs.Prefix.{IsPrefix}
use Rattle.turn_lock.specs.Known.{Before, IsSettled}
use Rattle.turn_lock.specs.Places.{ArePlaces}
use Rattle.shared_farm.specs.Errands.{IsErrand}
use Rattle.shared_farm.specs.declared.errand.Helped.{Helped}

-- a turn just took a store, by a pass that had seen a beginning of its history
pub record IsJustTaken {D : Type 0} (count : D → ℕ) (before : Before) (store : StoreState D) : Type 0 where
  pub took : before.taken ≡ record { entries = store.history; count = count store.disk; pending = store.pending }
  pub seen : IsPrefix before.pass.seen store.history
  pub faults : before.pass.faults ≤ count store.disk
  pub settled : IsSettled before.pass.pending before.pass.faults (count store.disk) store.pending
  pub places : ArePlaces 0 (length before.pass.seen) before.pass.mine

-- the asks of the first part
abbrev pub first_asks : List Part → List Ask
first_asks [] = []
first_asks (part ∷ parts) = part.asks.items

module _ {K O : Type 0} (lock : TableId) (jobs : Jobs K) where
  -- an errand was taken over: its asks are those of the part, and its pass is the one at hand
  pub record IsHelped (part : Part) (helped : Helped K O) : Type 0 where
    pub table : helped.taken.table ≡ jobs
    pub errand : IsErrand lock helped.taken.job
    pub pass : helped.pass ≡ helped.taken.job.pass
    pub asks : part.asks.items ≡ helped.taken.job.asks.items

  -- each part is that of an errand that was taken over
  abbrev pub AreHelped : List Part → List (Helped K O) → Type 0
  AreHelped [] [] = ⊤
  AreHelped (part ∷ parts) (helped ∷ group) = IsHelped part helped × AreHelped parts group
  AreHelped _ _ = ⊥

-- each part has the answers to its asks, at the history that the parts before it leave, and its end is how many entries
-- stand there then
abbrev pub AreAnswered : List Entry → List Part → Type 0
AreAnswered H [] = ⊤
AreAnswered H (part ∷ parts) =
    AreAnswers H part.asks.items part.answers × (part.end ≡ length (history_after H part.asks.items))
    × AreAnswered (history_after H part.asks.items) parts

-- The record that others share was stored: the store's history is that of the asks of all parts, past the entries that
-- were shown so far.
pub record IsShared {D : Type 0} (store : StoreState D) (shown : ℕ) (parts : List Part) : Type 0 where
  pub answered : AreAnswered (take shown store.history) parts
  pub history : store.history ≡ history_after (take shown store.history) (all_asks parts)
  pub within : shown ≤ length store.history
  pub legal : IsLegal (take shown store.history)
  pub decided : store.pending ≡ []

-- What a store answers to several callers whose new entries share a record, and how its history goes on.
use Rattle.std.specs.Prelude.{◌≡◌, List, [], ◌∷◌, length, Result, Ok, Err, ⊤}
use Rattle.std.specs.List.{flat_map}
use Rattle.farm_entry.specs.declared.entry.Entry.{Entry}
use Rattle.farm_store.specs.Answering.{AreAnswers, BatchSays, IsSettled, history_after}
use Rattle.farm_store.specs.State.{StoreState}
use Rattle.farm_store.specs.declared.asking.Ask.{Ask}
use Rattle.farm_store.specs.declared.asking.CallFault.{CallFault}
use Rattle.farm_store.specs.declared.asking.Part.{Part}

-- what all callers ask, one after the other
abbrev pub all_asks : List Part → List Ask
all_asks parts = flat_map (λ part. part.asks.items) parts

-- one caller's asks stay, and are answered from this history on, and its end tells the length of the one after them
pub record IsPartGiven (H : List Entry) (part given : Part) : Type 0 where
  pub asks : given.asks ≡ part.asks
  pub answers : AreAnswers H part.asks.items given.answers
  pub end : given.end ≡ length (history_after H part.asks.items)

-- each caller's asks are answered from the history on that the callers before it leave
abbrev pub AreGiven : List Entry → (parts given : List Part) → Type 0
AreGiven H [] [] = ⊤
AreGiven H (p ∷ parts) (q ∷ given) = IsPartGiven H p q × AreGiven (history_after H p.asks.items) parts given
AreGiven H _ _ = ⊥

-- all asks of all callers were answered, from the history as the repair left it, and what they record is stored
abbrev pub IsGiven : {D : Type 0} → (parts given : List Part) → (old new : StoreState D) → Type 0
IsGiven parts given old new = IsSettled (all_asks parts) (λ repaired. AreGiven repaired parts given) old new

-- what a call with the asks of these callers came to, by what it answers: where it failed, it did as a call with all
-- asks in one list
abbrev pub TogetherSays : {D : Type 0} → (parts given : List Part) → Result (Unit {0}) CallFault
    → (old new : StoreState D) → Type 0
TogetherSays parts given (Ok _) old new = IsGiven parts given old new
TogetherSays parts given (Err f) old new = BatchSays (all_asks parts) (Err f) old new

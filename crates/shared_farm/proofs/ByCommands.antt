-- Each call of a store adds by commands alone.
use Rattle.std.proofs.Common.{◌≡◌, ◌++◌, ◌∷◌, [], false, List, map, refl, sym, subst, ap, ◌∙◌, ⊎_elim, Option, Result, Ok, Err}
use Rattle.std.proofs.lemmas.Bool.{or_parts}
use Rattle.std.proofs.lemmas.List.{append-nil}
use Rattle.std.proofs.lemmas.List.Elements.{filter_map-append}
use Rattle.std.proofs.lemmas.List.Folds.{list_any-append}
use Rattle.farm_entry.specs.History.{carried_in, is_closed, is_closing}
use Rattle.farm_entry.specs.Orders.{carried}
use Rattle.farm_entry.specs.declared.answer.Answer.{Answer}
use Rattle.farm_entry.specs.declared.entry.Entry.{Entry}
use Rattle.farm_laws.proofs.Recorded.{carried-played, unclosed-played}
use Rattle.farm_store.specs.Answering.{BatchSays, IsAnswered, IsUndecided, IsUnrepaired, asked, history_after}
use Rattle.farm_store.specs.State.{IsRepaired, StoreState}
use Rattle.farm_store.specs.Together.{IsGiven, TogetherSays, all_asks}
use Rattle.farm_store.specs.declared.asking.Ask.{Ask}
use Rattle.farm_store.specs.declared.asking.CallFault.{CallFault}
use Rattle.farm_store.specs.declared.asking.CallFault.TheVariants.{Refused, StoreFault, Memory}
use Rattle.farm_store.specs.declared.asking.Part.{Part}
use Rattle.shared_farm.specs.Rests.{IsByCommands}

-- none before others
none-first : {X : Type 0} (xs ys : List X) → xs ++ ys ≡ [] → xs ≡ []
none-first [] ys none = refl
none-first (x ∷ xs) ys none = cc

-- the beginning of a history by commands is one
pub by-first : (H P : List Entry) → IsByCommands (H ++ P) → IsByCommands H
by-first H P by = record {
  unclosed = (or_parts (is_closed H) (is_closed P)
      (sym (list_any-append (λ (e : Entry). is_closing e.what) H P) ∙ by.unclosed)).0;
  none_carried = none-first (carried H) (carried P)
      (sym (filter_map-append (λ (e : Entry). carried_in e.what) H P) ∙ by.none_carried);
}

-- and so is one after asks
pub by-asks : (H : List Entry) (asks : List Ask) → IsByCommands H → IsByCommands (history_after H asks)
by-asks H asks by = record {
  unclosed = unclosed-played H (map asked asks) by.unclosed;
  none_carried = carried-played H (map asked asks) ∙ by.none_carried;
}

-- nothing is pending
pub by-whole : (H P : List Entry) → P ≡ [] → IsByCommands H → IsByCommands (H ++ P)
by-whole H P none by = subst IsByCommands (sym (ap (λ (l : List Entry). H ++ l) none ∙ append-nil H)) by

module _ {D : Type 0} where
  -- what a repair leaves
  pub by-repaired : (old : StoreState D) (H : List Entry) → IsRepaired old H
      → IsByCommands (old.history ++ old.pending) → IsByCommands H
  by-repaired old H found by = ⊎_elim
      (λ (same : H ≡ old.history). subst IsByCommands (sym same) (by-first old.history old.pending by))
      (λ (more : H ≡ old.history ++ old.pending). subst IsByCommands (sym more) by)
      found

  -- what all of it is after a call
  pub by-says : (asks : List Ask) (result : Result (List Answer) CallFault) (old new : StoreState D)
      → BatchSays asks result old new → IsByCommands (old.history ++ old.pending)
      → IsByCommands (new.history ++ new.pending)
  by-says asks (Ok answers) old new says by =
      let is : IsAnswered asks answers old new = says in
      by-whole new.history new.pending is.decided
      (subst IsByCommands (sym is.history) (by-asks is.repaired asks (by-repaired old is.repaired is.found by)))
  by-says asks (Err (Refused refusal)) old new says by = absurd says
  by-says asks (Err (StoreFault before after)) old new says by = ⊎_elim
      (λ (u : IsUnrepaired old new). subst IsByCommands
      (sym (ap (λ (l : List Entry). l ++ new.pending) u.history
      ∙ ap (λ (l : List Entry). old.history ++ l) u.pending)) by)
      (λ (u : IsUndecided asks old new). subst IsByCommands (sym u.all)
      (by-asks new.history asks (by-repaired old new.history u.found by)))
      says
  by-says asks (Err Memory) old new says by =
      by-whole new.history new.pending says.decided (by-repaired old new.history says.found by)

  pub by-together : (parts given : List Part) (result : Result (Unit {0}) CallFault) (old new : StoreState D)
      → TogetherSays parts given result old new → IsByCommands (old.history ++ old.pending)
      → IsByCommands (new.history ++ new.pending)
  by-together parts given (Ok done) old new says by =
      let is : IsGiven parts given old new = says in
      by-whole new.history new.pending is.decided
      (subst IsByCommands (sym is.history)
      (by-asks is.repaired (all_asks parts) (by-repaired old is.repaired is.found by)))
  by-together parts given (Err f) old new says by = by-says (all_asks parts) (Err f) old new says by

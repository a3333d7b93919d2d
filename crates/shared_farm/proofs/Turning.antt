-- What a caller knows after a turn, from what the lock and the store say.
use Rattle.std.proofs.Common.{◌≡◌, ◌++◌, Bool, List, ℕ, ◌+◌, ◌-◌, ◌<◌, ◌≤◌, ◌⊎◌, ◌∷◌, [], Some, false, refl, inl, inr, ⊎_elim, length, take, arith, sym, ap, ◌∙◌, subst, append-nil}
use Rattle.std.specs.Prelude.{Result, Ok, Err}
use Rattle.farm_store.specs.Answering.{BatchSays, IsUndecided, IsUnrepaired}
use Rattle.farm_store.specs.declared.asking.CallFault.TheVariants.{Refused, StoreFault, Memory}
use Rattle.std.specs.List.{range_with_len}
use Rattle.std.proofs.lemmas.List.{take_all}
use Rattle.std.proofs.lemmas.List.Elements.{All-nil}
use Rattle.atomic_table.specs.Seated.{TableId}
use Rattle.farm_entry.specs.declared.entry.Entry.{Entry}
use Rattle.farm_entry.specs.Legal.{IsLegal}
use Rattle.farm_store.specs.Faults.{HasCallCause}
use Rattle.farm_store.specs.State.{StoreState}
use Rattle.farm_entry.specs.declared.answer.Answer.{Answer}
use Rattle.farm_store.specs.declared.asking.Ask.{Ask}
use Rattle.farm_store.specs.declared.asking.CallFault.{CallFault}
use Rattle.common_types.specs.Prefix.{IsPrefix}
use Rattle.common_types.proofs.Prefixes.{IsPrefix-length, IsPrefix-trans}
use Rattle.turn_lock.specs.Known.{AccountsFor, Before, IsSettled, Known, MayRise, known_after, stake_after}
use Rattle.turn_lock.specs.Places.{ArePlaces}
use Rattle.turn_lock.specs.declared.view.Taken.{Taken}
use Rattle.turn_lock.proofs.PlaceLists.{ArePlaces-append, ArePlaces-widen}
use Rattle.shared_farm.specs.Answered.{GoesOn, own_places}
use Rattle.common_types.proofs.Rows.{AreAmong-behind, AreAmong-refl}
use Rattle.common_types.specs.Rows.{AreAmong, IsAmong}
use Rattle.common_types.specs.declared.row.Row.{Row}
use Rattle.shared_farm.specs.Errands.{IsErrand}
use Rattle.shared_farm.specs.Logs.{IsNewest, IsOver, LockedState}
use Rattle.shared_farm.specs.Turns.{AreOwn, IsTurnBy, KeepsPass, StaysSettled, TurnSays, failed_by}
use Rattle.shared_farm.proofs.Accounting.{IsTold, grown-accounts}
use Rattle.shared_farm.proofs.Recorded.{ArePlaces-own_places, own-places}

-- a pass keeps its rows at a turn
pub rows-after : (old new : Known) (held : Before) (log : List Row) → new.rows ≡ take 1 log ++ held.pass.rows
    → held.pass ≡ old → AreAmong old.rows new.rows
rows-after old new held log rows_is held_is =
    subst (λ (l : List Row). AreAmong old.rows l)
    (sym (rows_is ∙ ap (λ (k : Known). take 1 log ++ k.rows) held_is))
    (AreAmong-behind (take 1 log) old.rows old.rows (AreAmong-refl old.rows))

-- and the moment that the lock's value gave is that of the row that was told last, which has all that it has seen then
pub over-after : {D : Type 0} (dated : D → ℕ) (moment : ℕ) (new : Known) (left asked : LockedState D) (rest : List Row)
    → asked ≡ left → IsNewest dated asked → moment ≡ dated asked.store.disk → new.rows ≡ take 1 left.log ++ rest
    → length new.seen ≤ length left.store.history → IsOver moment new
over-after {D} dated moment new left asked rest same newest is rows holds =
    let last : take 1 left.log ≡ record {
      entries = length left.store.history;
      moment = dated left.store.disk;
    } ∷ [] = subst (λ (l : LockedState D). IsNewest dated l) same newest in
    record {
      row = record { entries = length left.store.history; moment = dated left.store.disk };
      known = subst (λ (l : List Row). IsAmong l (record {
        entries = length left.store.history;
        moment = dated left.store.disk;
      })) (sym (rows ∙ ap (λ (l : List Row). l ++ rest) last)) (inl refl);
      holds = holds;
      same = ap (λ (l : LockedState D). dated l.store.disk) (sym same) ∙ sym is;
    }

-- what a turn of a caller took: a store that went on from what the caller had seen
pub record IsTaken {D : Type 0} (count : D → ℕ) (old : Known) (held : Before) (found : StoreState D) : Type 0 where
  pub took : held.taken ≡ record { entries = found.history; count = count found.disk; pending = found.pending }
  pub settled : IsSettled old.pending old.faults (count found.disk) found.pending
  pub begins : IsPrefix old.seen found.history
  pub faults : old.faults ≤ count found.disk

-- a turn of a caller, in which a store has answered
pub record IsServing {D : Type 0} (count : D → ℕ) (old : Known) (held : Before) (found left : StoreState D)
    (own : List ℕ) (failed : Bool) : Type 0 where
  pub held_is : held.pass ≡ old
  pub some : 0 < old.stake.parts
  pub places : ArePlaces 0 (length old.seen) old.mine
  pub taken : IsTaken count old held found
  pub answered : GoesOn count found left
  pub own_is : own ≡ own_places left
  pub told : IsTold left failed

-- and which was then given back, or went on to another caller
pub record IsServed {D : Type 0} (count : D → ℕ) (old new : Known) (held : Before) (found left : StoreState D)
    (own : List ℕ) (failed : Bool) : Type 0 where
  pub serving : IsServing count old held found left own failed
  pub lock : TableId
  pub log : List Row
  pub new_is : new ≡ known_after lock held left.history own (count left.disk) left.pending log failed

-- what a turn may be given back with, or go on with
pub record IsGivable {D : Type 0} (count : D → ℕ) (held : Before) (left : StoreState D) (own : List ℕ) (failed : Bool)
    : Type 0 where
  pub grown : IsPrefix held.taken.entries left.history
  pub faults : held.taken.count ≤ count left.disk
  pub settled : IsSettled (Some held.taken.pending) held.taken.count (count left.disk) left.pending
  pub places : ArePlaces (length held.taken.entries) (length left.history) own
  pub accounts : AccountsFor held.taken left.history left.pending own failed

module _ {D : Type 0} (count : D → ℕ) (old : Known) (held : Before) where
  -- a turn took the store that is about to answer
  pub taken-found : (store found : StoreState D) → found ≡ store
      → held.taken ≡ record { entries = store.history; count = count store.disk; pending = store.pending }
      → IsSettled old.pending old.faults (count store.disk) store.pending → IsPrefix old.seen store.history
      → old.faults ≤ count store.disk → IsTaken count old held found
  taken-found store found same took settled begins faults =
      subst (λ (s : StoreState D). IsTaken count old held s) (sym same)
      (record { took = took; settled = settled; begins = begins; faults = faults })

  -- and one that went on with all entries of a store took that store
  pub taken-whole : (store found : StoreState D) (shown : ℕ) → found ≡ store → shown ≡ length store.history
      → held.taken ≡ record {
        entries = take shown store.history;
        count = count store.disk;
        pending = store.pending;
      }
      → IsSettled old.pending old.faults (count store.disk) store.pending
      → IsPrefix old.seen (take shown store.history) → old.faults ≤ count store.disk → IsTaken count old held found
  taken-whole store found shown same shown_is took settled begins faults =
      let whole : take shown store.history ≡ store.history =
      take_all shown store.history (omega (arith, shown_is)) in
      taken-found store found same
      (took ∙ ap (λ (l : List Entry). record { entries = l; count = count store.disk; pending = store.pending }) whole)
      settled (subst (λ (l : List Entry). IsPrefix old.seen l) whole begins) faults

-- the turn may be given back once the store has answered
pub serving-givable : {D : Type 0} {count : D → ℕ} {old : Known} {held : Before} {found left : StoreState D}
    {own : List ℕ} {failed : Bool} → IsServing count old held found left own failed
    → IsGivable count held left own failed
serving-givable {count = count} {held = held} {found = found} {left = left} {failed = failed} s =
    let took = s.taken.took in
    record {
      grown = subst (λ (t : Taken). IsPrefix t.entries left.history) (sym took) s.answered.longer;
      faults = subst (λ (t : Taken). t.count ≤ count left.disk) (sym took) s.answered.never_falls;
      settled = λ nothing same rises. s.answered.settled (sym (ap (λ (t : Taken). t.count) took) ∙ same) rises;
      places = subst (λ (l : List ℕ). ArePlaces (length held.taken.entries) (length left.history) l) (sym s.own_is)
          (subst (λ (t : Taken). ArePlaces (length t.entries) (length left.history) (own_places left)) (sym took)
          (ArePlaces-own_places found left s.answered.room));
      accounts = subst (λ (l : List ℕ). AccountsFor held.taken left.history left.pending l failed) (sym s.own_is)
          (subst (λ (t : Taken). AccountsFor t left.history left.pending (own_places left) failed) (sym took)
          (grown-accounts count found left failed s.answered.grown s.told));
    }

module _ {D : Type 0} {count : D → ℕ} {old new : Known} {held : Before} {found left : StoreState D} {own : List ℕ}
    {failed : Bool} (s : IsServed count old new held found left own failed) where
  abbrev seen_is : new.seen ≡ left.history
  seen_is = ap (λ (k : Known). k.seen) s.new_is

  abbrev mine_is : new.mine ≡ old.mine ++ own_places left
  mine_is =
      ap (λ (k : Known). k.mine) s.new_is
      ∙ (ap (λ (k : Known). k.mine ++ own) s.serving.held_is ∙ ap (λ (l : List ℕ). old.mine ++ l) s.serving.own_is)

  abbrev took_is : new.last ≡ record { entries = found.history; count = count found.disk; pending = found.pending }
  took_is = ap (λ (k : Known). k.last) s.new_is ∙ s.serving.taken.took

  -- all that is new is the caller's own
  pub served-own : AreOwn old new
  served-own =
      let grown = s.serving.answered.grown in
      record {
        repaired = grown.repaired;
        found = subst (λ (t : Taken). (grown.repaired ≡ t.entries) ⊎ (grown.repaired ≡ t.entries ++ t.pending))
            (sym took_is) grown.found;
        begins = subst (λ (l : List Entry). IsPrefix grown.repaired l) (sym seen_is) grown.begins;
        mine = subst (λ (l : List Entry). new.mine ≡ old.mine
            ++ range_with_len (length grown.repaired) (length l - length grown.repaired)) (sym seen_is)
            (mine_is ∙ ap (λ (l : List ℕ). old.mine ++ l) (own-places found left grown));
      }

  pub served-settled : StaysSettled old new
  served-settled nothing same rises =
      let low = s.serving.taken.faults in
      let high = s.serving.answered.never_falls in
      let last : new.faults ≡ count left.disk = ap (λ (k : Known). k.faults) s.new_is in
      let then_is : old.faults ≡ count found.disk = omega (arith, low, high, last, same) in
      let now_is : count found.disk ≡ count left.disk = omega (arith, low, high, last, same) in (
        ap (λ (t : Taken). t.pending) took_is
            ∙ s.serving.taken.settled nothing then_is (omega (arith, then_is, same, rises)),
        ap (λ (k : Known). k.pending) s.new_is
            ∙ ap (λ (l : List Entry). Some l) (s.serving.answered.settled now_is (omega (arith, last, rises))),
      )

  pub served-turn : {T : Type 0} (Says : (x y : StoreState D) → Type 0) (result : Result T CallFault)
      → failed ≡ failed_by result → Says found left → HasCallCause result (count found.disk) (count left.disk)
      → IsTurnBy count Says result old new
  served-turn Says result fails says cause = record {
    found = found;
    left = left;
    used = ap (λ (k : Known). k.uses) s.new_is ∙ ap (λ (k : Known). k.uses + 1) s.serving.held_is;
    took = took_is;
    settled = s.serving.taken.settled;
    legal = s.serving.answered.found;
    begins = s.serving.taken.begins;
    faults = s.serving.taken.faults;
    says = says;
    cause = cause;
    seen = seen_is;
    pending = ap (λ (k : Known). k.pending) s.new_is;
    faults_seen = ap (λ (k : Known). k.faults) s.new_is;
    mine = mine_is;
    stake = ap (λ (k : Known). k.stake) s.new_is
        ∙ (ap (λ (k : Known). stake_after k.stake failed left.history left.pending) s.serving.held_is
        ∙ ap (λ (b : Bool). stake_after old.stake b left.history left.pending) fails);
    fit = s.serving.answered.fit;
  }

  parts_is : new.stake.parts ≡ old.stake.parts
  parts_is = ap (λ (k : Known). k.stake.parts) s.new_is ∙ ap (λ (k : Known). k.stake.parts) s.serving.held_is

  lending_is : new.stake.lending ≡ old.stake.lending
  lending_is = ap (λ (k : Known). k.stake.lending) s.new_is ∙ ap (λ (k : Known). k.stake.lending) s.serving.held_is

  pub served-longer : IsPrefix old.seen new.seen
  served-longer =
      subst (λ (l : List Entry). IsPrefix old.seen l) (sym seen_is)
      (IsPrefix-trans old.seen found.history left.history s.serving.taken.begins s.serving.answered.longer)

  pub served-places : ArePlaces 0 (length new.seen) new.mine
  served-places =
      let le = IsPrefix-length old.seen found.history s.serving.taken.begins in
      subst (λ (l : List Entry). ArePlaces 0 (length l) new.mine) (sym seen_is)
      (subst (λ (l : List ℕ). ArePlaces 0 (length left.history) l) (sym mine_is)
      (ArePlaces-append 0 (length found.history) (length left.history) old.mine (own_places left) (omega arith)
      (IsPrefix-length found.history left.history s.serving.answered.longer)
      (ArePlaces-widen 0 (length old.seen) 0 (length found.history) old.mine (omega arith) le s.serving.places)
      (ArePlaces-own_places found left s.serving.answered.room)))

  -- what the turn keeps of the pass
  pub served-keeps : (lock : TableId) → s.lock ≡ lock → KeepsPass lock old new
  served-keeps lock same =
      let low = s.serving.taken.faults in
      let high = s.serving.answered.never_falls in
      let last : new.faults ≡ count left.disk = ap (λ (k : Known). k.faults) s.new_is in
      record {
        ready = record {
          own = ap (λ (k : Known). k.lock) s.new_is ∙ same;
          free = ap (λ (k : Known). k.ready) s.new_is;
          some = subst (λ (n : ℕ). 0 < n) (sym parts_is) s.serving.some;
        };
        settled = served-settled;
        longer = served-longer;
        legal = subst IsLegal (sym seen_is) s.serving.answered.legal;
        places = served-places;
        faults = omega (arith, low, high, last);
        rows = rows-after old new held s.log (ap (λ (k : Known). k.rows) s.new_is) s.serving.held_is;
        parts = parts_is;
        lending = lending_is;
      }

-- what is kept of a pass whose turn gave the store back as it was
pub look-keeps : {D : Type 0} (count : D → ℕ) (old new : Known) (held : Before) (store : StoreState D) (own : List ℕ)
    (lock : TableId) (log : List Row) → held.pass ≡ old → IsTaken count old held store → ArePlaces 0 (length old.seen)
    old.mine
    → IsLegal store.history → own ≡ [] → 0 < old.stake.parts → (failed : Bool)
    → new ≡ known_after lock held store.history own (count store.disk) store.pending log failed
    → KeepsPass lock old new
look-keeps count old new held store own lock log held_is taken places legal none some failed new_is =
    let parts_is : new.stake.parts ≡ old.stake.parts =
    ap (λ (k : Known). k.stake.parts) new_is ∙ ap (λ (k : Known). k.stake.parts) held_is in
    let seen_is : new.seen ≡ store.history = ap (λ (k : Known). k.seen) new_is in
    let faults_is : new.faults ≡ count store.disk = ap (λ (k : Known). k.faults) new_is in
    let mine_is : new.mine ≡ old.mine =
    ap (λ (k : Known). k.mine) new_is
    ∙ (ap (λ (k : Known). k.mine ++ own) held_is ∙ ap (λ (l : List ℕ). old.mine ++ l) none ∙ append-nil old.mine) in
    let le = IsPrefix-length old.seen store.history taken.begins in
    let low = taken.faults in
    record {
      ready = record {
        own = ap (λ (k : Known). k.lock) new_is;
        free = ap (λ (k : Known). k.ready) new_is;
        some = subst (λ (n : ℕ). 0 < n) (sym parts_is) some;
      };
      settled = λ nothing same rises.
          let none_then : store.pending ≡ [] =
          taken.settled nothing (same ∙ faults_is) (subst MayRise faults_is rises) in (
            ap (λ (k : Known). k.last.pending) new_is ∙ ap (λ (t : Taken). t.pending) taken.took ∙ none_then,
            ap (λ (k : Known). k.pending) new_is ∙ ap (λ (l : List Entry). Some l) none_then,
          );
      longer = subst (λ (l : List Entry). IsPrefix old.seen l) (sym seen_is) taken.begins;
      legal = subst IsLegal (sym seen_is) legal;
      places = subst (λ (l : List Entry). ArePlaces 0 (length l) new.mine) (sym seen_is)
          (subst (λ (l : List ℕ). ArePlaces 0 (length store.history) l) (sym mine_is)
          (ArePlaces-widen 0 (length old.seen) 0 (length store.history) old.mine (omega arith) le places));
      faults = omega (arith, low, faults_is);
      rows = rows-after old new held log (ap (λ (k : Known). k.rows) new_is) held_is;
      parts = parts_is;
      lending = ap (λ (k : Known). k.stake.lending) new_is ∙ ap (λ (k : Known). k.stake.lending) held_is;
    }

-- and a turn that only looked left nothing undecided
pub look-stake : (new old : Known) (held : Before) (lock : TableId) (entries pending : List Entry) (own : List ℕ)
    (faults : ℕ) (log : List Row) (failed : Bool) → failed ≡ false → held.pass ≡ old
    → new ≡ known_after lock held entries own faults pending log failed → new.stake ≡ old.stake
look-stake new old held lock entries pending own faults log failed none held_is new_is =
    ap (λ (k : Known). k.stake) new_is
    ∙ (ap (λ (b : Bool). stake_after held.pass.stake b entries pending) none ∙ ap (λ (k : Known). k.stake) held_is)

module _ {D : Type 0} (lock : TableId) where
  -- what a call of a store came to with a batch is what its turn came to, whose record had no others
  pub says-alone : (asks : List Ask) (result : Result (List Answer) CallFault) (old new : StoreState D)
      → BatchSays asks result old new → TurnSays lock asks result old new
  says-alone asks (Ok answers) old new says = says
  says-alone asks (Err (Refused cause)) old new says = absurd says
  says-alone asks (Err (StoreFault before after)) old new says = ⊎_elim
      (λ (u : IsUnrepaired old new). inl u)
      (λ (u : IsUndecided asks old new). inr record {
        others = [];
        posted = All-nil (IsErrand lock);
        few = omega arith;
        undecided = subst (λ (l : List Ask). IsUndecided l old new) (sym (append-nil asks)) u;
      })
      says
  says-alone asks (Err Memory) old new says = says

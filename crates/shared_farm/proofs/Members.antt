-- What those know whose asks were answered together: each had a turn of its own.
use Rattle.std.proofs.Common.{◌≡◌, ◌++◌, ◌∷◌, [], Bool, false, List, ℕ, ◌-◌, ◌≤◌, ◌<◌, All, Some, inl, inr, ⊎_elim, length, take, arith, sym, refl, ap, ◌∙◌, subst, le_refl, drop, Vec, Global}
use Rattle.std.specs.Prelude.{Result, Ok, Err}
use Rattle.std.specs.List.{range_with_len}
use Rattle.std.proofs.lemmas.List.{length-take-le, take-append-drop, take_at}
use Rattle.atomic_table.specs.Seated.{TableId}
use Rattle.farm_entry.specs.declared.entry.Entry.{Entry}
use Rattle.farm_entry.specs.Legal.{IsLegal}
use Rattle.farm_store.specs.Answering.{AreAnswers, BatchSays, IsAnswered, IsUndecided, IsUnrepaired, history_after}
use Rattle.farm_store.specs.Faults.{HasCallCause}
use Rattle.farm_store.specs.State.{IsRepaired, StoreState}
use Rattle.farm_store.specs.Together.{all_asks, AreGiven, IsGiven}
use Rattle.farm_entry.specs.declared.answer.Answer.{Answer}
use Rattle.farm_store.specs.declared.asking.Ask.{Ask}
use Rattle.farm_store.specs.declared.asking.CallFault.{CallFault}
use Rattle.farm_store.specs.declared.asking.CallFault.TheVariants.{Refused, StoreFault, Memory}
use Rattle.farm_store.specs.declared.asking.Part.{Part}
use Rattle.farm_store.proofs.Decided.{history_after-legal}
use Rattle.farm_laws.proofs.Induct.{IsLegal-first}
use Rattle.farm_entry.specs.Decision.{decide}
use Rattle.farm_entry.specs.Playing.{after}
use Rattle.common_types.specs.Prefix.{IsPrefix}
use Rattle.common_types.proofs.Prefixes.{IsPrefix-length, IsPrefix-trans}
use Rattle.turn_lock.specs.Known.{AccountsFor, Before, IsSettled, Known, known_after}
use Rattle.turn_lock.specs.Places.{ArePlaces}
use Rattle.turn_lock.proofs.PlaceLists.{ArePlaces-range_with_len}
use Rattle.turn_lock.specs.declared.view.Taken.{Taken}
use Rattle.common_types.specs.declared.row.Row.{Row}
use Rattle.shared_farm.specs.Answered.{GoesOn, own_places}
use Rattle.shared_farm.specs.Errands.{IsErrand, errands_asks}
use Rattle.shared_farm.specs.Outcomes.{HadTurn}
use Rattle.shared_farm.specs.Rounds.{AreAnswered, IsShared}
use Rattle.shared_farm.specs.Turns.{TurnSays, failed_by}
use Rattle.shared_farm.specs.declared.errand.Errand.{Errand}
use Rattle.shared_farm.specs.declared.sharing.TheConstants.{MOST_PARTS}
use Rattle.shared_farm.proofs.Accounting.{IsTold, batch-told, grown-accounts}
use Rattle.shared_farm.proofs.Recorded.{FitRecord-nothing, cause_of-fault, goes-on_by, history_after-begins, repaired-begins, says-grown}
use Rattle.shared_farm.proofs.Turning.{IsServed, IsTaken, served-keeps, served-own, served-turn}

-- the first entries of a history, of which it has so many
pub take-begins : (n : ℕ) (H : List Entry) → IsPrefix (take n H) H
take-begins n H = (drop n H, sym (take-append-drop n H))

-- a beginning is what is taken of its length
pub take-of_prefix : (P H : List Entry) (n : ℕ) → IsPrefix P H → n ≡ length P → take n H ≡ P
take-of_prefix P H n begins is =
    ap (λ (l : List Entry). take n l) begins.1 ∙ take_at P begins.0 n (sym is)

-- the history behind asks, in one list with others
pub history_after-on : (H : List Entry) (asks more : List Ask)
    → history_after H (asks ++ more) ≡ history_after (history_after H asks) more
history_after-on H [] more = refl
history_after-on H (ask ∷ asks) more = history_after-on (after H (decide H ask.command ask.at)) asks more

-- a history between two legal ones
pub legal-between : (F L H : List Entry) → IsLegal F → IsPrefix F L → IsPrefix L H → IsLegal H → IsLegal L
legal-between [] L H first low high legal = absurd first
legal-between (f ∷ F) [] H first low high legal =
    let n = IsPrefix-length (f ∷ F) [] low in absurd (omega (arith, n))
legal-between (f ∷ F) (e ∷ L) H first low high legal =
    IsLegal-first (e ∷ L) high.0
    (λ none. let n : length (e ∷ L) ≡ 0 = ap (λ (l : List Entry). length l) none in absurd (omega (arith, n)))
    (subst IsLegal high.1 legal)

-- the parts as they were and as they were answered
pub given-answered : (H : List Entry) (ps qs : List Part) → AreGiven H ps qs
    → AreAnswered H qs × (all_asks ps ≡ all_asks qs)
given-answered H [] [] g = (tt, refl)
given-answered H [] (q ∷ qs) g = absurd g
given-answered H (p ∷ ps) [] g = absurd g
given-answered H (p ∷ ps) (q ∷ qs) g =
    let same : q.asks.items ≡ p.asks.items = ap (λ (v : Vec Ask Global). v.items) g.0.asks in
    let rest = given-answered (history_after H p.asks.items) ps qs g.1 in (
      (
        subst (λ (l : List Ask). AreAnswers H l q.answers) (sym same) g.0.answers,
        subst (λ (l : List Ask). q.end ≡ length (history_after H l)) (sym same) g.0.end,
        subst (λ (l : List Ask). AreAnswered (history_after H l) qs) (sym same) rest.0,
      ),
      ap (λ (l : List Ask). l ++ all_asks ps) (sym same) ∙ ap (λ (l : List Ask). q.asks.items ++ l) rest.1,
    )

-- A batch that shares its record, as a call of a store at the history of the ones before it: it answered these asks,
-- and its history went on from there.
module _ {D : Type 0} where
  -- a store as it stands behind its first entries, of which its last call recorded so many
  abbrev pub store_at : StoreState D → ℕ → ℕ → StoreState D
  store_at store shown recorded = record {
    history = take shown store.history;
    pending = store.pending;
    recorded = recorded;
    disk = store.disk;
  }

  -- what is left of the record when the first part had its turn
  pub shared-on : (store : StoreState D) (shown : ℕ) (part : Part) (parts : List Part)
      → IsShared store shown (part ∷ parts)
      → (take part.end store.history ≡ history_after (take shown store.history) part.asks.items)
      × (shown ≤ part.end) × (part.end ≤ length store.history) × IsShared store part.end parts
  shared-on store shown part parts s =
      let R : List Entry = take shown store.history in
      let L : List Entry = history_after R part.asks.items in
      let whole : store.history ≡ history_after L (all_asks parts) =
      s.history ∙ history_after-on R part.asks.items (all_asks parts) in
      let on : IsPrefix L store.history =
      subst (λ (l : List Entry). IsPrefix L l) (sym whole) (history_after-begins L (all_asks parts)) in
      let is : take part.end store.history ≡ L = take-of_prefix L store.history part.end on s.answered.1 in
      let from : IsPrefix R L = history_after-begins R part.asks.items in
      let n : length R ≡ shown = length-take-le shown store.history s.within in
      let low = IsPrefix-length R L from in
      let high = IsPrefix-length L store.history on in
      let end_is = s.answered.1 in (
        is,
        omega (arith, n, low, end_is),
        omega (arith, high, end_is),
        record {
          answered = subst (λ (l : List Entry). AreAnswered l parts) (sym is) s.answered.2;
          history = subst (λ (l : List Entry). store.history ≡ history_after l (all_asks parts)) (sym is) whole;
          within = omega (arith, high, end_is);
          legal = subst IsLegal (sym is) (history_after-legal R part.asks.items s.legal);
          decided = s.decided;
        },
      )

module _ {D : Type 0} (count : D → ℕ) where
  -- all that is known of a turn that was served
  pub had-turn : {old new : Known} {held : Before} {found left : StoreState D} {own : List ℕ} {failed : Bool}
      (lock : TableId) (asks : List Ask) (result : Result (List Answer) CallFault)
      (s : IsServed count old new held found left own failed) → s.lock ≡ lock → failed ≡ failed_by result
      → TurnSays old.lock asks result found left
      → HasCallCause result (count found.disk) (count left.disk) → HadTurn count lock asks result old new
  had-turn {old} lock asks result s same fails says cause = record {
    turn = served-turn s (TurnSays old.lock asks result) result fails says cause;
    own = served-own s;
    keeps = served-keeps s lock same;
  }

  -- The entries of the parts stand in a store behind its first entries, which are what a repair of the store left that
  -- a turn found.
  pub record AreStored (found store : StoreState D) (shown : ℕ) (parts : List Part) : Type 0 where
    pub repaired : IsRepaired found (take shown store.history)
    pub shared : IsShared store shown parts
    pub legal : IsLegal found.history
    pub never_falls : count found.disk ≤ count store.disk

  -- the part's own call
  stored-says : (found store : StoreState D) (shown : ℕ) (part : Part) (parts : List Part)
      → AreStored found store shown (part ∷ parts)
      → IsAnswered part.asks.items part.answers found (store_at store part.end (part.end - shown))
  stored-says found store shown part parts stored =
      let s = stored.shared in
      let on = shared-on store shown part parts s in
      let low = on.1 in
      let n : length (take shown store.history) ≡ shown = length-take-le shown store.history s.within in
      let m : length (take part.end store.history) ≡ part.end = length-take-le part.end store.history on.2 in
      record {
        repaired = take shown store.history;
        found = stored.repaired;
        answers = s.answered.0;
        history = on.0;
        recorded = omega (arith, n, m, low);
        decided = s.decided;
      }

  -- by which the store went on
  stored-goes_on : (found store : StoreState D) (shown : ℕ) (part : Part) (parts : List Part)
      → AreStored found store shown (part ∷ parts)
      → GoesOn count found (store_at store part.end (part.end - shown))
  stored-goes_on found store shown part parts stored =
      let on = shared-on store shown part parts stored.shared in
      let R : List Entry = take shown store.history in
      let left : StoreState D = store_at store part.end (part.end - shown) in
      let longer : IsPrefix R left.history =
      subst (λ (l : List Entry). IsPrefix R l) (sym on.0) (history_after-begins R part.asks.items) in
      let first = repaired-begins found R stored.repaired in
      goes-on_by count found left stored.legal on.3.legal
      (IsPrefix-trans found.history R left.history first longer)
      (says-grown part.asks.items (Ok part.answers) found left (stored-says found store shown part parts stored))
      (inl stored.shared.decided) stored.never_falls (FitRecord-nothing store.pending stored.shared.decided)

  -- all that is known of the part's turn
  pub stored-had : (found store : StoreState D) (shown : ℕ) (part : Part) (parts : List Part) (old new : Known)
      (held : Before) (own : List ℕ) (lock : TableId) → AreStored found store shown (part ∷ parts)
      → held.pass ≡ old → IsTaken count old held found → ArePlaces 0 (length old.seen) old.mine
      → own ≡ range_with_len shown (part.end - shown)
      → 0 < old.stake.parts → (failed : Bool) → failed ≡ false → (log : List Row)
      → new ≡ known_after lock held (take part.end store.history) own (count store.disk) store.pending log failed
      → HadTurn count lock part.asks.items (Ok part.answers) old new
  stored-had found store shown part parts old new held own lock stored held_is taken places own_is some failed none log
      new_is =
      let on = shared-on store shown part parts stored.shared in
      let low = on.1 in
      let left : StoreState D = store_at store part.end (part.end - shown) in
      let m : length left.history ≡ part.end = length-take-le part.end store.history on.2 in
      let start : length left.history - left.recorded ≡ shown = omega (arith, m, low) in
      let served : IsServed count old new held found left own failed = record {
        serving = record {
          held_is = held_is;
          some = some;
          places = places;
          taken = taken;
          answered = stored-goes_on found store shown part parts stored;
          own_is = own_is ∙ ap (λ (k : ℕ). range_with_len k (part.end - shown)) (sym start);
          told = inl stored.shared.decided;
        };
        lock = lock;
        log = log;
        new_is = new_is;
      } in
      had-turn lock part.asks.items (Ok part.answers) served refl none
      (stored-says found store shown part parts stored) tt

  -- a turn may go on with the next part: what it began with, and what it is to leave
  pub record IsOnward (store : StoreState D) (part : Part) (parts : List Part) (taken : Taken) (own : List ℕ)
      : Type 0 where
    pub grown : IsPrefix taken.entries (take part.end store.history)
    pub faults : taken.count ≤ count store.disk
    pub settled : IsSettled (Some taken.pending) taken.count (count store.disk) store.pending
    pub places : ArePlaces (length taken.entries) (length (take part.end store.history)) own
    pub accounts : (failed : Bool) → AccountsFor taken (take part.end store.history) store.pending own failed
    pub shared : IsShared store part.end parts

  pub stored-onward : (found store : StoreState D) (shown : ℕ) (part : Part) (parts : List Part) (taken : Taken)
      (own : List ℕ) → AreStored found store shown (part ∷ parts)
      → taken ≡ record { entries = found.history; count = count found.disk; pending = found.pending }
      → own ≡ range_with_len shown (part.end - shown) → IsOnward store part parts taken own
  stored-onward found store shown part parts taken own stored taken_is own_is =
      let on = shared-on store shown part parts stored.shared in
      let R : List Entry = take shown store.history in
      let L : List Entry = take part.end store.history in
      let n : length R ≡ shown = length-take-le shown store.history stored.shared.within in
      let m : length L ≡ part.end = length-take-le part.end store.history on.2 in
      let low = on.1 in
      let first : IsPrefix found.history R = repaired-begins found R stored.repaired in
      let few = IsPrefix-length found.history R first in
      subst (λ (t : Taken). IsOnward store part parts t own) (sym taken_is)
      (subst (λ (ps : List ℕ). IsOnward store part parts (record {
        entries = found.history;
        count = count found.disk;
        pending = found.pending;
      }) ps) (sym own_is)
      (record {
        grown = (stored-goes_on found store shown part parts stored).longer;
        faults = stored.never_falls;
        settled = λ _ _ _. stored.shared.decided;
        places = ArePlaces-range_with_len shown (part.end - shown) (length found.history) (length L)
            (omega (arith, n, few)) (omega (arith, m, low));
        accounts = λ failed.
            let left : StoreState D = store_at store part.end (part.end - shown) in
            let start : length L - (part.end - shown) ≡ shown = omega (arith, m, low) in
            subst (λ (k : ℕ). AccountsFor (record {
              entries = found.history;
              count = count found.disk;
              pending = found.pending;
            }) L store.pending (range_with_len k (part.end - shown)) failed) start
            (grown-accounts count found left failed (stored-goes_on found store shown part parts stored).grown
            (inl stored.shared.decided));
        shared = on.3;
      }))

  -- the parts behind the first one, as a turn finds them that goes on with the entries that were shown
  pub stored-on : (store : StoreState D) (shown : ℕ) (parts : List Part) → IsShared store shown parts
      → AreStored (store_at store shown 0) store shown parts
  stored-on store shown parts s = record {
    repaired = inl refl;
    shared = s;
    legal = s.legal;
    never_falls = le_refl (count store.disk);
  }

  -- what the store gave to all parts
  pub given-stored : (old store : StoreState D) (ps qs : List Part) (start : ℕ) (given : IsGiven ps qs old store)
      → start ≡ length store.history - store.recorded → GoesOn count old store → AreStored old store start qs
  given-stored old store ps qs start given start_is goes_on =
      let R : List Entry = given.repaired in
      let counted = given.recorded in
      let n : start ≡ length R = omega (arith, start_is, counted) in
      let answered = given-answered R ps qs given.answers in
      let whole : store.history ≡ history_after R (all_asks qs) =
      given.history ∙ ap (λ (l : List Ask). history_after R l) answered.1 in
      let on : IsPrefix R store.history =
      subst (λ (l : List Entry). IsPrefix R l) (sym whole) (history_after-begins R (all_asks qs)) in
      let is : take start store.history ≡ R = take-of_prefix R store.history start on n in
      let from = repaired-begins old R given.found in
      let high = IsPrefix-length R store.history on in
      record {
        repaired = subst (λ (l : List Entry). IsRepaired old l) (sym is) given.found;
        shared = record {
          answered = subst (λ (l : List Entry). AreAnswered l qs) (sym is) answered.0;
          history = subst (λ (l : List Entry). store.history ≡ history_after l (all_asks qs)) (sym is) whole;
          within = omega (arith, n, high);
          legal = subst IsLegal (sym is)
              (legal-between old.history R store.history goes_on.found from on goes_on.legal);
          decided = given.decided;
        };
        legal = goes_on.found;
        never_falls = goes_on.never_falls;
      }

module _ {D : Type 0} where
  -- what a call of a store that failed with the asks of others came to, for the first of them
  says-with : (lock : TableId) (asks : List Ask) (others : List Errand) (f : CallFault) (old new : StoreState D)
      → All (IsErrand lock) others → length others < MOST_PARTS
      → BatchSays (asks ++ errands_asks others) (Err f) old new → TurnSays lock asks (Err f) old new
  says-with lock asks others (Refused cause) old new posted few says = absurd says
  says-with lock asks others (StoreFault before after) old new posted few says = ⊎_elim
      (λ (u : IsUnrepaired old new). inl u)
      (λ (u : IsUndecided (asks ++ errands_asks others) old new). inr record {
        others = others;
        posted = posted;
        few = few;
        undecided = u;
      })
      says
  says-with lock asks others Memory old new posted few says = says

  none-recorded : (asks : List Ask) (f : CallFault) (old new : StoreState D) → BatchSays asks (Err f) old new
      → new.recorded ≡ 0
  none-recorded asks (Refused cause) old new says = absurd says
  none-recorded asks (StoreFault before after) old new says = ⊎_elim
      (λ (u : IsUnrepaired old new). u.none)
      (λ (u : IsUndecided asks old new). u.none)
      says
  none-recorded asks Memory old new says = says.none

  -- where the record wasn't stored, the one who asked for all has recorded nothing
  pub failed-accounts : (count : D → ℕ) (old store : StoreState D) (asks : List Ask) (f : CallFault) (taken : Taken)
      (own : List ℕ) (failed : Bool) → BatchSays asks (Err f) old store → GoesOn count old store
      → taken ≡ record { entries = old.history; count = count old.disk; pending = old.pending } → own ≡ []
      → failed ≡ failed_by {T = List Answer} (Err f)
      → AccountsFor taken store.history store.pending own failed
  failed-accounts count old store asks f taken own failed says goes_on took none fails =
      let zero : store.recorded ≡ 0 = none-recorded asks f old store says in
      let nowhere : own_places store ≡ [] =
      ap (λ (n : ℕ). range_with_len (length store.history - n) n) zero in
      subst (λ (t : Taken). AccountsFor t store.history store.pending own failed) (sym took)
      (subst (λ (l : List ℕ). AccountsFor (record {
        entries = old.history;
        count = count old.disk;
        pending = old.pending;
      }) store.history store.pending l failed) (nowhere ∙ sym none)
      (grown-accounts count old store failed goes_on.grown
      (subst (λ (b : Bool). IsTold store b) (sym fails) (batch-told asks (Err f) old store says))))

  -- all that is known of the turn of the one who asked for all, where the record wasn't stored
  pub failed-had : (count : D → ℕ) (old store : StoreState D) (asks : List Ask) (others : List Errand) (f : CallFault)
      (known new : Known) (held : Before) (own : List ℕ) (lock : TableId) → known.lock ≡ lock
      → All (IsErrand lock) others → length others < MOST_PARTS
      → BatchSays (asks ++ errands_asks others) (Err f) old store
      → HasCallCause {T = Unit {0}} (Err f) (count old.disk) (count store.disk) → GoesOn count old store
      → held.pass ≡ known → IsTaken count known held old → ArePlaces 0 (length known.seen) known.mine
      → own ≡ [] → 0 < known.stake.parts → (failed : Bool) → failed ≡ failed_by {T = List Answer} (Err f)
      → (log : List Row)
      → new ≡ known_after lock held store.history own (count store.disk) store.pending log failed
      → HadTurn count lock asks (Err f) known new
  failed-had count old store asks others f known new held own lock its posted few says cause goes_on held_is taken
      places none some failed fails log new_is =
      let all : List Ask = asks ++ errands_asks others in
      let zero : store.recorded ≡ 0 = none-recorded all f old store says in
      let nowhere : own_places store ≡ [] =
      ap (λ (n : ℕ). range_with_len (length store.history - n) n) zero in
      let served : IsServed count known new held old store own failed = record {
        serving = record {
          held_is = held_is;
          some = some;
          places = places;
          taken = taken;
          answered = goes_on;
          own_is = none ∙ sym nowhere;
          told = subst (λ (b : Bool). IsTold store b) (sym fails) (batch-told all (Err f) old store says);
        };
        lock = lock;
        log = log;
        new_is = new_is;
      } in
      had-turn count lock asks (Err f) served refl fails
      (subst (λ (id : TableId). TurnSays id asks (Err f) old store) (sym its)
      (says-with lock asks others f old store posted few says))
      (cause_of-fault f (count old.disk) (count store.disk) cause)

-- What turns left stays, as a store goes on by turns.
use Rattle.std.proofs.Common.{◌≡◌, ◌⊎◌, ◌≤◌, ◌<◌, ◌++◌, ◌∷◌, [], ℕ, List, Bool, true, length, take, drop, arith, refl, sym, ap, subst, ◌∙◌, ⊎_elim, append_assoc}
use Rattle.std.proofs.lemmas.List.{append-nil, take_all, take-append-drop, take-append-le}
use Rattle.farm_disk.proofs.Moments.{leaves-append, leaves-here, leaves-weaker}
use Rattle.farm_disk.specs.Images.{DiskState, LeavesSince, Step, moment}
use Rattle.farm_disk.specs.declared.disk.Disk as disk
use Rattle.farm_entry.specs.declared.entry.Entry.{Entry}
use Rattle.farm_store.specs.Bytes.{StandsFor}
use Rattle.farm_store.specs.Keeping.{KeepsStore}
use Rattle.farm_store.specs.State.{IsStored, IsWithOrWithout, StoreState}
use Rattle.common_types.specs.Counts.{Rose}
use Rattle.common_types.proofs.Prefixes.{IsPrefix-length}
use Rattle.common_types.specs.Prefix.{IsPrefix}
use Rattle.common_types.specs.Rows.{AreAmong, IsAmong}
use Rattle.common_types.specs.declared.row.Row.{Row}
use Rattle.shared_farm.specs.Logs.{AreLogged, HoldsAll, IsLogged, IsNewest}
use Rattle.shared_farm.specs.Rests.{IsLeftBetween, Rest, TurnLeaves, rest_of}

pub holds-earlier : (first mid : List Entry) (c : List ℕ) → IsPrefix first mid → HoldsAll mid c → HoldsAll first c
holds-earlier first mid c (more, is) (rest, stands) = (
  more ++ rest,
  subst (λ (l : List Entry). StandsFor l c) (ap (λ (l : List Entry). l ++ rest) is ∙ append_assoc first more rest)
      stands,
)

-- what a turn leaves holds the history from before it
pub holds-turn : (mid last : Rest) (c : List ℕ) → IsPrefix mid.history last.history → IsLeftBetween mid last c
    → HoldsAll mid.history c
holds-turn mid last c longer between = ⊎_elim
    (λ (before : IsWithOrWithout mid.history mid.pending c). ⊎_elim
    (λ (without : StandsFor mid.history c).
    let held : HoldsAll mid.history c =
    ([], subst (λ (l : List Entry). StandsFor l c) (sym (append-nil mid.history)) without) in held)
    (λ (with_all : StandsFor (mid.history ++ mid.pending) c).
    let held : HoldsAll mid.history c = (mid.pending, with_all) in held)
    before)
    (λ (now : StandsFor (last.history ++ last.pending) c).
    holds-earlier mid.history last.history c longer (last.pending, now))
    between

-- a row stays logged over a turn
logged-on_one : (mid last : Rest) (row : Row) → TurnLeaves mid last → IsLogged mid.history mid.told row
    → IsLogged last.history last.told row
logged-on_one mid last row turn one =
    let within = one.within in
    let le = IsPrefix-length mid.history last.history turn.longer in
    let first : List Entry = take row.entries mid.history in
    let same : take row.entries last.history ≡ first =
    ap (λ (l : List Entry). take row.entries l) turn.longer.1
    ∙ take-append-le row.entries mid.history turn.longer.0 one.within in
    let begins : IsPrefix first mid.history =
    (drop row.entries mid.history, sym (take-append-drop row.entries mid.history)) in
    let H : List ℕ → Type 0 = HoldsAll first in
    let to : List Step = turn.leaves.since in
    let since : LeavesSince (moment mid.told) last.told.steps H =
    leaves-weaker (moment mid.told) last.told.steps (IsLeftBetween mid last) H
    (λ c between. holds-earlier first mid.history c begins (holds-turn mid last c turn.longer between))
    turn.leaves.each in
    let all : LeavesSince row.moment (to ++ mid.told.steps) H =
    leaves-append row.moment to mid.told.steps H one.since
    (subst (λ (l : List Step). LeavesSince (moment mid.told) l H) turn.leaves.extends since) in
    record {
      within = omega (arith, within, le);
      since = subst (λ (l : List Entry). LeavesSince row.moment last.told.steps (HoldsAll l)) (sym same)
          (subst (λ (l : List Step). LeavesSince row.moment l H) (sym turn.leaves.extends) all);
    }

pub logged-on : (mid last : Rest) (rows : List Row) → TurnLeaves mid last → AreLogged mid.history mid.told rows
    → AreLogged last.history last.told rows
logged-on mid last [] turn all = tt
logged-on mid last (row ∷ rows) turn (one, others) =
    (logged-on_one mid last row turn one, logged-on mid last rows turn others)

-- a row of now is logged
pub logged-now : (H pending : List Entry) (told : DiskState) (row : Row) → IsStored H pending told
    → row.entries ≡ length H → row.moment ≡ moment told → IsLogged H told row
logged-now H pending told row stored entries now =
    let whole : take row.entries H ≡ H = take_all row.entries H (omega (arith, entries)) in
    record {
      within = omega (arith, entries);
      since = subst (λ (l : List Entry). LeavesSince row.moment told.steps (HoldsAll l)) (sym whole)
          (subst (λ (m : ℕ). LeavesSince m told.steps (HoldsAll H)) (sym now)
          (leaves-here told.steps (HoldsAll H) (λ c image. ⊎_elim
          (λ (without : StandsFor H c).
          let held : HoldsAll H c =
          ([], subst (λ (l : List Entry). StandsFor l c) (sym (append-nil H)) without) in held)
          (λ (with_all : StandsFor (H ++ pending) c). let held : HoldsAll H c = (pending, with_all) in held)
          (stored.images c image))));
    }

-- what was logged before a call of the store is logged after it, and so is a row of then
pub logged-told : {D : Type 0} (meant : disk.Ghosts D) (Answered : Type 0 → Type 0) (old new : StoreState D)
    (rows : List Row) (row : Row) → KeepsStore meant Answered old new
    → (new.pending ≡ []) ⊎ Rose (meant.count old.disk) (meant.count new.disk)
    → (meant.tells old.disk ≡ true → AreLogged old.history (meant.told old.disk) rows)
    → row.entries ≡ length new.history → (meant.tells new.disk ≡ true → row.moment ≡ moment (meant.told new.disk))
    → meant.tells new.disk ≡ true → AreLogged new.history (meant.told new.disk) (row ∷ rows)
logged-told meant Answered old new rows row keeps decided logged entries now tell =
    let before : meant.tells old.disk ≡ true = sym keeps.same ∙ tell in (
      logged-now new.history new.pending (meant.told new.disk) row (keeps.stored before) entries (now tell),
      logged-on (rest_of meant old) (rest_of meant new) rows (record {
        longer = keeps.longer;
        leaves = keeps.any_moment before;
        stored = keeps.stored before;
        decided = decided;
        never_falls = keeps.never_falls;
      }) (logged before),
    )

-- and so the lock's value keeps its rows, of which the newest is of now
pub locked-logged : {D : Type 0} (meant : disk.Ghosts D) (dated : D → ℕ) (Answered : Type 0 → Type 0)
    (old new : StoreState D) (rows log : List Row) → KeepsStore meant Answered old new
    → (new.pending ≡ []) ⊎ Rose (meant.count old.disk) (meant.count new.disk)
    → (meant.tells old.disk ≡ true → AreLogged old.history (meant.told old.disk) rows)
    → log ≡ record { entries = length new.history; moment = dated new.disk } ∷ rows
    → (meant.tells new.disk ≡ true → dated new.disk ≡ moment (meant.told new.disk))
    → (meant.tells new.disk ≡ true → AreLogged new.history (meant.told new.disk) log)
    × IsNewest dated (record { store = new; log = log })
locked-logged meant dated Answered old new rows log keeps decided logged is now =
    let row : Row = record { entries = length new.history; moment = dated new.disk } in (
      λ tell. subst (λ (l : List Row). AreLogged new.history (meant.told new.disk) l) (sym is)
          (logged-told meant Answered old new rows row keeps decided logged refl now tell),
      ap (λ (l : List Row). take 1 l) is,
    )

-- the first row that is told is of now
pub first-logged : {D : Type 0} (meant : disk.Ghosts D) (dated : D → ℕ) (store : StoreState D) (before log : List Row)
    → before ≡ [] → log ≡ record { entries = length store.history; moment = dated store.disk } ∷ before
    → (meant.tells store.disk ≡ true → dated store.disk ≡ moment (meant.told store.disk))
    → (meant.tells store.disk ≡ true → IsStored store.history store.pending (meant.told store.disk))
    → (meant.tells store.disk ≡ true → AreLogged store.history (meant.told store.disk) log)
    × IsNewest dated (record { store = store; log = log })
first-logged meant dated store before log none is now stored =
    let row : Row = record { entries = length store.history; moment = dated store.disk } in
    let first : log ≡ row ∷ [] = is ∙ ap (λ (l : List Row). row ∷ l) none in (
      λ tell. subst (λ (l : List Row). AreLogged store.history (meant.told store.disk) l) (sym first)
          (logged-now store.history store.pending (meant.told store.disk) row (stored tell) refl (now tell), tt),
      ap (λ (l : List Row). take 1 l) first,
    )

-- of the rows that are logged each one is
pub logged-of : (H : List Entry) (disk : DiskState) (rows : List Row) (row : Row) → AreLogged H disk rows
    → IsAmong rows row → IsLogged H disk row
logged-of H disk [] row all here = absurd here
logged-of H disk (first ∷ rows) row (one, others) here = ⊎_elim
    (λ (same : first ≡ row). subst (λ (r : Row). IsLogged H disk r) same one)
    (λ (later : IsAmong rows row). logged-of H disk rows row others later) here

-- and so are those that are among them
pub logged-among : (H : List Entry) (disk : DiskState) (rows log : List Row) → AreAmong rows log
    → AreLogged H disk log → AreLogged H disk rows
logged-among H disk [] log among all = tt
logged-among H disk (row ∷ rows) log (one, others) all =
    (logged-of H disk log row all one, logged-among H disk rows log others all)

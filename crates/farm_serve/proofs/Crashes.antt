-- What a crash leaves as a store goes on by turns.
use Rattle.std.proofs.Common.{◌≡◌, ◌⊎◌, ◌≤◌, ◌++◌, ◌∷◌, [], ℕ, List, refl, sym, subst, inl, inr, ⊎_elim}
use Rattle.std.proofs.lemmas.List.{append-nil}
use Rattle.connection_laws.specs.Marks.{Follows, Mark, mark_with}
use Rattle.farm_disk.proofs.Moments.{leaves-append, leaves-weaker, leaves_only-start, leaves_only-trans, leaves_only-weaker}
use Rattle.farm_disk.specs.Images.{LeavesOnly, LeavesSince, Step, moment}
use Rattle.farm_disk.specs.declared.disk.Disk as disk
use Rattle.farm_entry.specs.declared.entry.Entry.{Entry}
use Rattle.farm_store.specs.Bytes.{StandsFor}
use Rattle.farm_store.specs.State.{IsStored, IsWithOrWithout, StoreState}
use Rattle.common_types.specs.Counts.{Rose}
use Rattle.common_types.proofs.Prefixes.{IsPrefix-refl, IsPrefix-trans}
use Rattle.common_types.specs.Prefix.{IsPrefix}
use Rattle.shared_farm.specs.Rests.{AreTurns, CameBy, IsLeftBetween, Rest, TurnLeaves, begun_of}
use Rattle.farm_serve.proofs.Counts.{Rose-from, Rose-later}
use Rattle.farm_serve.proofs.Marks.{Follows-refl, Follows-trans}
use Rattle.shared_farm.proofs.Logging.{holds-earlier, holds-turn}
use Rattle.shared_farm.specs.Logs.{HoldsAll}
use Rattle.farm_serve.specs.Crashes.{AreKept, IsKept, StandsWithin}

-- what a farm begins with came by no turn
pub came-first : {D : Type 0} (meant : disk.Ghosts D) (store : StoreState D) → CameBy meant (begun_of meant store) store
came-first meant store = record { same = refl; turns = []; turned = λ tell. refl }

-- how a rest is seen
abbrev pub mark_of_rest : Rest → Mark
mark_of_rest rest = mark_with rest.history rest.faults

-- what stands within two marks does so where the last one is a later one
within-later : (first mid last : Mark) (c : List ℕ) → Follows mid last → StandsWithin first mid c
    → StandsWithin first last c
within-later first mid last c follows w = record {
  history = w.history;
  undecided = w.undecided;
  stands = w.stands;
  begins = w.begins;
  within = IsPrefix-trans w.history mid.seen last.seen w.within follows.longer;
  failed = ⊎_elim (λ (none : w.undecided ≡ []). inl none)
      (λ (rose : Rose first.faults mid.faults). inr (Rose-later first.faults mid.faults last.faults rose follows.more))
      w.failed;
}

-- and where the first one has a lower count
pub within-from : (seen : List Entry) (low high : ℕ) (last : Mark) (c : List ℕ) → low ≤ high
    → StandsWithin (mark_with seen high) last c
    → StandsWithin (mark_with seen low) last c
within-from seen low high last c le w = record {
  history = w.history;
  undecided = w.undecided;
  stands = w.stands;
  begins = w.begins;
  within = w.within;
  failed = ⊎_elim (λ (none : w.undecided ≡ []). inl none)
      (λ (rose : Rose high last.faults). inr (Rose-from low high last.faults le rose)) w.failed;
}

-- the history of the first mark stands within it and each later one
pub within-first : (first last : Mark) (c : List ℕ) → IsPrefix first.seen last.seen → StandsFor first.seen c
    → StandsWithin first last c
within-first first last c longer stands = record {
  history = first.seen;
  undecided = [];
  stands = subst (λ (l : List Entry). StandsFor l c) (sym (append-nil first.seen)) stands;
  begins = IsPrefix-refl first.seen;
  within = longer;
  failed = inl refl;
}

-- what was reached from a first rest
pub record IsReached (first rest : Rest) : Type 0 where
  pub leaves : LeavesOnly first.told rest.told (StandsWithin (mark_of_rest first) (mark_of_rest rest))
  pub follows : Follows (mark_of_rest first) (mark_of_rest rest)
  pub decided : (rest.pending ≡ []) ⊎ Rose first.faults rest.faults

-- the history of a rest, or it with what is pending
within-rest : (first rest : Rest) (c : List ℕ) → IsPrefix first.history rest.history
    → (rest.pending ≡ []) ⊎ Rose first.faults rest.faults → IsWithOrWithout rest.history rest.pending c
    → StandsWithin (mark_of_rest first) (mark_of_rest rest) c
within-rest first rest c begins decided either = ⊎_elim
    (λ (without : StandsFor rest.history c). record {
      history = rest.history;
      undecided = [];
      stands = subst (λ (l : List Entry). StandsFor l c) (sym (append-nil rest.history)) without;
      begins = begins;
      within = IsPrefix-refl rest.history;
      failed = inl refl;
    })
    (λ (with_all : StandsFor (rest.history ++ rest.pending) c). record {
      history = rest.history;
      undecided = rest.pending;
      stands = with_all;
      begins = begins;
      within = IsPrefix-refl rest.history;
      failed = decided;
    })
    either

reached-first : (first : Rest) → first.pending ≡ [] → IsStored first.history first.pending first.told
    → IsReached first first
reached-first first none stored =
    let same : Follows (mark_of_rest first) (mark_of_rest first) = Follows-refl (mark_of_rest first) in
    record {
      leaves = leaves_only-start first.told (StandsWithin (mark_of_rest first) (mark_of_rest first))
          (λ c image. within-rest first first c same.longer (inl none) (stored.images c image));
      follows = same;
      decided = inl none;
    }

reached-on : (first mid last : Rest) → IsReached first mid → TurnLeaves mid last → IsReached first last
reached-on first mid last r turn =
    let f : Mark = mark_of_rest first in
    let m : Mark = mark_of_rest mid in
    let l : Mark = mark_of_rest last in
    let on : Follows m l = record { longer = turn.longer; counted = turn.longer; more = turn.never_falls } in
    let all : Follows f l = Follows-trans f m l r.follows on in
    let decided : (last.pending ≡ []) ⊎ Rose first.faults last.faults = ⊎_elim
    (λ (none : last.pending ≡ []). inl none)
    (λ (rose : Rose mid.faults last.faults). inr (Rose-from first.faults mid.faults last.faults r.follows.more rose))
    turn.decided in
    let left : (c : List ℕ) → IsLeftBetween mid last c → StandsWithin f l c = λ c between. ⊎_elim
    (λ (before : IsWithOrWithout mid.history mid.pending c).
    within-later f m l c on (within-rest first mid c r.follows.longer r.decided before))
    (λ (now : StandsFor (last.history ++ last.pending) c). within-rest first last c all.longer decided (inr now))
    between in
    record {
      leaves = leaves_only-trans first.told mid.told last.told (StandsWithin f l)
          (leaves_only-weaker first.told mid.told (StandsWithin f m) (StandsWithin f l)
          (λ c w. within-later f m l c on w)
          r.leaves)
          (leaves_only-weaker mid.told last.told (IsLeftBetween mid last) (StandsWithin f l) left turn.leaves);
      follows = all;
      decided = decided;
    }

-- where nothing was pending at first, each image since stands within the first rest and the last one
pub turns-reached : (first : Rest) (turns : List Rest) (last : Rest) → first.pending ≡ []
    → IsStored first.history first.pending first.told → AreTurns first turns last → IsReached first last
turns-reached first [] last none stored same =
    subst (λ (r : Rest). IsReached first r) (sym same) (reached-first first none stored)
turns-reached first (rest ∷ earlier) last none stored (before, turn) =
    reached-on first rest last (turns-reached first earlier rest none stored before) turn

kept-on : (mid last : Rest) (rests : List Rest) → TurnLeaves mid last → AreKept mid.history mid.told rests
    → AreKept last.history last.told rests
kept-on mid last [] turn kept = tt
kept-on mid last (rest ∷ rests) turn (one, others) =
    let H : List ℕ → Type 0 = HoldsAll rest.history in
    let to : List Step = turn.leaves.since in
    let since : LeavesSince (moment mid.told) last.told.steps H =
    leaves-weaker (moment mid.told) last.told.steps (IsLeftBetween mid last) H
    (λ c between. holds-earlier rest.history mid.history c one.begins (holds-turn mid last c turn.longer between))
    turn.leaves.each in
    let all : LeavesSince (moment rest.told) (to ++ mid.told.steps) H =
    leaves-append (moment rest.told) to mid.told.steps H one.each
    (subst (λ (l : List Step). LeavesSince (moment mid.told) l H) turn.leaves.extends since) in (
      record {
        begins = IsPrefix-trans rest.history mid.history last.history one.begins turn.longer;
        each = subst (λ (l : List Step). LeavesSince (moment rest.told) l H) (sym turn.leaves.extends) all;
      },
      kept-on mid last rests turn others,
    )

-- each history at which a turn began is kept
pub turns-kept : (first : Rest) (turns : List Rest) (last : Rest) → AreTurns first turns last
    → AreKept last.history last.told turns
turns-kept first [] last same = tt
turns-kept first (rest ∷ earlier) last (before, turn) =
    let now : IsKept last.history last.told rest = record {
      begins = turn.longer;
      each = leaves-weaker (moment rest.told) last.told.steps (IsLeftBetween rest last) (HoldsAll rest.history)
          (λ c between. holds-turn rest last c turn.longer between) turn.leaves.each;
    } in
    (now, kept-on rest last earlier turn (turns-kept first earlier rest before))

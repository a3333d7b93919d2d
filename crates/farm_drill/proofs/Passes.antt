-- Passes by the plan that are kept, split and joined.
use Rattle.std.proofs.Common.{◌≡◌, ◌<◌, ◌+◌, ◌-◌, ◌⊎◌, ◌++◌, [], ℕ, true, List, length, Option, Some, max, min, refl, sym, ap, subst, ◌∙◌, ⊎_elim, arith, append-nil}
use Rattle.atomic_table.specs.Seated.{TableId}
use Rattle.farm_entry.specs.declared.entry.Entry.{Entry}
use Rattle.common_types.specs.Prefix.{IsPrefix}
use Rattle.common_types.specs.Rows.{IsAmong}
use Rattle.turn_lock.specs.Known.{IsOwned, Known, WasPending, both_pending, both_stakes, first_stake, given, no_turn, stake_given, stake_kept}
use Rattle.turn_lock.specs.Places.{IsOneOf, both_places}
use Rattle.turn_lock.specs.declared.view.Stake.{Stake}
use Rattle.turn_lock.specs.declared.view.Undecided.{Undecided}
use Rattle.turn_lock.proofs.PlaceLists.{IsOneOf-both_places}
use Rattle.farm_drill.specs.Passes.{IsByPlan, KeepsPlan}
use Rattle.farm_drill.specs.Planned.{ArePlanned, GoesByPlan}
use Rattle.farm_drill.proofs.Growing.{prefix-trans}
use Rattle.farm_drill.proofs.Planned.{place-on}

-- a pass of which nothing was used
pub keeps-same : (pass : Known) → IsByPlan pass → KeepsPlan pass pass
keeps-same pass by = record {
  longer = ([], sym (append-nil pass.seen));
  planned = by.planned;
  pending = by.pending;
  faults = by.faults;
  parts = refl;
  undecided = refl;
}

-- what is kept is by the plan again, and is kept on
pub kept-by_plan : (old new : Known) → KeepsPlan old new → IsByPlan new
kept-by_plan old new keeps =
    record { planned = keeps.planned; pending = keeps.pending; faults = keeps.faults }

pub keeps-then : (a b c : Known) → KeepsPlan a b → KeepsPlan b c → KeepsPlan a c
keeps-then a b c first second = record {
  longer = prefix-trans a.seen b.seen c.seen first.longer second.longer;
  planned = second.planned;
  pending = second.pending;
  faults = second.faults;
  parts = second.parts ∙ first.parts;
  undecided = second.undecided ∙ first.undecided;
}

-- the pass that another one was split off, and the other one
abbrev pub kept_of : Known → Known
kept_of pass = record pass {
  uses = pass.uses + 1;
  last = no_turn;
  stake = stake_kept pass.seen pass.faults pass.stake;
}

abbrev pub other_of : TableId → Known → Known
other_of lock pass = record {
  lock = lock;
  ready = true;
  seen = pass.seen;
  mine = [];
  faults = pass.faults;
  uses = 0;
  last = no_turn;
  pending = pass.pending;
  rows = pass.rows;
  stake = stake_given pass.seen pass.faults pass.stake;
}

pub kept-by : (pass kept : Known) → kept ≡ kept_of pass → IsByPlan pass → IsByPlan kept
kept-by pass kept is by =
    subst IsByPlan (sym is) (record { planned = by.planned; pending = by.pending; faults = by.faults })

pub other-by : (lock : TableId) (pass other : Known) → other ≡ other_of lock pass → IsByPlan pass → IsByPlan other
other-by lock pass other is by =
    subst IsByPlan (sym is)
    (record { planned = λ place one. absurd one; pending = by.pending; faults = by.faults })

-- the stake of a pass whose parts were shared out is whole again
whole-parts : (n : ℕ) → (n - min 1 (n - 1)) + min 1 (n - 1) ≡ n
whole-parts n = omega arith

-- the two passes, kept each for itself and joined again
pub joined-keeps : (lock : TableId) (pass kept other rest back now : Known) → kept ≡ kept_of pass
    → other ≡ other_of lock pass → KeepsPlan kept rest → KeepsPlan other back → IsPrefix rest.seen now.seen
    → IsPrefix back.seen now.seen → now.mine ≡ both_places rest.mine back.mine
    → now.faults ≡ max rest.faults back.faults
    → now.pending ≡ both_pending rest.pending back.pending → now.stake ≡ both_stakes rest.stake back.stake
    → KeepsPlan pass now
joined-keeps lock pass kept other rest back now kept_is other_is one two first second mine faults pending stake =
    let seen : kept.seen ≡ pass.seen = ap (λ (k : Known). k.seen) kept_is in
    record {
      longer = prefix-trans pass.seen rest.seen now.seen
          (subst (λ (H : List Entry). IsPrefix H rest.seen) seen one.longer) first;
      planned = λ place of. ⊎_elim
          (λ (l : IsOneOf rest.mine place). place-on rest.seen now.seen place first (one.planned place l))
          (λ (r : IsOneOf back.mine place). place-on back.seen now.seen place second (two.planned place r))
          (IsOneOf-both_places rest.mine back.mine place (subst (λ (ps : List ℕ). IsOneOf ps place) mine of));
      pending = pending ∙ ap (λ (o : Option (List Entry)). both_pending o back.pending) one.pending
          ∙ ap (λ (o : Option (List Entry)). both_pending (Some []) o) two.pending;
      faults = faults ∙ ap (λ (n : ℕ). max n back.faults) one.faults ∙ ap (λ (n : ℕ). max 0 n) two.faults;
      parts = ap (λ (s : Stake). s.parts) stake
          ∙ ap (λ (n : ℕ). n + back.stake.parts) (one.parts ∙ ap (λ (k : Known). k.stake.parts) kept_is)
          ∙ ap (λ (n : ℕ). (pass.stake.parts - given pass.stake.parts) + n)
          (two.parts ∙ ap (λ (k : Known). k.stake.parts) other_is)
          ∙ whole-parts pass.stake.parts;
      undecided = ap (λ (s : Stake). s.undecided) stake
          ∙ ap (λ (us : List Undecided). us ++ back.stake.undecided)
          (one.undecided ∙ ap (λ (k : Known). k.stake.undecided) kept_is)
          ∙ ap (λ (us : List Undecided). pass.stake.undecided ++ us)
          (two.undecided ∙ ap (λ (k : Known). k.stake.undecided) other_is)
          ∙ append-nil pass.stake.undecided;
    }

-- The history of the farm that is closed.

below-start : (start : List Entry) (u : Undecided) (place : ℕ) → IsAmong (first_stake start []).undecided u
    → place < length (u.entries ++ u.pending) → place < length start
below-start start u place among below =
    ⊎_elim
    (λ is. subst (λ (v : Undecided). place < length (v.entries ++ v.pending)) (sym is) below)
    (λ more. ⊎_elim
    (λ is. subst (λ (l : List Entry). place < length l) (append-nil start)
    (subst (λ (v : Undecided). place < length (v.entries ++ v.pending)) (sym is) below))
    (λ none. absurd none)
    more)
    among

-- it goes by the plan where it did as it was shared, and the pass that closes it has all parts
pub closed-goes : (start left : List Entry) (pass : Known) → GoesByPlan start → ArePlanned pass.seen pass.mine
    → IsPrefix pass.seen left → IsPrefix start left → pass.stake.undecided ≡ (first_stake start []).undecided
    → IsOwned pass.mine pass.stake.undecided left → GoesByPlan left
closed-goes start left pass goes planned seen begins undecided owned place below =
    ⊎_elim
    (λ (mine : IsOneOf pass.mine place). place-on pass.seen left place seen (planned place mine))
    (λ (was : WasPending pass.stake.undecided left place).
    place-on start left place begins
    (goes place
    (below-start start was.0 place (subst (λ (us : List Undecided). IsAmong us was.0) undecided was.1) was.3)))
    (owned place below)

-- What holds of a follower, by where it keeps its history.
use Rattle.std.proofs.Common.{◌≡◌, ℕ, Bool, true, true≢false, List, [], ◌∷◌, ◌++◌, Option, Some, None, sym, ◌∙◌, ap}
use Rattle.std.proofs.Common.{subst}
use Rattle.farm_disk.specs.Images.{DiskState, LeavesOnly}
use Rattle.farm_disk.proofs.Moments.{leaves_only-start, leaves_only-trans, leaves_only-weaker}
use Rattle.farm_entry.specs.declared.entry.Entry.{Entry}
use Rattle.farm_laws.proofs.Induct.{IsLegal-first}
use Rattle.std.specs.Prelude.{Err, Ok, OnOk, Result}
use Rattle.journal_follow.specs.Page.{MayBeHeld}
use Rattle.journal_follow.specs.Taking.{Held, IsDecided}
use Rattle.journal_follow.specs.Inside.{IsFollower, IsPlace, follower_state, place_state}
use Rattle.journal_follow.specs.Shown.{IsKept, ShowsLeft}
use Rattle.journal_follow.specs.State.{FollowerState}
use Rattle.journal_follow.specs.Taken.{OnMemory}
use Rattle.journal_follow.specs.declared.fault.FollowFault.{FollowFault}
use Rattle.journal_follow.specs.declared.fault.FollowFault.TheVariants as fault
use Rattle.journal_follow.specs.declared.place.Place.{Place}
use Rattle.journal_follow.specs.declared.place.Place.TheVariants as place
use Rattle.journal_follow.proofs.Legals.{legal-may}
use Rattle.journal_follow.proofs.Showing.{begun-kept, decided-left, left-first, left-on, stored-kept, unborn-kept}

-- the history without what is pending may be held where both may
pub may-front : (H more : List Entry) → MayBeHeld (H ++ more) → MayBeHeld H
may-front [] more may = tt
may-front (e ∷ H) more may = IsLegal-first (e ∷ H) more (λ none. not-none none) may
  where
    not-none : e ∷ H ≡ [] → ⊥
    not-none none = cc

module _ {D : Type 0} (tells : D → Bool) (told : D → DiskState) (count : D → ℕ) where
  place-legal : (p : Place D) → IsPlace tells told count p
      → MayBeHeld ((place_state tells told count p).held.history ++ (place_state tells told count p).held.pending)
  place-legal (place.Unborn disk) holds = tt
  place-legal (place.Begun begun) holds = legal-may begun.entries holds.0
  place-legal (place.Open store) holds = legal-may (store.history ++ store.pending) holds.legal

  place-kept : (p : Place D) → IsPlace tells told count p → (place_state tells told count p).tells ≡ true
      → IsKept (place_state tells told count p).held (place_state tells told count p).disk
  place-kept (place.Unborn disk) holds t = unborn-kept (told disk) (holds t)
  place-kept (place.Begun begun) holds t = begun-kept begun.entries (told begun.disk) (holds.1 t)
  place-kept (place.Open store) holds t =
      stored-kept store.history store.pending (told store.disk) (holds.stored t)

  follower-legal : (o : Option (Place D)) → IsFollower tells told count o
      → MayBeHeld ((follower_state tells told count o).held.history ++ (follower_state tells told count o).held.pending)
  follower-legal None holds = absurd holds
  follower-legal (Some p) holds = place-legal p holds

  follower-kept : (o : Option (Place D)) → IsFollower tells told count o
      → (follower_state tells told count o).tells ≡ true
      → IsKept (follower_state tells told count o).held (follower_state tells told count o).disk
  follower-kept None holds t = absurd holds
  follower-kept (Some p) holds t = place-kept p holds t

  -- the same of the view
  pub told-legal : (o : Option (Place D)) (s : FollowerState) → follower_state tells told count o ≡ s
      → IsFollower tells told count o → MayBeHeld (s.held.history ++ s.held.pending)
  told-legal o s view holds =
      subst (λ (x : FollowerState). MayBeHeld (x.held.history ++ x.held.pending)) view (follower-legal o holds)

  pub told-kept : (o : Option (Place D)) (s : FollowerState) → follower_state tells told count o ≡ s
      → IsFollower tells told count o → s.tells ≡ true → IsKept s.held s.disk
  told-kept o s view holds =
      subst (λ (x : FollowerState). x.tells ≡ true → IsKept x.held x.disk) view (follower-kept o holds)

  -- what holds of two places holds of the two views
  pub both-views : (o o' : Option (Place D)) (p p' : Place D) (s : FollowerState)
      → follower_state tells told count o ≡ s → o ≡ Some p → o' ≡ Some p'
      → (P : FollowerState → FollowerState → Type 0)
      → P (place_state tells told count p) (place_state tells told count p')
      → P s (follower_state tells told count o')
  both-views o o' p p' s view one two P both =
      subst (λ (x : FollowerState). P x (follower_state tells told count o'))
      (sym (ap (λ (q : Option (Place D)). follower_state tells told count q) one) ∙ view)
      (subst (λ (q : Option (Place D)). P (place_state tells told count p) (follower_state tells told count q))
      (sym two) both)

  pub view-is : (o : Option (Place D)) (p : Place D) (s : FollowerState) → follower_state tells told count o ≡ s
      → o ≡ Some p → s ≡ place_state tells told count p
  view-is o p s view one = sym view ∙ ap (λ (q : Option (Place D)). follower_state tells told count q) one

  pub follower-of : (o : Option (Place D)) (p : Place D) → o ≡ Some p → IsPlace tells told count p
      → IsFollower tells told count o
  follower-of o p is holds = subst (λ (q : Option (Place D)). IsFollower tells told count q) (sym is) holds

  pub place-of : (o : Option (Place D)) (p : Place D) → o ≡ Some p → IsFollower tells told count o
      → IsPlace tells told count p
  place-of o p is holds = subst (λ (q : Option (Place D)). IsFollower tells told count q) is holds

-- a repair, and then what was done while nothing was pending
pub leaves-then : (old mid new : Held) (a b d : DiskState) → IsDecided old mid.history → mid.pending ≡ []
    → LeavesOnly a b (ShowsLeft old mid) → LeavesOnly b d (ShowsLeft mid new) → LeavesOnly a d (ShowsLeft old new)
leaves-then old mid new a b d found none one two =
    leaves_only-trans a b d (ShowsLeft old new)
    (leaves_only-weaker a b (ShowsLeft old mid) (ShowsLeft old new) (λ c shows. left-first old mid new c found none shows)
    one)
    (leaves_only-weaker b d (ShowsLeft mid new) (ShowsLeft old new) (λ c shows. left-on old mid new c found none shows)
    two)

pub leaves-none : (held new : Held) (disk : DiskState) → IsKept held disk → LeavesOnly disk disk (ShowsLeft held new)
leaves-none held new disk kept =
    leaves_only-start disk (ShowsLeft held new) (λ c image. decided-left held new c (kept.images c image))

-- running out of memory
pub on_memory : {T : Type 0} (r : Result T FollowFault) (P : Type 0) → P → OnMemory r P
on_memory (Ok x) P held = tt
on_memory (Err fault.Memory) P held = held
on_memory (Err (fault.Gap a b)) P held = tt
on_memory (Err (fault.Foreign a)) P held = tt
on_memory (Err (fault.StoreFault a b)) P held = tt
on_memory (Err (fault.Damaged a)) P held = tt
on_memory (Err fault.NetFault) P held = tt
on_memory (Err (fault.Peer a)) P held = tt

pub on_memory-weaker : {T : Type 0} (r : Result T FollowFault) (P Q : Type 0) → (P → Q) → OnMemory r P → OnMemory r Q
on_memory-weaker (Ok x) P Q weaker held = tt
on_memory-weaker (Err fault.Memory) P Q weaker held = weaker held
on_memory-weaker (Err (fault.Gap a b)) P Q weaker held = tt
on_memory-weaker (Err (fault.Foreign a)) P Q weaker held = tt
on_memory-weaker (Err (fault.StoreFault a b)) P Q weaker held = tt
on_memory-weaker (Err (fault.Damaged a)) P Q weaker held = tt
on_memory-weaker (Err fault.NetFault) P Q weaker held = tt
on_memory-weaker (Err (fault.Peer a)) P Q weaker held = tt

pub on_ok-weaker : {T E : Type 0} (r : Result T E) (P Q : Type 0) → (P → Q) → OnOk r P → OnOk r Q
on_ok-weaker (Ok x) P Q weaker held = weaker held
on_ok-weaker (Err e) P Q weaker held = tt

-- What the follower holds is a beginning of the leader's history, whatever happens.
use Rattle.std.proofs.Common.{◌≡◌, ◌≤◌, ◌+◌, ◌-◌, ◌⊎◌, inl, inr, ℕ, zero, suc, List, [], ◌∷◌, ◌++◌, length, take, drop}
use Rattle.std.proofs.Common.{slice_get, Some, refl, sym, ap, subst, ◌∙◌, arith, append-nil, append_assoc}
use Rattle.std.proofs.lemmas.List.{drop-append-le, length-drop, take-append-drop}
use Rattle.std.proofs.Math.Seq.{drop-append_seam}
use Rattle.std.proofs.lemmas.Option.{none-some, same_Some}
use Rattle.farm_types.specs.declared.moment.Moment.{Moment}
use Rattle.farm_entry.specs.declared.entry.Entry.{Entry}
use Rattle.farm_entry.specs.declared.settings.Settings.{Settings}
use Rattle.common_types.specs.Prefix.{IsPrefix}
use Rattle.common_types.proofs.Prefixes.{IsPrefix-append, IsPrefix-nil, IsPrefix-refl, IsPrefix-trans}
use Rattle.journal_follow.specs.Happenings.{AllHappen, Happening, Happens, leader_appends, leader_starts_anew}
use Rattle.journal_follow.specs.Happenings.{leader_answers, follower_asks, follower_takes, follower_loses}
use Rattle.journal_follow.specs.Happenings.{follower_begins_anew, follower_crashes, follower_crashes_taking, page_of}
use Rattle.journal_follow.specs.Happenings.{reopened}
use Rattle.journal_follow.specs.Page.{entries_past}
use Rattle.journal_follow.specs.Taking.{Came, Held, IsDecided, IsLeft, Takes, foreign, gap, stored, undecided, unrepaired}
use Rattle.journal_follow.specs.Taking.{unstored}
use Rattle.journal_follow.specs.World.{Page, World, founded}

-- Lists.

-- what begins a list, and behind it a beginning of what is left, begins the list
begins-more : {A : Type 0} (xs ys all rest : List A) → all ≡ xs ++ rest → IsPrefix ys rest → IsPrefix (xs ++ ys) all
begins-more xs ys all rest is p =
    (p.0, is ∙ ap (λ (l : List _). xs ++ l) p.1 ∙ sym (append_assoc xs ys p.0))

-- dropping from a list with more at its end drops a beginning
begins-drop : {A : Type 0} (n : ℕ) (xs ys : List A) → IsPrefix (drop n xs) (drop n (xs ++ ys))
begins-drop zero xs ys = IsPrefix-append xs ys
begins-drop (suc n) [] ys = IsPrefix-nil (drop (suc n) ys)
begins-drop (suc n) (x ∷ xs) ys = begins-drop n xs ys

-- what is left of a beginning is a beginning of what is left
drop-begins : {A : Type 0} (n : ℕ) (xs ys : List A) → IsPrefix xs ys → IsPrefix (drop n xs) (drop n ys)
drop-begins n xs ys p = subst (λ (l : List _). IsPrefix (drop n xs) (drop n l)) (sym p.1) (begins-drop n xs p.0)

-- the first members begin a list
take-begins : {A : Type 0} (n : ℕ) (xs : List A) → IsPrefix (take n xs) xs
take-begins n xs = (drop n xs, sym (take-append-drop n xs))

-- the member at a place of a list with one more is one of the list, or that one
one-more : {A : Type 0} (xs : List A) (y x : A) (i : ℕ) → slice_get (xs ++ y ∷ []) i ≡ Some x →
    (slice_get xs i ≡ Some x) ⊎ (x ≡ y)
one-more [] y x zero is = inr (sym (same_Some y x is))
one-more [] y x (suc i) is = absurd (none-some x is)
one-more (z ∷ xs) y x zero is = inl is
one-more (z ∷ xs) y x (suc i) is = one-more xs y x i is

-- Pages.

-- a page is of a history where its entries begin what that has from the page's place on
abbrev pub IsPageOf : List Entry → Page → Type 0
IsPageOf leader p = IsPrefix p.entries (drop (p.from - 1) leader)

abbrev pub ArePagesOf : List Entry → List Page → Type 0
ArePagesOf leader pages = (i : ℕ) (p : Page) → slice_get pages i ≡ Some p → IsPageOf leader p

page-stays : (leader more : List Entry) (p : Page) → IsPageOf leader p → IsPageOf (leader ++ more) p
page-stays leader more p is =
    IsPrefix-trans p.entries (drop (p.from - 1) leader) (drop (p.from - 1) (leader ++ more)) is
    (begins-drop (p.from - 1) leader more)

-- a beginning, with the entries of a page past it, is a beginning
pub page-goes-on : (leader H : List Entry) (place : ℕ) (page : List Entry) → IsPrefix H leader → place ≤ length H →
    IsPrefix page (drop place leader) → IsPrefix (H ++ entries_past H place page) leader
page-goes-on leader H place page p le is =
    let k = length H - place in
    let there : drop place leader ≡ drop place H ++ p.0 = ap (λ (l : List Entry). drop place l) p.1
    ∙ drop-append-le place H p.0 le in
    let size : length (drop place H) ≡ k = length-drop place H in
    let left : drop k (drop place leader) ≡ p.0 =
    ap (λ (l : List Entry). drop k l) there ∙ ap (λ (n : ℕ). drop n (drop place H ++ p.0)) (sym size)
    ∙ drop-append_seam (drop place H) p.0 in
    begins-more H (drop k page) leader p.0 p.1
    (subst (λ (l : List Entry). IsPrefix (drop k page) l) left (drop-begins k page (drop place leader) is))

-- What a follower holds.

abbrev pub Begins : List Entry → Held → Type 0
Begins leader held = IsPrefix (held.history ++ held.pending) leader

history-begins : (leader : List Entry) (held : Held) → Begins leader held → IsPrefix held.history leader
history-begins leader held b =
    IsPrefix-trans held.history (held.history ++ held.pending) leader (IsPrefix-append held.history held.pending) b

decided-begins : (leader : List Entry) (held : Held) (H : List Entry) → Begins leader held → IsDecided held H
    → IsPrefix H leader
decided-begins leader held H b (inl is) =
    subst (λ (l : List Entry). IsPrefix l leader) (sym is) (history-begins leader held b)
decided-begins leader held H b (inr is) = subst (λ (l : List Entry). IsPrefix l leader) (sym is) b

-- nothing pending
settled-begins : (leader H : List Entry) (held : Held) → IsPrefix H leader → held.history ≡ H → held.pending ≡ []
    → Begins leader held
settled-begins leader H held p is none =
    subst (λ (l : List Entry). IsPrefix l leader)
    (sym (ap (λ (l : List Entry). held.history ++ l) none ∙ append-nil held.history ∙ is)) p

place-le : (from n : ℕ) → from ≤ n + 1 → from - 1 ≤ n
place-le from n le = omega arith

pub takes-begins : (leader : List Entry) (came : Came) (p : Page) (old new : Held) → Begins leader old
    → IsPageOf leader p → Takes came p.from p.entries old new → Begins leader new
takes-begins leader (stored count) p old new b is t =
    let H = t.0 in
    settled-begins leader (H ++ entries_past H (p.from - 1) p.entries) new
    (page-goes-on leader H (p.from - 1) p.entries (decided-begins leader old H b t.1)
    (place-le p.from (length H) t.2) is)
    t.4 t.5
takes-begins leader (gap first have) p old new b is t =
    settled-begins leader new.history new (decided-begins leader old new.history b t.0) refl t.1
takes-begins leader (foreign place) p old new b is t =
    settled-begins leader new.history new (decided-begins leader old new.history b t.0) refl t.1
takes-begins leader unrepaired p old new b is t =
    subst (λ (l : List Entry). IsPrefix l leader)
    (sym (ap (λ (l : List Entry). l ++ new.pending) t.1 ∙ ap (λ (l : List Entry). old.history ++ l) t.2)) b
takes-begins leader undecided p old new b is t =
    let H = new.history in
    subst (λ (l : List Entry). IsPrefix (H ++ l) leader) (sym t.3)
    (page-goes-on leader H (p.from - 1) p.entries (decided-begins leader old H b t.0)
    (place-le p.from (length H) t.1) is)
takes-begins leader unstored p old new b is t =
    settled-begins leader new.history new (decided-begins leader old new.history b t.0) refl t.1

left-begins : (leader : List Entry) (old new : Held) (H : List Entry) → Begins leader old → Begins leader new
    → IsLeft old new H → IsPrefix H leader
left-begins leader old new H b c (inl is) = decided-begins leader old H b is
left-begins leader old new H b c (inr is) = subst (λ (l : List Entry). IsPrefix l leader) (sym is) c

-- Growing.

decided-grows : (held : Held) (H : List Entry) → IsDecided held H → IsPrefix held.history H
decided-grows held H (inl is) =
    subst (λ (l : List Entry). IsPrefix held.history l) (sym is) (IsPrefix-refl held.history)
decided-grows held H (inr is) =
    subst (λ (l : List Entry). IsPrefix held.history l) (sym is) (IsPrefix-append held.history held.pending)

pub takes-grows : (came : Came) (from : ℕ) (page : List Entry) (old new : Held) → Takes came from page old new →
    IsPrefix old.history new.history
takes-grows (stored count) from page old new t =
    IsPrefix-trans old.history t.0 new.history (decided-grows old t.0 t.1) (entries_past t.0 (from - 1) page, t.4)
takes-grows (gap first have) from page old new t = decided-grows old new.history t.0
takes-grows (foreign place) from page old new t = decided-grows old new.history t.0
takes-grows unrepaired from page old new t =
    subst (λ (l : List Entry). IsPrefix old.history l) (sym t.1) (IsPrefix-refl old.history)
takes-grows undecided from page old new t = decided-grows old new.history t.0
takes-grows unstored from page old new t = decided-grows old new.history t.0

left-grows : (came : Came) (from : ℕ) (page : List Entry) (old new : Held) (H : List Entry)
    → Takes came from page old new → IsLeft old new H → IsPrefix old.history H
left-grows came from page old new H t (inl is) = decided-grows old H is
left-grows came from page old new H t (inr is) =
    subst (λ (l : List Entry). IsPrefix old.history l) (sym is)
    (IsPrefix-trans old.history new.history (new.history ++ new.pending) (takes-grows came from page old new t)
    (IsPrefix-append new.history new.pending))

-- The world.

pub record IsSound (w : World) : Type 0 where
  pub begins : Begins w.leader w.follower
  pub pages : ArePagesOf w.leader w.pages

reopened-sound : (w : World) (H : List Entry) → IsSound w → IsPrefix H w.leader → IsSound (reopened w H)
reopened-sound w H s p = record {
  begins = subst (λ (l : List Entry). IsPrefix l w.leader) (sym (append-nil H)) p;
  pages = s.pages;
}

answered-pages : (leader : List Entry) (pages : List Page) (from count : ℕ) → ArePagesOf leader pages →
    ArePagesOf leader (pages ++ page_of leader from count ∷ [])
answered-pages leader pages from count are i p is = by (one-more pages (page_of leader from count) p i is)
  where
    by : (slice_get pages i ≡ Some p) ⊎ (p ≡ page_of leader from count) → IsPageOf leader p
    by (inl there) = are i p there
    by (inr it) = subst (λ (q : Page). IsPageOf leader q) (sym it) (take-begins count (drop (from - 1) leader))

appended : (w : World) (e : Entry) → IsSound w → IsSound (record w { leader = w.leader ++ e ∷ [] })
appended w e s = record {
  begins = IsPrefix-trans (w.follower.history ++ w.follower.pending) w.leader (w.leader ++ e ∷ []) s.begins
      (IsPrefix-append w.leader (e ∷ []));
  pages = λ i p is. page-stays w.leader (e ∷ []) p (s.pages i p is);
}

answered : (w : World) (from count : ℕ) → IsSound w
    → IsSound (record w { pages = w.pages ++ page_of w.leader from count ∷ [] })
answered w from count s = record { begins = s.begins; pages = answered-pages w.leader w.pages from count s.pages }

taken : (w : World) (held : Held) (compared : ℕ) → IsSound w → Begins w.leader held →
    IsSound (record w { follower = held; compared = compared })
taken w held compared s b = record { begins = b; pages = s.pages }

pub happens-sound : (w : World) (h : Happening) (next : World) → IsSound w → Happens w h next → IsSound next
happens-sound w (leader_appends e) next s h = subst IsSound (sym h.1) (appended w e s)
happens-sound w leader_starts_anew next s h = subst IsSound (sym h) s
happens-sound w (leader_answers ask count) next s h = subst IsSound (sym h.2) (answered w h.0 count s)
happens-sound w follower_asks next s h = subst IsSound (sym h) (record { begins = s.begins; pages = s.pages })
happens-sound w (follower_takes page came) next s h =
    subst IsSound (sym h.4)
    (taken w h.2 _ s (takes-begins w.leader came h.0 w.follower h.2 s.begins (s.pages page h.0 h.1) h.3))
happens-sound w (follower_loses page) next s h = subst IsSound (sym h) s
happens-sound w follower_begins_anew next s h = subst IsSound (sym h) (record { begins = s.begins; pages = s.pages })
happens-sound w follower_crashes next s h =
    subst IsSound (sym h.2) (reopened-sound w h.0 s (decided-begins w.leader w.follower h.0 s.begins h.1))
happens-sound w (follower_crashes_taking page came) next s h =
    subst IsSound (sym h.6)
    (reopened-sound w h.4 s (left-begins w.leader w.follower h.2 h.4 s.begins
    (takes-begins w.leader came h.0 w.follower h.2 s.begins (s.pages page h.0 h.1) h.3) h.5))

pub all-sound : (w : World) (all : List Happening) (last : World) → IsSound w → AllHappen w all last → IsSound last
all-sound w [] last s h = subst IsSound (sym h) s
all-sound w (h ∷ more) last s hs = all-sound hs.0 more last (happens-sound w h hs.0 s hs.1) hs.2

pub founded-sound : (settings : Settings) (at : Moment) → IsSound (founded settings at)
founded-sound settings at = record {
  begins = IsPrefix-nil (founded settings at).leader;
  pages = λ i p is. absurd (none-some p is);
}

pub sound-history : (w : World) → IsSound w → IsPrefix w.follower.history w.leader
sound-history w s = history-begins w.leader w.follower s.begins

-- the follower's history is the same, or has grown
same-grows : (w next : World) (v : World) → next ≡ v → IsPrefix w.follower.history v.follower.history →
    IsPrefix w.follower.history next.follower.history
same-grows w next v is p = subst (λ (u : World). IsPrefix w.follower.history u.follower.history) (sym is) p

pub happens-grows : (w : World) (h : Happening) (next : World) → Happens w h next →
    IsPrefix w.follower.history next.follower.history
happens-grows w (leader_appends e) next h = same-grows w next _ h.1 (IsPrefix-refl w.follower.history)
happens-grows w leader_starts_anew next h = same-grows w next _ h (IsPrefix-refl w.follower.history)
happens-grows w (leader_answers ask count) next h = same-grows w next _ h.2 (IsPrefix-refl w.follower.history)
happens-grows w follower_asks next h = same-grows w next _ h (IsPrefix-refl w.follower.history)
happens-grows w (follower_takes page came) next h =
    same-grows w next _ h.4 (takes-grows came h.0.from h.0.entries w.follower h.2 h.3)
happens-grows w (follower_loses page) next h = same-grows w next _ h (IsPrefix-refl w.follower.history)
happens-grows w follower_begins_anew next h = same-grows w next _ h (IsPrefix-refl w.follower.history)
happens-grows w follower_crashes next h = same-grows w next _ h.2 (decided-grows w.follower h.0 h.1)
happens-grows w (follower_crashes_taking page came) next h =
    same-grows w next _ h.6 (left-grows came h.0.from h.0.entries w.follower h.2 h.4 h.3 h.5)

pub all-grows : (w : World) (all : List Happening) (last : World) → AllHappen w all last →
    IsPrefix w.follower.history last.follower.history
all-grows w [] last h = same-grows w last w h (IsPrefix-refl w.follower.history)
all-grows w (h ∷ more) last hs =
    IsPrefix-trans w.follower.history hs.0.follower.history last.follower.history (happens-grows w h hs.0 hs.1)
    (all-grows hs.0 more last hs.2)

-- From a page beside a history to what taking it comes to.
use Rattle.std.proofs.Common.{◌≡◌, ◌≢◌, inl, inr, ⊎_elim, ◌<◌, ◌≤◌, ◌+◌, ◌-◌, ℕ, zero, suc, Bool, true≢false, List, []}
use Rattle.std.proofs.Common.{◌∷◌, ◌++◌, length, take, drop, get_or, refl, sym, ◌∙◌, ap, subst, arith, append_assoc}
use Rattle.std.specs.Prelude.{Result, Ok, Err, Some, None, min, slice_get, Option}
use Rattle.std.proofs.lemmas.Bool.{cases_lt}
use Rattle.std.proofs.lemmas.List.{append-nil, length-append, length-drop, length-take-le, take-append-drop, take_all}
use Rattle.std.proofs.lemmas.List.{take_at, take_more}
use Rattle.std.proofs.Math.Numerals.{add-one}
use Rattle.std.proofs.Math.Seq.{drop-append_seam}
use Rattle.farm_entry.specs.declared.entry.Entry.{Entry}
use Rattle.farm_entry.specs.declared.limits.TheConstants.{MAX_ENTRIES}
use Rattle.farm_laws.proofs.Bounds.{entries-bounded}
use Rattle.journal_follow.specs.Page.{GoesWith, IsForeignAt, MayBeHeld, entries_past}
use Rattle.journal_follow.specs.Taking.{Came, Held, IsDecided, Takes, foreign, gap, stored, undecided, unrepaired, unstored}
use Rattle.farm_store.specs.Admitted.{IsStuckAt}
use Rattle.journal_follow.specs.Inside.{HasCountFrom, IsPast, IsRefused, Repairs, Stores}
use Rattle.journal_follow.specs.Taken.{Answers, HasCause}
use Rattle.journal_follow.specs.declared.fault.FollowFault.{FollowFault}
use Rattle.journal_follow.specs.declared.fault.FollowFault.TheVariants as fault
use Rattle.journal_follow.proofs.Legals.{may-by, may-pushed, split-at}
use Rattle.journal_follow.proofs.Rises.{rose-later}
use Rattle.journal_follow.proofs.Showing.{decided-twice, with_pending}

-- a history that may be held is bounded
pub may-bounded : (H : List Entry) → MayBeHeld H → length H ≤ MAX_ENTRIES + 1
may-bounded [] may = omega arith
may-bounded (e ∷ more) may = entries-bounded (e ∷ more) may

-- what goes before a history that may be held, may be held
pub may-none : (H : List Entry) → MayBeHeld H → MayBeHeld (H ++ [])
may-none H may = subst MayBeHeld (sym (append-nil H)) may

nothing-left : (xs : List Entry) → length xs ≡ 0 → xs ≡ []
nothing-left [] size = refl
nothing-left (x ∷ xs) size = absurd (omega (arith, size))

drop-nothing : (n : ℕ) (xs : List Entry) → length xs ≤ n → drop n xs ≡ []
drop-nothing n xs few = nothing-left (drop n xs) (omega (arith, length-drop n xs, few))

-- what a page leaves past a history, by the shorter of the two
drop-shorter : (n : ℕ) (xs : List Entry) → drop (min n (length xs)) xs ≡ drop n xs
drop-shorter n xs = ⊎_elim
    (λ (less : n < length xs). ap (λ (k : ℕ). drop k xs) (omega (arith, less)))
    (λ (more : length xs ≤ n).
    ap (λ (k : ℕ). drop k xs) (omega (arith, more)) ∙ drop-nothing (length xs) xs (omega arith)
    ∙ sym (drop-nothing n xs more))
    (cases_lt n (length xs))

slice-take : (xs : List Entry) (n : ℕ) → slice_get (take (suc n) xs) n ≡ slice_get xs n
slice-take [] zero = refl
slice-take [] (suc n) = refl
slice-take (x ∷ xs) zero = refl
slice-take (x ∷ xs) (suc n) = slice-take xs n

slice-take-one : (xs : List Entry) (n : ℕ) → slice_get (take (n + 1) xs) n ≡ slice_get xs n
slice-take-one xs n = ap (λ (k : ℕ). slice_get (take k xs) n) (add-one n) ∙ slice-take xs n

-- The entries past a history.

module _ (H page : List Entry) (place : ℕ) (le : place ≤ length H) where
  pub is-past : (past : List Entry) (n : ℕ) → n ≡ length (drop place H) → past ≡ drop (min n (length page)) page
      → take n page ≡ take (length page) (drop place H) → IsPast H (place + 1) page past
  is-past past n size is same =
      let less : place + 1 - 1 ≡ place = omega arith in
      let long : n ≡ length H - place = size ∙ length-drop place H in
      record {
        begins = omega (arith, le);
        is = is ∙ drop-shorter n page ∙ ap (λ (k : ℕ). drop k page) long
            ∙ ap (λ (k : ℕ). drop (length H - k) page) (sym less);
        same = ap (λ (k : ℕ). take (length H - k) page) less ∙ ap (λ (k : ℕ). take k page) (sym long) ∙ same
            ∙ ap (λ (k : ℕ). take (length page) (drop k H)) (sym less);
      }

  -- the first entry that differs
  module _ (i : ℕ) (d : Entry) (within : i < length (drop place H)) (there : i < length page)
      (before : take i page ≡ take i (drop place H))
      (differs : slice_get page i ≡ slice_get (drop place H) i → ⊥) where
    size : length (take i page) ≡ i
    size = length-take-le i page (omega (arith, there))

    far : i < length H - place
    far = omega (arith, length-drop place H, within)

    fits : MayBeHeld H → GoesWith H place (take i page)
    fits may = record {
      same = take_all (length H - place) (take i page) (omega (arith, size, far))
          ∙ before ∙ ap (λ (n : ℕ). take n (drop place H)) (sym size);
      legal = subst (λ (l : List Entry). MayBeHeld (H ++ l))
          (sym (drop-nothing (length H - place) (take i page) (omega (arith, size, far)))) (may-none H may);
    }

    misfit : GoesWith H place (take i page ++ get_or page i d ∷ []) → ⊥
    misfit goes =
        let more : take (i + 1) page ≡ take i page ++ get_or page i d ∷ [] = take_more page i d there in
        let long : length (take i page ++ get_or page i d ∷ []) ≡ i + 1 =
        omega (arith, length-append (take i page) (get_or page i d ∷ []), size) in
        let same : take (i + 1) page ≡ take (i + 1) (drop place H) =
        more
        ∙ sym (take_all (length H - place) (take i page ++ get_or page i d ∷ []) (omega (arith, long, far)))
        ∙ goes.same ∙ ap (λ (n : ℕ). take n (drop place H)) long in
        let one : slice_get page i ≡ slice_get (take (i + 1) page) i = sym (slice-take-one page i) in
        let two : slice_get (take (i + 1) (drop place H)) i ≡ slice_get (drop place H) i =
        slice-take-one (drop place H) i in
        differs (one ∙ ap (λ (l : List Entry). slice_get l i) same ∙ two)

    pub is-foreign : MayBeHeld H → IsForeignAt H place page (place + i)
    is-foreign may = record {
      before = take i page;
      entry = get_or page i d;
      behind = drop (i + 1) page;
      split = split-at page i d there;
      at = omega (arith, size);
      fits = fits may;
      misfit = misfit;
    }

-- The same by the number of the page's first entry.

pub past-of : (H page past : List Entry) (from n : ℕ) → 1 ≤ from → from ≤ length H + 1 → n ≡ length (drop (from - 1) H)
    → past ≡ drop (min n (length page)) page → take n page ≡ take (length page) (drop (from - 1) H)
    → IsPast H from page past
past-of H page past from n one far size is same =
    let number : from - 1 + 1 ≡ from = omega (arith, one) in
    subst (λ (k : ℕ). IsPast H k page past) number
    (is-past H page (from - 1) (omega (arith, one, far)) past n size is same)

pub none-of : (o : Option ℕ) → ((x : ℕ) → o ≡ Some x → ⊥) → o ≡ None
none-of None none = refl
none-of (Some x) none = absurd (none x refl)

entry-of : (xs : List Entry) (i : ℕ) → i < length xs → Entry
entry-of [] i below = absurd (omega (arith, below))
entry-of (x ∷ xs) i below = x

pub foreign-of : (H page : List Entry) (from i : ℕ) → 1 ≤ from → from ≤ length H + 1 → MayBeHeld H
    → i < length (drop (from - 1) H) → i < length page → take i page ≡ take i (drop (from - 1) H)
    → (slice_get page i ≡ slice_get (drop (from - 1) H) i → ⊥) → IsForeignAt H (from - 1) page (from - 1 + i)
foreign-of H page from i one far may within there before differs =
    is-foreign H page (from - 1) (omega (arith, one, far)) i (entry-of page i there) within there before differs may

-- What taking comes to, where nothing is pending.

abbrev pub CameTo : (from : ℕ) → (page : List Entry) → (old new : Held) → Result ℕ FollowFault → Type 0
CameTo from page old new result = (came : Came) × Answers came result × Takes came from page old new

pub came-refused : (from : ℕ) (page : List Entry) (old : Held) (f : FollowFault) → old.pending ≡ []
    → IsRefused old.history from page f → CameTo from page old old (Err f)
came-refused from page old (fault.Gap first have) none refused =
    (gap first have, (refl, refl), (inl refl, none, refused.0, refused.1, refused.2))
came-refused from page old (fault.Foreign p) none refused =
    (foreign p, refl, (inl refl, none, refused.0, refused.1))
came-refused from page old (fault.StoreFault a b) none refused = absurd refused
came-refused from page old (fault.Damaged o) none refused = absurd refused
came-refused from page old fault.NetFault none refused = absurd refused
came-refused from page old (fault.Peer s) none refused = absurd refused
came-refused from page old fault.Memory none refused = absurd refused

module _ (from : ℕ) (page past : List Entry) (old : Held) (one : 1 ≤ from) (none : old.pending ≡ [])
    (is : IsPast old.history from page past) where
  goes : MayBeHeld (old.history ++ past) → GoesWith old.history (from - 1) page
  goes may = record { same = is.same; legal = subst (λ (l : List Entry). MayBeHeld (old.history ++ l)) is.is may }

  pub came-none : past ≡ [] → MayBeHeld old.history → CameTo from page old old (Ok 0)
  came-none empty may =
      let left : entries_past old.history (from - 1) page ≡ [] = sym is.is ∙ empty in (
        stored 0,
        refl,
        (
          old.history,
          inl refl,
          is.begins,
          goes (subst (λ (l : List Entry). MayBeHeld (old.history ++ l)) (sym empty) (may-none old.history may)),
          sym (ap (λ (l : List Entry). old.history ++ l) left ∙ append-nil old.history),
          none,
          sym (ap length left),
        ),
      )

  pub came-stored : (tells : Bool) (place n : ℕ) (new : Held) → n ≡ length past
      → Stores tells place past old.history (Ok tt) new → CameTo from page old new (Ok n)
  came-stored tells place n new count stores = (
    stored n,
    refl,
    (
      old.history,
      inl refl,
      is.begins,
      goes stores.0,
      ap (λ (h : Held). h.history) stores.1 ∙ ap (λ (l : List Entry). old.history ++ l) is.is,
      ap (λ (h : Held). h.pending) stores.1,
      count ∙ ap length is.is,
    ),
  )

  -- an entry past the history is the first that can't come next
  module _ (i : ℕ) (stuck : IsStuckAt old.history past i) where
    past-some : 1 ≤ length past
    past-some = omega (arith, ap length stuck.split, length-append stuck.before (stuck.entry ∷ stuck.behind))

    past-long : length old.history - (from - 1) < length page
    past-long = omega (arith, ap length is.is, length-drop (length old.history - (from - 1)) page, past-some)

    over-size : length (take (length old.history - (from - 1)) page) ≡ length old.history - (from - 1)
    over-size = length-take-le (length old.history - (from - 1)) page (omega (arith, past-long))

    beside : take (length old.history - (from - 1)) page ≡ drop (from - 1) old.history
    beside = is.same ∙ take_all (length page) (drop (from - 1) old.history)
        (omega (arith, length-drop (from - 1) old.history, past-long))

    goes-front : (xs : List Entry) → MayBeHeld (old.history ++ xs)
        → GoesWith old.history (from - 1) (take (length old.history - (from - 1)) page ++ xs)
    goes-front xs may =
        let n = length old.history - (from - 1) in
        let begin : take n (take n page ++ xs) ≡ take n page = take_at (take n page) xs n over-size in
        let left : drop n (take n page ++ xs) ≡ xs =
        ap (λ (m : ℕ). drop m (take n page ++ xs)) (sym over-size) ∙ drop-append_seam (take n page) xs in
        record {
          same = begin ∙ beside ∙ sym (take_all (length (take n page ++ xs)) (drop (from - 1) old.history)
              (omega (arith, length-append (take n page) xs, over-size, length-drop (from - 1) old.history)));
          legal = subst (λ (l : List Entry). MayBeHeld (old.history ++ l)) (sym left) may;
        }

    legal-front : (xs : List Entry) → GoesWith old.history (from - 1) (take (length old.history - (from - 1)) page ++ xs)
        → MayBeHeld (old.history ++ xs)
    legal-front xs both =
        let n = length old.history - (from - 1) in
        let left : drop n (take n page ++ xs) ≡ xs =
        ap (λ (m : ℕ). drop m (take n page ++ xs)) (sym over-size) ∙ drop-append_seam (take n page) xs in
        subst (λ (l : List Entry). MayBeHeld (old.history ++ l)) left both.legal

    pub stuck-foreign : (p : ℕ) → p ≡ length old.history + i → IsForeignAt old.history (from - 1) page p
    stuck-foreign p at =
        let n = length old.history - (from - 1) in
        let i_is = stuck.at in
        let begins = is.begins in
        record {
          before = take n page ++ stuck.before;
          entry = stuck.entry;
          behind = stuck.behind;
          split = sym (take-append-drop n page) ∙ ap (λ (l : List Entry). take n page ++ l) (sym is.is ∙ stuck.split)
              ∙ sym (append_assoc (take n page) stuck.before (stuck.entry ∷ stuck.behind));
          at = omega (arith, at, i_is, over-size, length-append (take n page) stuck.before, begins, one);
          fits = goes-front stuck.before (may-by (old.history ++ stuck.before) stuck.fits);
          misfit = λ both. stuck.misfit (may-pushed (old.history ++ stuck.before) stuck.entry (subst MayBeHeld
              (sym (append_assoc old.history stuck.before (stuck.entry ∷ [])))
              (legal-front (stuck.before ++ stuck.entry ∷ [])
              (subst (λ (l : List Entry). GoesWith old.history (from - 1) l)
              (append_assoc (take n page) stuck.before (stuck.entry ∷ [])) both))));
        }

  pub came-missed : (tells : Bool) (place : ℕ) (new : Held) (f : FollowFault) → place ≡ length old.history → past ≢ []
      → Stores tells place past old.history (Err f) new → CameTo from page old new (Err f)
  came-missed tells place new (fault.Foreign p) at more stores =
      let history : new.history ≡ old.history = ap (λ (h : Held). h.history) stores.0 in (
        foreign p,
        refl,
        (
          inl history,
          ap (λ (h : Held). h.pending) stores.0,
          subst (λ (l : List Entry). from ≤ length l + 1) (sym history) is.begins,
          subst (λ (l : List Entry). IsForeignAt l (from - 1) page p) (sym history)
              (stuck-foreign stores.1 stores.3 p (stores.2 ∙ ap (λ (n : ℕ). n + stores.1) at)),
        ),
      )
  came-missed tells place new (fault.StoreFault a b) at more stores =
      let history : new.history ≡ old.history = ap (λ (h : Held). h.history) stores.1 in
      let pending : new.pending ≡ past = ap (λ (h : Held). h.pending) stores.1 in (
        undecided,
        tt,
        (
          inl history,
          subst (λ (l : List Entry). from ≤ length l + 1) (sym history) is.begins,
          subst (λ (l : List Entry). GoesWith l (from - 1) page) (sym history) (goes stores.0),
          pending ∙ is.is ∙ ap (λ (l : List Entry). entries_past l (from - 1) page) (sym history),
          λ empty. more (sym pending ∙ empty),
        ),
      )
  came-missed tells place new (fault.Damaged o) at more stores =
      (unstored, stores.1, (inl (ap (λ (h : Held). h.history) stores.2), ap (λ (h : Held). h.pending) stores.2))
  came-missed tells place new fault.Memory at more stores =
      (unstored, tt, (inl (ap (λ (h : Held). h.history) stores), ap (λ (h : Held). h.pending) stores))
  came-missed tells place new (fault.Gap a b) at more stores = absurd stores
  came-missed tells place new fault.NetFault at more stores = absurd stores
  came-missed tells place new (fault.Peer s) at more stores = absurd stores

-- After a repair.

pub came-unrepaired : (from : ℕ) (page : List Entry) (old new : Held) (f : FollowFault) → Repairs (Err f) old new
    → CameTo from page old new (Err f)
came-unrepaired from page old new (fault.StoreFault a b) repairs =
    (unrepaired, tt, (repairs.1, ap (λ (h : Held). h.history) repairs.2, ap (λ (h : Held). h.pending) repairs.2))
came-unrepaired from page old new (fault.Damaged o) repairs =
    (unrepaired, tt, (repairs.1, ap (λ (h : Held). h.history) repairs.2, ap (λ (h : Held). h.pending) repairs.2))
came-unrepaired from page old new fault.Memory repairs =
    (unrepaired, tt, (repairs.1, ap (λ (h : Held). h.history) repairs.2, ap (λ (h : Held). h.pending) repairs.2))
came-unrepaired from page old new (fault.Gap a b) repairs = absurd repairs.0
came-unrepaired from page old new (fault.Foreign p) repairs = absurd repairs.0
came-unrepaired from page old new fault.NetFault repairs = absurd repairs.0
came-unrepaired from page old new (fault.Peer s) repairs = absurd repairs.0

module _ (old mid : Held) (found : IsDecided old mid.history) (none : mid.pending ≡ []) where
  takes-on : (came : Came) (from : ℕ) (page : List Entry) (new : Held) → Takes came from page mid new
      → Takes came from page old new
  takes-on (stored count) from page new t =
      (t.0, decided-twice old mid t.0 found none t.1, t.2, t.3, t.4, t.5, t.6)
  takes-on (gap first have) from page new t = (decided-twice old mid new.history found none t.0, t.1, t.2, t.3, t.4)
  takes-on (foreign place) from page new t = (decided-twice old mid new.history found none t.0, t.1, t.2, t.3)
  takes-on unrepaired from page new t = absurd (t.0 none)
  takes-on undecided from page new t = (decided-twice old mid new.history found none t.0, t.1, t.2, t.3, t.4)
  takes-on unstored from page new t = (decided-twice old mid new.history found none t.0, t.1)

  pub came-on : (from : ℕ) (page : List Entry) (new : Held) (result : Result ℕ FollowFault)
      → CameTo from page mid new result → CameTo from page old new result
  came-on from page new result came = (came.0, came.1, takes-on came.0 from page new came.2)

  -- a repair that had nothing to do leaves what was held
  pub held-same : old.pending ≡ [] → mid ≡ old
  held-same empty = same-held mid old (history found) (none ∙ sym empty)
    where
      history : IsDecided old mid.history → mid.history ≡ old.history
      history (inl is) = is
      history (inr is) = is ∙ ap (λ (l : List Entry). old.history ++ l) empty ∙ append-nil old.history

      same-held : (a b : Held) → a.history ≡ b.history → a.pending ≡ b.pending → a ≡ b
      same-held a b one two =
          ap (λ (l : List Entry). with_pending l a.pending) one ∙ ap (λ (l : List Entry). with_pending b.history l) two

-- Causes.

pub cause-then : {T : Type 0} (r : Result T FollowFault) (start first mid last : ℕ) → start ≡ first → first ≤ mid
    → HasCountFrom start r mid last → HasCause r first last
cause-then (Ok x) start first mid last is low cause = tt
cause-then (Err (fault.StoreFault a b)) start first mid last is low cause =
    (cause.0 ∙ is, cause.1, rose-later first mid last low cause.2)
cause-then (Err (fault.Gap a b)) start first mid last is low cause = tt
cause-then (Err (fault.Foreign a)) start first mid last is low cause = tt
cause-then (Err (fault.Damaged a)) start first mid last is low cause = tt
cause-then (Err fault.NetFault) start first mid last is low cause = tt
cause-then (Err (fault.Peer a)) start first mid last is low cause = tt
cause-then (Err fault.Memory) start first mid last is low cause = tt

-- The first run that is due along the order of turns is the soonest.
use Rattle.std.proofs.Common.{◌≡◌, ◌≢◌, ℕ, true, List, [], ◌∷◌, Contains, Option, Some, None, refl, sym, ap, subst, inl, inr, ◌∙◌, ⊎_elim, arith}
use Rattle.std.specs.Option.{option_and_then, option_or}
use Rattle.std.proofs.lemmas.Bool.{cases_eq}
use Rattle.std.proofs.lemmas.Option.{none-some}
use Rattle.search_books.specs.Order.{has}
use Rattle.search_books.proofs.Lists.{has-rest}
use Rattle.farm_state.specs.WhoseTurn.{ComesBefore}
use Rattle.farm_state.proofs.TurnOrder.{the_turn}
use Rattle.farm_entry.specs.Due.{due, due_at, due_runs, next_run, soonest}
use Rattle.farm_entry.specs.History.{last_lease, opening_numbered, openings}
use Rattle.farm_entry.specs.Legal.{IsLegal}
use Rattle.farm_entry.specs.Standing.{is_active, standing}
use Rattle.farm_entry.specs.declared.entry.Entry.{Entry}
use Rattle.farm_entry.specs.declared.lease.DueRun.{DueRun}
use Rattle.farm_entry.specs.declared.lease.LeasedRun.{LeasedRun}
use Rattle.farm_entry.specs.declared.opening.Opening.{Opening}
use Rattle.farm_entry.specs.declared.standing.Standing.{Standing}
use Rattle.farm_entry.specs.declared.standing.Standing.TheVariants.{Searching, Verifying, Confirmed, Vindicated, NoCulprit, Inconclusive, Cancelled}
use Rattle.farm_laws.proofs.Lists.{contains-nil, filter_map-there, nil-filter_map}
use Rattle.farm_laws.proofs.Numbered.{opening-found, opening-there}
use Rattle.farm_state.specs.TurnOrder.{AreByTurns, IsTurnOrder, due_in_search, first_due}

-- What is due in the search with a number.

-- what is made of what is there
record MadeOf {X Y : Type 0} (f : X → Option Y) (n : Option X) (y : Y) : Type 0 where
  from : X
  there : n ≡ Some from
  makes : f from ≡ Some y

made-of : {X Y : Type 0} (f : X → Option Y) (n : Option X) (y : Y) → option_and_then f n ≡ Some y → MadeOf f n y
made-of f None y h = absurd (none-some y h)
made-of f (Some x) y h = record { from = x; there = refl; makes = h }

-- only an active search has a run that is due
pub due-active : (s : Standing) (H : List Entry) (o : Opening) (m : ℕ) (d : DueRun) → due_at s H o m ≡ Some d →
    is_active s ≡ true
due-active Searching H o m d h = refl
due-active (Verifying c) H o m d h = refl
due-active (Confirmed c) H o m d h = absurd (none-some d h)
due-active (Vindicated c) H o m d h = absurd (none-some d h)
due-active NoCulprit H o m d h = absurd (none-some d h)
due-active Inconclusive H o m d h = absurd (none-some d h)
due-active Cancelled H o m d h = absurd (none-some d h)

due-by_number : (H : List Entry) (o : Opening) (m : ℕ) → IsLegal H → Contains (openings H) o →
    due_in_search H o.search m ≡ due H o m
due-by_number H o m legal there =
    let made : Option Opening → Option DueRun = option_and_then (λ (x : Opening). due H x m) in
    ap made (opening-found H o legal there)

-- a search with a run that is due stands in the order
in-order : (H : List Entry) (o : Opening) (m : ℕ) (d : DueRun) (order : List ℕ) → IsTurnOrder H order →
    Contains (openings H) o → due H o m ≡ Some d → has o.search order ≡ true
in-order H o m d order turns there is = turns.all o there (due-active (standing H o) H o m d is)

-- The first that is due along the order.

record IsFirstDue (H : List Entry) (m : ℕ) (order : List ℕ) (d : DueRun) : Type 0 where
  opening : Opening
  there : Contains (openings H) opening
  is_due : due H opening m ≡ Some d
  first : (t : ℕ) (other : DueRun) → has t order ≡ true → due_in_search H t m ≡ Some other →
      ComesBefore H opening.search t

first-later : (H : List Entry) (m s : ℕ) (rest : List ℕ) (d : DueRun) → due_in_search H s m ≡ None →
    IsFirstDue H m rest d → IsFirstDue H m (s ∷ rest) d
first-later H m s rest d none later = record {
  opening = later.opening;
  there = later.there;
  is_due = later.is_due;
  first = λ t other has_t is.
      ⊎_elim
      (λ (same : t ≡ s).
      absurd (none-some other (sym none ∙ ap (λ (n : ℕ). due_in_search H n m) (sym same) ∙ is)))
      (λ (ne : t ≢ s). later.first t other (sym (has-rest t s rest ne) ∙ has_t) is)
      (cases_eq t s);
}

same-before : (H : List Entry) (s t : ℕ) → s ≡ t → ComesBefore H s t
same-before H s t same = inr (ap (last_lease H) same, omega (arith, same))

first-here : (H : List Entry) (m s : ℕ) (rest : List ℕ) (d : DueRun) →
    ((t : ℕ) → has t rest ≡ true → ComesBefore H s t) →
    MadeOf (λ (o : Opening). due H o m) (opening_numbered H s) d → IsFirstDue H m (s ∷ rest) d
first-here H m s rest d before made =
    let at : Contains (openings H) made.from × (made.from.search ≡ s) = opening-there H s made.from made.there in
    record {
      opening = made.from;
      there = at.0;
      is_due = made.makes;
      first = λ t other has_t is.
          subst (λ (n : ℕ). ComesBefore H n t) (sym at.1)
          (⊎_elim
          (λ (same : t ≡ s). same-before H s t (sym same))
          (λ (ne : t ≢ s). before t (sym (has-rest t s rest ne) ∙ has_t))
          (cases_eq t s));
    }

first-if : (H : List Entry) (m s : ℕ) (rest : List ℕ) (d : DueRun) (n : Option DueRun) → due_in_search H s m ≡ n →
    ((t : ℕ) → has t rest ≡ true → ComesBefore H s t) → (first_due H m rest ≡ Some d → IsFirstDue H m rest d) →
    option_or n (first_due H m rest) ≡ Some d → IsFirstDue H m (s ∷ rest) d
first-if H m s rest d None e before later h = first-later H m s rest d e (later h)
first-if H m s rest d (Some x) e before later h =
    first-here H m s rest d before (made-of (λ (o : Opening). due H o m) (opening_numbered H s) d (e ∙ h))

first-along : (H : List Entry) (m : ℕ) (order : List ℕ) (d : DueRun) → AreByTurns H order →
    first_due H m order ≡ Some d → IsFirstDue H m order d
first-along H m [] d turns h = absurd (none-some d h)
first-along H m (s ∷ rest) d turns h =
    first-if H m s rest d (due_in_search H s m) refl turns.0 (first-along H m rest d turns.1) h

-- Of two searches that come before each other the numbers are the same.
before-both : (H : List Entry) (s t : ℕ) → ComesBefore H s t → ComesBefore H t s → s ≡ t
before-both H s t (inl less) (inl more) = absurd (omega (arith, less, more))
before-both H s t (inl less) (inr more) = absurd (omega (arith, less, more.0))
before-both H s t (inr less) (inl more) = absurd (omega (arith, less.0, more))
before-both H s t (inr less) (inr more) = omega (arith, less.1, more.1)

-- Where one is due along the order, it is the next run.

soonest-nil : (H : List Entry) (ds : List DueRun) → soonest H ds ≡ None → ds ≡ []
soonest-nil H [] h = refl
soonest-nil H (d ∷ ds) h = absurd (none-some _ (sym h))

abbrev lease_as : DueRun → LeasedRun
lease_as d = record { run = 0; search = d.search; stage = d.stage; position = d.position; deadline = 0 }

same-opening : (H : List Entry) (o p : Opening) → IsLegal H → Contains (openings H) o → Contains (openings H) p →
    o.search ≡ p.search → Some o ≡ Some p
same-opening H o p legal at there same =
    sym (opening-found H o legal at) ∙ ap (opening_numbered H) same ∙ opening-found H p legal there

next-some : (H : List Entry) (m : ℕ) (order : List ℕ) (d : DueRun) (n : Option DueRun) → IsLegal H →
    IsTurnOrder H order → IsFirstDue H m order d → next_run H m ≡ n → n ≡ Some d
next-some H m order d None legal turns found h =
    let there : Contains (due_runs H m) d =
    filter_map-there (λ (o : Opening). due H o m) (openings H) found.opening d found.there found.is_due in
    absurd (contains-nil d (subst (λ (ds : List DueRun). Contains ds d) (soonest-nil H (due_runs H m) h) there))
next-some H m order d (Some x) legal turns found h =
    let turn = the_turn H m (lease_as x) legal h in
    let o = turn.opening in
    let after : ComesBefore H o.search found.opening.search =
    subst (λ (s : ℕ). ComesBefore H s found.opening.search) turn.of_search
    (turn.first found.opening d found.there found.is_due) in
    let before : ComesBefore H found.opening.search o.search =
    found.first o.search x (in-order H o m x order turns turn.there turn.is_due)
    (due-by_number H o m legal turn.there ∙ turn.is_due) in
    let same = same-opening H o found.opening legal turn.there found.there (before-both H _ _ after before) in
    let made : Option Opening → Option DueRun = option_and_then (λ (y : Opening). due H y m) in
    sym turn.is_due ∙ ap made same ∙ found.is_due

-- Where none is due along the order, none is due.

none-if : (n rest : Option DueRun) → option_or n rest ≡ None → (n ≡ None) × (rest ≡ None)
none-if None rest h = (refl, h)
none-if (Some d) rest h = absurd (none-some d (sym h))

none-along : (H : List Entry) (m : ℕ) (order : List ℕ) → first_due H m order ≡ None → (t : ℕ) → has t order ≡ true →
    due_in_search H t m ≡ None
none-along H m [] h t has_t = cc
none-along H m (s ∷ rest) h t has_t =
    let parts = none-if (due_in_search H s m) (first_due H m rest) h in
    ⊎_elim
    (λ (same : t ≡ s). ap (λ (n : ℕ). due_in_search H n m) same ∙ parts.0)
    (λ (ne : t ≢ s). none-along H m rest parts.1 t (sym (has-rest t s rest ne) ∙ has_t))
    (cases_eq t s)

undue : (H : List Entry) (m : ℕ) (order : List ℕ) (o : Opening) (n : Option DueRun) → IsLegal H →
    IsTurnOrder H order → ((t : ℕ) → has t order ≡ true → due_in_search H t m ≡ None) → Contains (openings H) o →
    due H o m ≡ n → n ≡ None
undue H m order o None legal turns none there e = refl
undue H m order o (Some d) legal turns none there e =
    absurd (none-some d
    (sym (none o.search (in-order H o m d order turns there e)) ∙ due-by_number H o m legal there ∙ e))

pub none-next : (H : List Entry) (m : ℕ) (order : List ℕ) → IsLegal H → IsTurnOrder H order →
    ((t : ℕ) → has t order ≡ true → due_in_search H t m ≡ None) → next_run H m ≡ None
none-next H m order legal turns none =
    ap (soonest H) (nil-filter_map (λ (o : Opening). due H o m) (openings H)
    (λ o there. undue H m order o (due H o m) legal turns none there refl))

-- So the next run is the first that is due along the order.

next-if : (H : List Entry) (m : ℕ) (order : List ℕ) (n : Option DueRun) → IsLegal H → IsTurnOrder H order →
    first_due H m order ≡ n → next_run H m ≡ n
next-if H m order None legal turns h = none-next H m order legal turns (none-along H m order h)
next-if H m order (Some d) legal turns h =
    next-some H m order d (next_run H m) legal turns (first-along H m order d turns.by_turns h) refl

pub next-first : (H : List Entry) (m : ℕ) (order : List ℕ) → IsLegal H → IsTurnOrder H order →
    next_run H m ≡ first_due H m order
next-first H m order legal turns = next-if H m order (first_due H m order) legal turns refl

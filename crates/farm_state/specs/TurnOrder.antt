-- The order of turns, in which the active searches of a history are asked for a run, and what is due along it.
use Rattle.std.specs.Prelude.{ℕ, ◌≡◌, ◌<◌, ◌⊎◌, true, cond, nat_eq, List, [], ◌∷◌, Contains, Option, None, ⊤}
use Rattle.std.specs.Option.{option_and_then, option_or}
use Rattle.search_books.specs.Order.{has, IsOnce}
use Rattle.farm_state.specs.WhoseTurn.{ComesBefore}
use Rattle.farm_entry.specs.Due.{due}
use Rattle.farm_entry.specs.History.{last_lease, opening_numbered, openings}
use Rattle.farm_entry.specs.Standing.{is_active, standing}
use Rattle.farm_entry.specs.declared.entry.Entry.{Entry}
use Rattle.farm_entry.specs.declared.lease.DueRun.{DueRun}
use Rattle.farm_entry.specs.declared.opening.Opening.{Opening}

-- a number is that of an active search
pub record IsOfActive (H : List Entry) (number : ℕ) : Type 0 where
  pub opening : Opening
  pub there : Contains (openings H) opening
  pub numbered : opening.search ≡ number
  pub active : is_active (standing H opening) ≡ true

-- each search comes before those behind it
abbrev pub AreByTurns : List Entry → List ℕ → Type 0
AreByTurns H [] = ⊤
AreByTurns H (s ∷ rest) = ((t : ℕ) → has t rest ≡ true → ComesBefore H s t) × AreByTurns H rest

-- a list is the order of turns: exactly the active searches, each once, those never leased first by number, and then
-- the others by the places of their last leases
pub record IsTurnOrder (H : List Entry) (order : List ℕ) : Type 0 where
  pub once : IsOnce order
  pub all : (o : Opening) → Contains (openings H) o → is_active (standing H o) ≡ true → has o.search order ≡ true
  pub only : (search : ℕ) → has search order ≡ true → IsOfActive H search
  pub by_turns : AreByTurns H order

-- two lists are the order of turns in its two parts: the active searches that were never leased, and the others
pub record AreTurns (H : List Entry) (never leased : List ℕ) : Type 0 where
  pub never_once : IsOnce never
  pub leased_once : IsOnce leased
  pub fresh : (search : ℕ) → has search never ≡ true → last_lease H search ≡ 0
  pub waiting : (search : ℕ) → has search leased ≡ true → 0 < last_lease H search
  pub all : (o : Opening) → Contains (openings H) o → is_active (standing H o) ≡ true →
      (has o.search never ≡ true) ⊎ (has o.search leased ≡ true)
  pub only : (search : ℕ) → (has search never ≡ true) ⊎ (has search leased ≡ true) → IsOfActive H search
  pub never_by_turns : AreByTurns H never
  pub leased_by_turns : AreByTurns H leased

-- the run that is due at a moment in the search with a number
abbrev pub due_in_search : List Entry → (search moment : ℕ) → Option DueRun
due_in_search H search moment = option_and_then (λ o. due H o moment) (opening_numbered H search)

-- the first run that is due along a list of searches
abbrev pub first_due : List Entry → (moment : ℕ) → (order : List ℕ) → Option DueRun
first_due H moment [] = None
first_due H moment (s ∷ rest) = option_or (due_in_search H s moment) (first_due H moment rest)

-- a list from a search on
abbrev pub from_on : (search : ℕ) → List ℕ → List ℕ
from_on search [] = []
from_on search (x ∷ rest) = cond (nat_eq search x) (x ∷ rest) (from_on search rest)

-- the first run that is due from a search on
abbrev pub first_due_from : List Entry → (moment search : ℕ) → (order : List ℕ) → Option DueRun
first_due_from H moment search order = first_due H moment (from_on search order)

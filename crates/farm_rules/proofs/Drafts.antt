-- What it says of a request for the next order that it is answered so.
use Rattle.std.proofs.Common.{◌≡◌, ℕ, ◌+◌, ◌<◌, ◌≤◌, Bool, true, false, not, nat_lt, List, Option, Some, None, Ok, Err, if◌then◌else◌, refl, subst}
use Rattle.std.proofs.lemmas.Bool.{ltb-true, ltb-false, not-true}
use Rattle.std.proofs.lemmas.List.Elements.{All-contains_itself, All-filter, filter_passes}
use Rattle.std.specs.List.{Contains}
use Rattle.farm_rules.specs.Orders.{Ordered, candidates, draft_for, draft_of, earliest, has_order, next_draft, orders_of}
use Rattle.farm_rules.specs.NextOrder.{IsNextOrder}
use Rattle.farm_rules.specs.declared.orders.Candidate.{Candidate}
use Rattle.farm_rules.specs.declared.orders.Draft.{Draft}
use Rattle.farm_rules.specs.declared.orders.NoOrder.TheVariants.{DailyLimit, NoRevert}
use Rattle.farm_rules.proofs.Earliest.{earliest-all, earliest-least}

-- what a draft says of the search that it is for
pub record IsDraftOf (best : Option Candidate) (order day limit count : ℕ) (d : Draft) : Type 0 where
  pub is : best ≡ Some (record { search = d.search; commit = d.commit })
  pub numbered : d.order ≡ order
  pub dated : d.day ≡ day
  pub room : count < limit

pub draft_of-ok : (best : Option Candidate) (order day limit count : ℕ) (d : Draft) → draft_of best order day limit count ≡ Ok d →
    IsDraftOf best order day limit count d
draft_of-ok None order day limit count d is = absurd (cc)
draft_of-ok (Some c) order day limit count d is = by (nat_lt count limit) refl is
  where
    by : (b : Bool) → nat_lt count limit ≡ b → (if b then Ok (draft_for c order day) else Err (DailyLimit day count)) ≡ Ok d →
        IsDraftOf (Some c) order day limit count d
    by true test same =
        let here : draft_for c order day ≡ d = cc in
        subst (IsDraftOf (Some c) order day limit count) here
        (record { is = refl; numbered = refl; dated = refl; room = ltb-true count limit test })
    by false test same = absurd (cc)

-- the search that gets an order is a confirmed one without an order, none of these has a smaller number, and its day
-- has room
pub next_draft-ok : (searches : List Candidate) (orders : List Ordered) (given day limit : ℕ) (d : Draft) →
    next_draft searches orders given day limit ≡ Ok d → IsNextOrder searches orders given day limit d
next_draft-ok searches orders given day limit d is =
    let left = candidates searches orders in
    let free : Candidate → Bool = λ c. not (has_order orders c.commit) in
    let found = draft_of-ok (earliest left) (given + 1) day limit (orders_of day orders) d is in
    let best : Candidate = record { search = d.search; commit = d.commit } in
    record {
      confirmed = earliest-all (Contains searches) left best (All-filter free (Contains searches) searches (All-contains_itself searches)) found.is;
      free = not-true _ (earliest-all (λ (x : Candidate). free x ≡ true) left best (filter_passes free searches) found.is);
      first = earliest-least left best found.is;
      numbered = found.numbered;
      dated = found.dated;
      room = found.room;
    }

draft_of-full : (best : Option Candidate) (order day limit count day' count' : ℕ) →
    draft_of best order day limit count ≡ Err (DailyLimit day' count') → (day' ≡ day) × (count' ≡ count) × (limit ≤ count)
draft_of-full None order day limit count day' count' is = (cc, cc, cc)
draft_of-full (Some c) order day limit count day' count' is = by (nat_lt count limit) refl is
  where
    by : (b : Bool) → nat_lt count limit ≡ b → (if b then Ok (draft_for c order day) else Err (DailyLimit day count)) ≡ Err (DailyLimit day' count') →
        (day' ≡ day) × (count' ≡ count) × (limit ≤ count)
    by true test same = (cc, cc, cc)
    by false test same = (cc, cc, ltb-false count limit test)

-- a day whose orders are as many as its limit
pub next_draft-full : (searches : List Candidate) (orders : List Ordered) (given day limit day' count : ℕ) →
    next_draft searches orders given day limit ≡ Err (DailyLimit day' count) → (day' ≡ day) × (count ≡ orders_of day orders) × (limit ≤ orders_of day orders)
next_draft-full searches orders given day limit day' count is =
    draft_of-full (earliest (candidates searches orders)) (given + 1) day limit (orders_of day orders) day' count is

draft_of-none : (best : Option Candidate) (order day limit count : ℕ) → draft_of best order day limit count ≡ Err NoRevert → best ≡ None
draft_of-none None order day limit count is = refl
draft_of-none (Some c) order day limit count is = by (nat_lt count limit) is
  where
    by : (b : Bool) → (if b then Ok (draft_for c order day) else Err (DailyLimit day count)) ≡ Err NoRevert → Some c ≡ None
    by true same = cc
    by false same = cc

-- no confirmed search is left without an order
pub next_draft-none : (searches : List Candidate) (orders : List Ordered) (given day limit : ℕ) →
    next_draft searches orders given day limit ≡ Err NoRevert → earliest (candidates searches orders) ≡ None
next_draft-none searches orders given day limit is =
    draft_of-none (earliest (candidates searches orders)) (given + 1) day limit (orders_of day orders) is

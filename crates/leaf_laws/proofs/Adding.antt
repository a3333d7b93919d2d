-- What the totals add up to.
use Rattle.std.proofs.Common.{◌≡◌, ◌≢◌, ℕ, ◌+◌, ◌≤◌, cond, List, [], ◌∷◌, length, map, filter, count_by, Contains, All, AllPairs, refl, ap, arith}
use Rattle.std.proofs.lemmas.Bool.{eqb-true}
use Rattle.std.proofs.lemmas.Bool.Decides.{Decides-eqb}
use Rattle.std.proofs.lemmas.Cmp.{nat_eq_equiv}
use Rattle.std.proofs.lemmas.List.Elements.{All-contains, All-map}
use Rattle.std.proofs.lemmas.List.Sums.{length-filter}
use Rattle.std.proofs.lemmas.List.{length-map}
use Rattle.std.proofs.lemmas.Map.Made.{IsDistinct-from_AllPairs, length-le_from_is_member}
use Rattle.std.proofs.lemmas.Map.Views.{Contains-from_any, list_any-from_Contains}
use Rattle.farm_entry.specs.History.{openings, order_lines}
use Rattle.farm_entry.specs.Legal.{IsLegal}
use Rattle.farm_entry.specs.Pages.{is_ended_otherwise, totals}
use Rattle.farm_entry.specs.Standing.{is_confirmed, is_searching, is_verifying, standing}
use Rattle.farm_entry.specs.declared.entry.Entry.{Entry}
use Rattle.farm_entry.specs.declared.opening.Opening.{Opening}
use Rattle.farm_entry.specs.declared.order_page.OrderLine.{OrderLine}
use Rattle.farm_entry.specs.declared.standing.Standing.{Standing}
use Rattle.farm_entry.specs.declared.standing.Standing.TheVariants.{Searching, Verifying, Confirmed, Vindicated, NoCulprit, Inconclusive, Cancelled}
use Rattle.farm_laws.proofs.Counts.{count_by-cons}
use Rattle.leaf_laws.proofs.Culprits.{AllPairs-parts, IsForCulprit, orders-for_culprits, part-there, searches-differ}
use Rattle.farm_laws.proofs.Filters.{All-imp}
use Rattle.farm_laws.proofs.Lists.{filter-there}
use Rattle.farm_laws.proofs.Counting.{stands}

-- each standing passes one of the four tests
one-test : (s : Standing) → cond (is_searching s) 1 0 + cond (is_verifying s) 1 0 + cond (is_confirmed s) 1 0 + cond
    (is_ended_otherwise s) 1 0 ≡ 1
one-test Searching = refl
one-test (Verifying c) = refl
one-test (Confirmed c) = refl
one-test (Vindicated c) = refl
one-test NoCulprit = refl
one-test Inconclusive = refl
one-test Cancelled = refl

four-counts : (H : List Entry) (os : List Opening) →
    count_by (stands is_searching H) os + count_by (stands is_verifying H) os + count_by (stands is_confirmed H) os
    + count_by (stands is_ended_otherwise H) os ≡ length os
four-counts H [] = refl
four-counts H (o ∷ os) =
    omega (
      arith,
      four-counts H os,
      one-test (standing H o),
      count_by-cons (stands is_searching H) o os,
      count_by-cons (stands is_verifying H) o os,
      count_by-cons (stands is_confirmed H) o os,
      count_by-cons (stands is_ended_otherwise H) o os,
    )

pub standings-add_up : (H : List Entry) →
    (totals H).searching + (totals H).verifying + (totals H).confirmed + (totals H).ended ≡ (totals H).searches
standings-add_up H = four-counts H (openings H)

-- the search of each order is one whose culprit is confirmed
each-confirmed : (H : List Entry) → IsLegal H →
    All (λ (x : OrderLine). Contains (map (λ (o : Opening). o.search) (filter (stands is_confirmed H)
    (openings H))) x.search) (order_lines H)
each-confirmed H legal =
    All-imp (λ (x : OrderLine). IsForCulprit H x.search x.commit)
    (λ (x : OrderLine). Contains (map (λ (o : Opening). o.search) (filter (stands is_confirmed H)
    (openings H))) x.search) (order_lines H)
    (λ x for. part-there (λ (o : Opening). o.search) (filter (stands is_confirmed H) (openings H)) for.opening x.search
    (filter-there (stands is_confirmed H) (openings H) for.opening for.there (ap is_confirmed for.stands)) for.number)
    (orders-for_culprits H legal)

pub orders-confirmed : (H : List Entry) → IsLegal H → (totals H).orders ≤ (totals H).confirmed
orders-confirmed H legal =
    let sure : List Opening = filter (stands is_confirmed H) (openings H) in
    let of_orders : List ℕ = map (λ (x : OrderLine). x.search) (order_lines H) in
    let of_sure : List ℕ = map (λ (o : Opening). o.search) sure in
    let differ : AllPairs (λ (a b : ℕ). a ≢ b) of_orders = AllPairs-parts (λ (x : OrderLine).
    x.search) (order_lines H) (searches-differ H legal) in
    let each : All (Contains of_sure) of_orders =
    All-map (Contains of_sure) (λ (x : OrderLine). x.search) (order_lines H) (each-confirmed H legal) in
    let few : length of_orders ≤ length of_sure =
    length-le_from_is_member nat_eq_equiv of_orders of_sure (IsDistinct-from_AllPairs Decides-eqb of_orders differ)
    (λ q is. list_any-from_Contains nat_eq_equiv q of_sure
    (All-contains (Contains of_sure) of_orders q each (Contains-from_any (λ x y e. eqb-true x y e) q of_orders is))) in
    omega (
      arith,
      few,
      length-map (order_lines H) (λ (x : OrderLine). x.search),
      length-map sure (λ (o : Opening). o.search),
      length-filter (stands is_confirmed H) (openings H),
    )

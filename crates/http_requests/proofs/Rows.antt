-- What a request can come to by its method and path, for whatever is to be said of it: a case each for the rows of the
-- path table stands here alone.
use Rattle.std.proofs.Common.{ℕ, ◌≡◌, ◌≤◌, Bool, true, false, if◌then◌else◌, List, Option, Some, None, Result, Ok, Err, refl}
use Rattle.http_requests.proofs.PathNumbers.{path_number-positive}
use Rattle.http_requests.specs.Paths.{path_of}
use Rattle.http_requests.specs.Routes.{allow_of, allows, endpoint_at, endpoint_by, endpoint_of, number_at, numbered, numbered_twice, page_of, text_at}
use Rattle.http_requests.specs.declared.numbers.TheConstants.{FIRST_NUMBER, SECOND_NUMBER}
use Rattle.http_requests.specs.declared.page.Page.{Page}
use Rattle.http_requests.specs.declared.page.Page.TheVariants as page
use Rattle.http_words.specs.declared.endpoint.Endpoint.{Endpoint}
use Rattle.http_words.specs.declared.endpoint.Endpoint.TheVariants as endpoint
use Rattle.http_words.specs.declared.fault.Allow.{Allow}
use Rattle.http_words.specs.declared.fault.Allow.TheVariants as allow
use Rattle.http_words.specs.declared.fault.Fault.{Fault}
use Rattle.http_words.specs.declared.fault.Fault.TheVariants as fault
use Rattle.http_words.specs.declared.fault.PathField.{PathField}
use Rattle.http_words.specs.declared.route.Route.{Route}
use Rattle.http_words.specs.declared.route.Route.TheVariants as route

-- the methods by which a route is asked for
abbrev pub route_allow : Route → Allow
route_allow (route.Search search) = allow.GetAndHead
route_allow (route.Runs search from) = allow.GetAndHead
route_allow (route.List from) = allow.GetAndHead
route_allow route.Farm = allow.GetAndHead
route_allow route.Orders = allow.GetAndHead
route_allow _ = allow.Post

-- what is to be shown so that it holds of whatever this method asks for
pub record Covers (method : List ℕ) (P : Result Endpoint Fault → Type 0) : Type 0 where
  pub command : (r : Route) → allows (route_allow r) method ≡ true → P (Ok (endpoint.Command r))
  pub totals : P (Ok endpoint.Totals)
  pub log : (from : ℕ) → 1 ≤ from → P (Ok (endpoint.Log from))
  pub not_found : P (Err fault.NotFound)
  pub not_allowed : (methods : Allow) → P (Err (fault.MethodNotAllowed methods))
  pub bad_field : (name : PathField) → P (Err (fault.BadField name))

numbered-holds : (P : Result Endpoint Fault → Type 0) (name : PathField) (make : ℕ → Endpoint) (o : Option ℕ)
    → ((f : PathField) → P (Err (fault.BadField f))) → ((n : ℕ) → o ≡ Some n → P (Ok (make n)))
    → P (numbered name make o)
numbered-holds P name make None bad some = bad name
numbered-holds P name make (Some n) bad some = some n refl

twice-holds : (P : Result Endpoint Fault → Type 0) (first second : PathField) (make : ℕ → ℕ → Endpoint)
    (o p : Option ℕ) → ((f : PathField) → P (Err (fault.BadField f))) → ((n m : ℕ) → P (Ok (make n m)))
    → P (numbered_twice first second make o p)
twice-holds P first second make None p bad some = bad first
twice-holds P first second make (Some n) p bad some = numbered-holds P second (make n) p bad (λ m is. some n m)

-- of a row that allows the method
row-holds : (P : Result Endpoint Fault → Type 0) (method : List ℕ) (row : Page) (path : List ℕ) → Covers method P
    → allows (allow_of row) method ≡ true → P (endpoint_at row path)
row-holds P method page.Searches path all allowed = all.command route.Open allowed
row-holds P method page.Leases path all allowed = all.command route.Lease allowed
row-holds P method page.Report path all allowed =
    numbered-holds P _ _ (number_at FIRST_NUMBER path) all.bad_field (λ n is. all.command (route.Report n) allowed)
row-holds P method page.Cancel path all allowed =
    numbered-holds P _ _ (number_at FIRST_NUMBER path) all.bad_field (λ n is. all.command (route.Cancel n) allowed)
row-holds P method page.Reverts path all allowed = all.command route.Revert allowed
row-holds P method page.Search path all allowed =
    numbered-holds P _ _ (number_at FIRST_NUMBER path) all.bad_field (λ n is. all.command (route.Search n) allowed)
row-holds P method page.Runs path all allowed =
    twice-holds P _ _ _ (number_at FIRST_NUMBER path) (number_at SECOND_NUMBER path) all.bad_field
    (λ n m. all.command (route.Runs n m) allowed)
row-holds P method page.List path all allowed =
    numbered-holds P _ _ (number_at FIRST_NUMBER path) all.bad_field (λ n is. all.command (route.List n) allowed)
row-holds P method page.Farm path all allowed = all.command route.Farm allowed
row-holds P method page.Orders path all allowed = all.command route.Orders allowed
row-holds P method page.Totals path all allowed = all.totals
row-holds P method page.Log path all allowed =
    numbered-holds P _ _ (number_at FIRST_NUMBER path) all.bad_field
    (λ n is. all.log n (path_number-positive (text_at FIRST_NUMBER path) n is))

allowed-holds : (P : Result Endpoint Fault → Type 0) (method : List ℕ) (b : Bool) (row : Page) (path : List ℕ)
    → Covers method P → allows (allow_of row) method ≡ b
    → P (if b then endpoint_at row path else Err (fault.MethodNotAllowed (allow_of row)))
allowed-holds P method true row path all is = row-holds P method row path all is
allowed-holds P method false row path all is = all.not_allowed (allow_of row)

by-holds : (P : Result Endpoint Fault → Type 0) (method : List ℕ) (o : Option Page) (path : List ℕ) → Covers method P
    → P (endpoint_by o path method)
by-holds P method None path all = all.not_found
by-holds P method (Some row) path all = allowed-holds P method (allows (allow_of row) method) row path all refl

pub endpoint_of-holds : (P : Result Endpoint Fault → Type 0) (method target : List ℕ) → Covers method P
    → P (endpoint_of method target)
unfolding endpoint_of
endpoint_of-holds P method target all = by-holds P method (page_of (path_of target)) (path_of target) all

-- What a request asks for by its method and path.
use Rattle.std.specs.Prelude.{ℕ, ◌^◌, ◌-◌, Bool, ◌&&◌, ◌||◌, List, [], ◌∷◌, Option, Some, None, Result, Ok, Err, nat_le, nat_lt, codes, bytes_eq, if◌then◌else◌}
use Rattle.std.specs.List.{slice_index_or}
use Rattle.common_types.specs.Decimals.{number}
use Rattle.http_requests.specs.Paths.{path_of}
use Rattle.http_requests.specs.declared.numbers.TheConstants.{FIRST_NUMBER, SECOND_NUMBER}
use Rattle.http_requests.specs.declared.page.Page.{Page}
use Rattle.http_requests.specs.declared.page.Page.TheVariants as page
use Rattle.http_words.specs.declared.endpoint.Endpoint.{Endpoint}
use Rattle.http_words.specs.declared.endpoint.Endpoint.TheVariants as endpoint
use Rattle.http_words.specs.declared.fault.Allow.{Allow}
use Rattle.http_words.specs.declared.fault.Allow.TheVariants as allow
use Rattle.http_words.specs.declared.fault.Fault.{Fault}
use Rattle.http_words.specs.declared.fault.Fault.TheVariants as fault
use Rattle.http_words.specs.declared.fault.PathField.{PathField}
use Rattle.http_words.specs.declared.fault.PathField.TheVariants as field
use Rattle.http_words.specs.declared.route.Route.TheVariants as route
use Rattle.http_requests.specs.Segments.{Segment, literal, parameter, parts, row_in}

-- a pattern below `/v1/`
abbrev pub below : List Segment → List Segment
below segments = literal [] ∷ literal (codes "v1") ∷ segments

-- the path table
abbrev pub path_table : List (List Segment × Page)
path_table =
    (below (literal (codes "searches") ∷ []), page.Searches)
    ∷ (below (literal (codes "leases") ∷ []), page.Leases)
    ∷ (below (literal (codes "runs") ∷ parameter ∷ literal (codes "report") ∷ []), page.Report)
    ∷ (below (literal (codes "searches") ∷ parameter ∷ literal (codes "cancel") ∷ []), page.Cancel)
    ∷ (below (literal (codes "reverts") ∷ []), page.Reverts)
    ∷ (below (literal (codes "searches") ∷ parameter ∷ []), page.Search)
    ∷ (below (literal (codes "searches") ∷ parameter ∷ literal (codes "runs") ∷ parameter ∷ []), page.Runs)
    ∷ (below (literal (codes "list") ∷ parameter ∷ []), page.List)
    ∷ (below (literal (codes "farm") ∷ []), page.Farm)
    ∷ (below (literal (codes "orders") ∷ []), page.Orders)
    ∷ (below (literal (codes "totals") ∷ []), page.Totals)
    ∷ (below (literal (codes "log") ∷ parameter ∷ []), page.Log)
    ∷ []

-- the row in which a path stands
unfoldable pub page_of : List ℕ → Option Page
page_of path = row_in path_table (parts path)

-- the methods that a row allows
abbrev pub allow_of : Page → Allow
allow_of page.Searches = allow.Post
allow_of page.Leases = allow.Post
allow_of page.Report = allow.Post
allow_of page.Cancel = allow.Post
allow_of page.Reverts = allow.Post
allow_of page.Search = allow.GetAndHead
allow_of page.Runs = allow.GetAndHead
allow_of page.List = allow.GetAndHead
allow_of page.Farm = allow.GetAndHead
allow_of page.Orders = allow.GetAndHead
allow_of page.Totals = allow.GetAndHead
allow_of page.Log = allow.GetAndHead

-- a method is among those allowed
abbrev pub allows : Allow → List ℕ → Bool
allows allow.Post method = bytes_eq method (codes "POST")
allows allow.GetAndHead method = bytes_eq method (codes "GET") || bytes_eq method (codes "HEAD")

-- the greatest number in a path
abbrev pub last_number : ℕ
last_number = 2 ^ 32 - 1

-- the same number, where it is one of those in paths
abbrev pub from_one : Option ℕ → Option ℕ
from_one None = None
from_one (Some n) = if nat_lt 0 n && nat_le n last_number then Some n else None

-- the number that a text writes, without zeros in front
unfoldable pub path_number : List ℕ → Option ℕ
path_number text = from_one (number text)

-- the text at this place among the parts of a path
unfoldable pub text_at : ℕ → List ℕ → List ℕ
text_at place path = slice_index_or (parts path) place []

-- the number at this place among the parts of a path
abbrev pub number_at : ℕ → List ℕ → Option ℕ
number_at place path = path_number (text_at place path)

-- what is asked for by a number, or the fault that names it
abbrev pub numbered : PathField → (ℕ → Endpoint) → Option ℕ → Result Endpoint Fault
numbered name asked None = Err (fault.BadField name)
numbered name asked (Some n) = Ok (asked n)

-- what is asked for by two numbers, or the fault that names the first that is none
abbrev pub numbered_twice : PathField → PathField → (ℕ → ℕ → Endpoint) → Option ℕ → Option ℕ → Result Endpoint Fault
numbered_twice first second asked None m = Err (fault.BadField first)
numbered_twice first second asked (Some n) m = numbered second (asked n) m

-- what a path asks for that stands in this row
abbrev pub endpoint_at : Page → List ℕ → Result Endpoint Fault
endpoint_at page.Searches path = Ok (endpoint.Command route.Open)
endpoint_at page.Leases path = Ok (endpoint.Command route.Lease)
endpoint_at page.Report path =
    numbered field.Run (λ run. endpoint.Command (route.Report run)) (number_at FIRST_NUMBER path)
endpoint_at page.Cancel path =
    numbered field.Search (λ search. endpoint.Command (route.Cancel search)) (number_at FIRST_NUMBER path)
endpoint_at page.Reverts path = Ok (endpoint.Command route.Revert)
endpoint_at page.Search path =
    numbered field.Search (λ search. endpoint.Command (route.Search search)) (number_at FIRST_NUMBER path)
endpoint_at page.Runs path =
    numbered_twice field.Search field.From (λ search from. endpoint.Command (route.Runs search from))
    (number_at FIRST_NUMBER path) (number_at SECOND_NUMBER path)
endpoint_at page.List path =
    numbered field.From (λ from. endpoint.Command (route.List from)) (number_at FIRST_NUMBER path)
endpoint_at page.Farm path = Ok (endpoint.Command route.Farm)
endpoint_at page.Orders path = Ok (endpoint.Command route.Orders)
endpoint_at page.Totals path = Ok endpoint.Totals
endpoint_at page.Log path = numbered field.From endpoint.Log (number_at FIRST_NUMBER path)

-- first the path has to stand in the table, then the method has to be one of its row, then each number has to be one
abbrev pub endpoint_by : Option Page → List ℕ → List ℕ → Result Endpoint Fault
endpoint_by None path method = Err fault.NotFound
endpoint_by (Some row) path method =
    if allows (allow_of row) method then endpoint_at row path else Err (fault.MethodNotAllowed (allow_of row))

-- what a request asks for by its method and target
unfoldable pub endpoint_of : List ℕ → List ℕ → Result Endpoint Fault
endpoint_of method target = endpoint_by (page_of (path_of target)) (path_of target) method

-- What a router finds that was filled with a table: the first row of the table that the parts of the path fit.
use Rattle.std.proofs.Common.{◌≡◌, ℕ, List, Option, true, sym, ap, ◌∙◌}
use Rattle.std.specs.Str.{IsUtf8}
use Rattle.matchit.specs.Rows.{RowsOf}
use Rattle.matchit.specs.Router.{RouteOf, map_key}
use Rattle.matchit.specs.Level.{IsText}
use Rattle.matchit.specs.Seek.{first}
use Rattle.matchit.proofs.RenameLemmas.{first-rename}
use Rattle.http_requests.specs.Segments.{Segment, parts, row_in}
use Rattle.http_requests.specs.Walk.{rows_for, all_plain}
use Rattle.http_requests.specs.Apart.{all_apart, in_order}
use Rattle.http_requests.specs.Filled.{values_of}
use Rattle.http_requests.proofs.Seeks.{first-parts}
use Rattle.http_requests.proofs.RowsApart.{pick-order}
use Rattle.http_requests.proofs.TextBytes.{utf8-IsText}

-- a router of a table's rows in order gives the table's row: of any table of which no two rows fit one path
pub first-row_in : {K : Type 0} (table : List (List Segment × K)) (path : List ℕ) → IsText path
    → all_plain (in_order table) ≡ true → all_apart table ≡ true → first (rows_for (in_order table)) path ≡ row_in table (parts path)
first-row_in table path text plain are = first-parts path (in_order table) text plain ∙ pick-order table (parts path) are

-- the value that the router finds, by the table
pub found-row_in : {T : Type 0} (table : List (List Segment × T)) (rows : RowsOf (RouteOf T)) (path : List ℕ) (found : Option (RouteOf T))
    → IsUtf8 path → all_plain (in_order table) ≡ true → all_apart table ≡ true → values_of rows ≡ rows_for (in_order table)
    → first rows path ≡ found → map_key (λ (r : RouteOf T). r.value) found ≡ row_in table (parts path)
found-row_in {T} table rows path found text plain are filled is =
    ap (map_key (λ (r : RouteOf T). r.value)) (sym is)
    ∙ sym (first-rename (λ (r : RouteOf T). r.value) rows path)
    ∙ ap (λ (r : RowsOf T). first r path) filled
    ∙ first-row_in table path (utf8-IsText path text) plain are

-- A router that is filled route by route with a table's patterns and their values.
use Rattle.std.specs.Prelude.{◌≡◌, None, Result, Ok, Err}
use Rattle.matchit.specs.Rows.{RowsOf}
use Rattle.matchit.specs.Order.{placed}
use Rattle.matchit.specs.Route.{Scan}
use Rattle.matchit.specs.Router.{RouteOf, route_from, nearest, rename}
use Rattle.matchit.specs.declared.error.InsertError.{InsertError}

-- the rows with a route that is read in its place
abbrev pub with_route : {T : Type 0} → Result Scan InsertError → T → RowsOf (RouteOf T) → RowsOf (RouteOf T)
with_route (Ok s) value rows = placed (s.pattern, route_from s value) rows
with_route (Err e) value rows = rows

-- a route reads well, and conflicts with none of the rows
abbrev pub IsFree : {T : Type 0} → Result Scan InsertError → RowsOf (RouteOf T) → Type 0
IsFree (Ok s) rows = nearest s.pattern rows ≡ None
IsFree (Err e) rows = ⊥

-- each pattern with its value
abbrev pub values_of : {T : Type 0} → RowsOf (RouteOf T) → RowsOf T
values_of rows = rename (λ r. r.value) rows

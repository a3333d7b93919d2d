-- The routes whose command is in the body of a request.
use Rattle.std.specs.Prelude.{⊤}
use Rattle.http_words.specs.declared.route.Route.{Route}
use Rattle.http_words.specs.declared.route.Route.TheVariants as route

-- a request on the route says by its body what it asks for
abbrev pub IsByBody : Route → Type 0
IsByBody (route.Search search) = ⊥
IsByBody route.Farm = ⊥
IsByBody route.Orders = ⊥
IsByBody (route.Runs search from) = ⊥
IsByBody (route.List from) = ⊥
IsByBody _ = ⊤

use Rattle.std.proofs.Common.{◌≡◌, ◌==◌, drop, find}
use Rattle.std.specs.Option.{option_map}
use Rattle.plain_farm.proofs.search_lines.order_for.Given as goal

abbrev pub invariant-loop-line : goal.invariant-loop-line
invariant-loop-line l =
    option_map (λ line. line.order) (find (λ line. line.search == l.search) (drop l.line-index l.orders))
    ≡ option_map (λ line. line.order) (find (λ line. line.search == l.search) l.orders)

use Rattle.std.proofs.Common.{rules, ◌≡◌, ℕ, List, ap, ◌∙◌}
use Rattle.farm_entry.specs.declared.entry.Entry.{Entry}
use Rattle.kept_farm.specs.Places.{lines_at, order_places}
use Rattle.kept_farm.proofs.Places.{lines-there}
use Rattle.kept_farm.proofs.farm.KeptFarm.order_page.Goals as goal

pub returns : goal.returns
returns c =
    let H : List Entry = c.args.self.now in
    let places : List ℕ = c.self.inside.places.items in
    let read : c.deref.result.now ≡ places = search rules in
    c.of.ensures
    ∙ c.in_ok-lines_at.ensures
    ∙ ap (λ (X : List Entry). lines_at X c.deref.result.now) c.history.ensures.history
    ∙ ap (λ (ps : List ℕ). lines_at H ps) read
    ∙ lines-there H places (c.self.invariant.places ∙ ap (order_places 0) c.self.view_is)

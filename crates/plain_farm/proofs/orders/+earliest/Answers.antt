use Rattle.std.proofs.Common.{◌≡◌, ◌-◌, ◌∷◌, List, drop, length, take, Some, sym, ap, ◌∙◌, arith, length-drop}
use Rattle.std.proofs.lemmas.List.{take_all}
use Rattle.farm_rules.specs.Orders.{earlier, earliest}
use Rattle.farm_rules.specs.declared.orders.Candidate.{Candidate}
use Rattle.plain_history.proofs.Items.{drop-at}
use Rattle.plain_farm.proofs.orders.+earliest.Goals as goal

pub returns-in-len1-up : goal.returns-in-len1-up
returns-in-len1-up t c =
    let xs = c.args.searches.now in
    let rest : take (length xs - 1) (drop 1 xs) ≡ drop 1 xs = take_all (length xs - 1) (drop 1 xs) (omega (arith, length-drop 1 xs)) in
    let split : xs ≡ c.confirmed-item.result ∷ drop 1 xs = drop-at xs 0 c.confirmed-item.result c.in-len1-up.len_at_least c.confirmed-item.is in
    ap Some (c.earlier.ensures ∙ ap (earlier c.confirmed-item.result) c.earliest.ensures)
    ∙ ap (λ (ys : List Candidate). Some (earlier c.confirmed-item.result (earliest ys))) rest
    ∙ ap (λ (ys : List Candidate). earliest ys) (sym split)

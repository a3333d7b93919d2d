use Rattle.std.proofs.Common.{◌≡◌, count_by, is_some, sym, ◌∙◌, rules}
use Rattle.farm_entry.specs.History.{order_in}
use Rattle.plain_history.proofs.Items.{length-filter_map}
use Rattle.plain_history.proofs.filters.orders_count.Goals as goal

pub returns : goal.returns
returns c =
    let counted : c.count.result ≡ count_by (λ e. is_some (order_in e.what)) c.args.history.now = search rules in
    counted ∙ sym (length-filter_map (λ e. order_in e.what) c.args.history.now)

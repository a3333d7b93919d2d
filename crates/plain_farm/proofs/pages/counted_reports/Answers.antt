use Rattle.std.proofs.Common.{◌≡◌, count_by, sym, ◌∙◌, rules}
use Rattle.farm_entry.specs.History.{is_counted, report_in}
use Rattle.plain_history.specs.Tests.{is_some_and}
use Rattle.plain_history.proofs.Items.{count_by-filter_map}
use Rattle.plain_farm.proofs.pages.counted_reports.Goals as goal

pub returns : goal.returns
returns c =
    let found : c.count.result ≡ count_by (λ e. is_some_and (λ r. is_counted r.fate) (report_in e.what)) c.args.history.now = search rules in
    found ∙ sym (count_by-filter_map (λ r. is_counted r.fate) (λ e. report_in e.what) c.args.history.now)

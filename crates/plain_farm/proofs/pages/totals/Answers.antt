use Rattle.std.proofs.Common.{◌≡◌, length, ◌∙◌}
use Rattle.farm_entry.specs.Pages.{is_ended_otherwise, searches_that}
use Rattle.farm_entry.specs.Standing.{is_confirmed, is_searching, is_verifying}
use Rattle.plain_history.proofs.Holding.{searches_that-counted}
use Rattle.plain_farm.proofs.pages.totals.Goals as goal

pub returns : goal.returns
returns c =
    let H = c.args.history.now in
    let searching : c.count_searching.result ≡ searches_that is_searching H =
    c.count_searching.ensures ∙ searches_that-counted H c.deref.result.now is_searching (c.deref.ensures.value ∙ c.in_ok-found.ensures) in
    let verifying : c.count_verifying.result ≡ searches_that is_verifying H =
    c.count_verifying.ensures ∙ searches_that-counted H c.deref-2.result.now is_verifying (c.deref-2.ensures.value ∙ c.in_ok-found.ensures) in
    let confirmed : c.count_confirmed.result ≡ searches_that is_confirmed H =
    c.count_confirmed.ensures ∙ searches_that-counted H c.deref-3.result.now is_confirmed (c.deref-3.ensures.value ∙ c.in_ok-found.ensures) in
    let ended : c.count_ended.result ≡ searches_that is_ended_otherwise H =
    c.count_ended.ensures ∙ searches_that-counted H c.deref-4.result.now is_ended_otherwise (c.deref-4.ensures.value ∙ c.in_ok-found.ensures) in
    λ i. record {
      entries = length H;
      searches = c.openings_count.ensures i;
      searching = searching i;
      verifying = verifying i;
      confirmed = confirmed i;
      ended = ended i;
      counted = c.counted_reports.ensures i;
      orders = c.orders_count.ensures i;
    }

use Rattle.std.proofs.Common.{rules, ◌≡◌, ◌∙◌, sym}
use Rattle.farm_http.proofs.SameTotals.{same_totals-is}
use Rattle.farm_http.proofs.Telling.{told-same}
use Rattle.farm_http.proofs.told.ToldTotals.answers.Goals as goal

pub returns : goal.returns
returns c = λ alike.
    let told = c.args.self.now in
    let shut : told.closes ≡ c.args.request.now.closes = search rules in
    let kept : told.withheld ≡ c.args.request.now.withheld = search rules in
    told-same c.args.request.now told.closes told.withheld told.totals c.args.totals.now told.bytes told.is shut kept
    (same_totals-is told.totals c.args.totals.now (sym c.are_same.ensures ∙ alike))

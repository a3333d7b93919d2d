use Rattle.std.proofs.Common.{◌≡◌, true, sym, ap, ◌∙◌}
use Rattle.std.specs.Str.{bytes_eq}
use Rattle.std.proofs.lemmas.Bool.{not-false}
use Rattle.farm_entry.specs.declared.standing.Standing.TheVariants.{Confirmed}
use Rattle.rates_report.specs.Noted.{Noted}
use Rattle.rates_report.proofs.Tallies.{told-confirmed}
use Rattle.rates_report.proofs.notes.SearchNotes.told_of.Goals as goal

pub returns-in-Confirmed : goal.returns-in-Confirmed
returns-in-Confirmed c =
    let n : Noted = c.args.self.now in
    let same : bytes_eq n.test c.args.test.now ≡ true =
    ap (λ (x : Noted). bytes_eq x.test c.args.test.now) (sym c.self.view_is)
    ∙ not-false (bytes_eq c.self.inside.test c.args.test.now) (sym c.ne.ensures ∙ c.if-ne.false) in
    let is : n.standing ≡ Confirmed c.in-Confirmed.culprit =
    ap (λ (x : Noted). x.standing) (sym c.self.view_is) ∙ c.in-Confirmed.is in
    c.told_below.ensures ∙ told-confirmed c.args.test.now n c.in-Confirmed.culprit same is

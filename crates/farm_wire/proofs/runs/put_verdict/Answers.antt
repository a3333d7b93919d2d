use Rattle.std.proofs.Common.{◌∙◌, ◌++◌, codes, Option, ap, sym}
use Rattle.std.proofs.lemmas.Result.{on_ok_weaker}
use Rattle.json.specs.Print.{quoted}
use Rattle.farm_entry.specs.declared.run_page.RunReport.{RunReport}
use Rattle.farm_wire.specs.Pieces.{verdict_piece}
use Rattle.farm_wire.proofs.runs.put_verdict.Goals as goal

pub returns-in-Some : goal.returns-in-Some
returns-in-Some c =
    let old = c.args.out.now in
    on_ok_weaker c.put_text.result
    (λ put. put
    ∙ ap (λ word. old ++ (codes ",\"verdict\":" ++ quoted word)) c.outcome_verdict.ensures
    ∙ ap (λ (report : Option RunReport). old ++ verdict_piece report) (sym c.in-Some.is))
    c.put_text.ensures

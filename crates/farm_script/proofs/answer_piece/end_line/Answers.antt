use Rattle.std.proofs.Common.{◌≡◌, ◌∙◌, Err, ap, ◌++◌, ◌∷◌, []}
use Rattle.std.proofs.lemmas.Result.{err_from_is_err_and}
use Rattle.farm_script.specs.Held.{held}
use Rattle.farm_script.proofs.Answering.{handed_on}
use Rattle.farm_script.proofs.Helds.{held-held}
use Rattle.farm_script.proofs.SameAnswers.{answered-same, fails-same, stops-same}
use Rattle.farm_script.proofs.ByHeld.{farm_rule-by_held}
use Rattle.farm_script.proofs.answer_piece.end_line.Goals as goal

pub returns-in_err-answer_line-clause-stops : goal.returns-in_err-answer_line-clause-stops
returns-in_err-answer_line-clause-stops g c =
    let line = c.args.line.now ++ c.args.end.now in
    let is : c.bytes.result.now ≡ held line = c.bytes.ensures.value ∙ c.in_ok-hold.ensures.ok in
    let p =
    err_from_is_err_and c.from_residual-in_err-answer_line.result c.from_residual-in_err-answer_line.ensures.1 in
    rw p.1 (stops-same farm_rule-by_held (ap (λ l. l ∷ []) (ap held is ∙ held-held line))
    c.in_err-answer_line.ensures.stops)

pub returns-in_err-answer_line-clause-fails : goal.returns-in_err-answer_line-clause-fails
returns-in_err-answer_line-clause-fails g c is =
    let line = c.args.line.now ++ c.args.end.now in
    let bytes : c.bytes.result.now ≡ held line = c.bytes.ensures.value ∙ c.in_ok-hold.ensures.ok in
    let same = handed_on _ _ _ c.from_residual-in_err-answer_line.ensures.1 is in
    fails-same farm_rule-by_held (ap (λ l. l ∷ []) (ap held bytes ∙ held-held line))
    (c.in_err-answer_line.ensures.fails (ap (λ f. Err f) same))

pub returns-clause-answered : goal.returns-clause-answered
returns-clause-answered g c =
    let line = c.args.line.now ++ c.args.end.now in
    let is : c.bytes.result.now ≡ held line = c.bytes.ensures.value ∙ c.in_ok-hold.ensures.ok in
    answered-same farm_rule-by_held (ap (λ l. l ∷ []) (ap held is ∙ held-held line))
    c.in_ok-answer_line.ensures.answered

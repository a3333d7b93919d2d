use Rattle.std.proofs.Common.{◌∙◌, ap, codes, sym}
use Rattle.std.proofs.lemmas.Result.{IfOk-weaker}
use Rattle.serde_json.specs.Data.{object}
use Rattle.farm_wire.specs.Members.{whole}
use Rattle.farm_wire.specs.Refusals.{refusal_data}
use Rattle.farm_wire.proofs.Objects.{onto}
use Rattle.farm_wire.proofs.refusal.refusal_object.Goals as goal

pub returns-in-TooManySearches : goal.returns-in-TooManySearches
unfolding refusal_data
returns-in-TooManySearches c =
    IfOk-weaker c.refused-in-TooManySearches.result _ _
    (λ made h. ap object h ∙ sym (ap refusal_data c.in-TooManySearches.is)) c.refused-in-TooManySearches.ensures

pub returns-in-UnknownRun : goal.returns-in-UnknownRun
unfolding refusal_data
returns-in-UnknownRun c =
    IfOk-weaker c.refused_at-in-UnknownRun.result _ _
    (λ made h. ap object h ∙ sym (ap refusal_data c.in-UnknownRun.is)) c.refused_at-in-UnknownRun.ensures

pub returns-in-UnknownSearch : goal.returns-in-UnknownSearch
unfolding refusal_data
returns-in-UnknownSearch c =
    IfOk-weaker c.refused_at-in-UnknownSearch.result _ _
    (λ made h. ap object h ∙ sym (ap refusal_data c.in-UnknownSearch.is)) c.refused_at-in-UnknownSearch.ensures

pub returns-in_ok-refused_at-in-DailyLimit : goal.returns-in_ok-refused_at-in-DailyLimit
unfolding refusal_data
returns-in_ok-refused_at-in-DailyLimit c =
    IfOk-weaker c.with_number.result _ _
    (λ made h. ap object (onto (codes "count")
    (whole c.in-DailyLimit.count) h c.in_ok-refused_at-in-DailyLimit.ensures)
    ∙ sym (ap refusal_data c.in-DailyLimit.is))
    c.with_number.ensures

use Rattle.std.proofs.Common.{sym, ◌∙◌}
use Rattle.std.proofs.lemmas.Bool.{both_ways}
use Rattle.serde_json.specs.View.{view}
use Rattle.farm_wire.proofs.JsonObjects.{object_in-none, object_in-some}
use Rattle.journal_follow.proofs.answer.object_of.Goals as goal

pub returns-then-is_object : goal.returns-then-is_object
returns-then-is_object c =
    sym (object_in-some c.args.body.now (view c.in-Ok.value) c.in-Ok.ensures.ok.0 c.in-Ok.ensures.ok.1
    (sym c.is_object.ensures ∙ c.if-is_object.true))

pub returns-else-is_memory : goal.returns-else-is_memory
returns-else-is_memory c =
    sym (object_in-none c.args.body.now
    (c.in-Err.ensures.err (λ memory. both_ways _ c.if-is_memory.false (c.is_memory.ensures.1 memory))))

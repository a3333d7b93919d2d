use Rattle.std.proofs.Common.{Option, sym, ap, ◌∙◌}
use Rattle.std.specs.Option.{ok_or}
use Rattle.std.proofs.lemmas.Bool.{both_ways}
use Rattle.serde_json.specs.Data.{Data}
use Rattle.serde_json.specs.View.{view}
use Rattle.farm_wire.proofs.JsonObjects.{object_in-none, object_in-some}
use Rattle.worker_agent.specs.Answers.{object_of}
use Rattle.worker_agent.specs.declared.answer.AnswerFault.TheVariants.{Shape}
use Rattle.worker_agent.proofs.answer.object_of.Goals as goal

pub returns-then-is_object-clause-read : goal.returns-then-is_object-clause-read
unfolding object_of
returns-then-is_object-clause-read c =
    ap (λ (o : Option Data). ok_or o Shape)
    (object_in-some c.args.body.now (view c.in-Ok.value) c.in-Ok.ensures.ok.0 c.in-Ok.ensures.ok.1
    (sym c.is_object.ensures ∙ c.if-is_object.true))

pub returns-else-is_memory-clause-refused : goal.returns-else-is_memory-clause-refused
unfolding object_of
returns-else-is_memory-clause-refused c =
    λ _. ap (λ (o : Option Data). ok_or o Shape)
    (object_in-none c.args.body.now
    (c.in-Err.ensures.err (λ memory. both_ways _ c.if-is_memory.false (c.is_memory.ensures.1 memory))))

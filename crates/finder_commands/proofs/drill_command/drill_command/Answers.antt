use Rattle.std.proofs.Common.{◌∙◌}
use Rattle.outside_seen.specs.Outside.{output_seen}
use Rattle.finder_commands.proofs.Drilling.{drill-completes, drill-put}
use Rattle.finder_commands.proofs.drill_command.drill_command.Goals as goal

pub returns-in-Ok-clause-ends : goal.returns-in-Ok-clause-ends
returns-in-Ok-clause-ends g c =
    drill-put c.args.searches _ c.as_str.result.now c.put_text.result
    (output_seen g.K.Sink c.args.output.now) (output_seen g.K.Sink c.put_text.new.output) c.in-Ok.ensures.drilled
    (c.as_str.ensures.value ∙ c.in-Ok.ensures.line) c.put_text.ensures

pub returns-in-Ok-clause-completes : goal.returns-in-Ok-clause-completes
returns-in-Ok-clause-completes g c =
    drill-completes c.args.searches c.put_text.result (output_seen g.K.Sink c.args.output.now)
    (output_seen g.K.Sink c.put_text.new.output) (returns-in-Ok-clause-ends g c)

use Rattle.outside_seen.specs.Outside.{output_seen}
use Rattle.search_evidence.specs.Evidence.{evidence_text}
use Rattle.finder_commands.proofs.Putting.{evidence-unmade}
use Rattle.finder_commands.proofs.evidence_command.put_evidence.Goals as goal

pub returns-in-Err : goal.returns-in-Err
returns-in-Err g c =
    evidence-unmade c.args.search (evidence_text c.args.history.now c.args.search)
    (output_seen g.K.Sink c.args.output.now)

use Rattle.std.proofs.Common.{◌∙◌, Ok, Err, ap, refl, sym}
use Rattle.outside_seen.specs.Outside.{output_seen}
use Rattle.finder_commands.specs.WorkCommand.{work_line}
use Rattle.finder_commands.proofs.Working.{net-from_status, put-not_net, put-not_runner, runner-from_status, work-completes}
use Rattle.finder_commands.proofs.work_command.work_command.Goals as goal

pub returns-in-Ok-clause-ends : goal.returns-in-Ok-clause-ends
returns-in-Ok-clause-ends g c =
    let line = work_line c.in-Ok.worked in
    let before = output_seen g.K.Sink c.args.output.now in
    let after = output_seen g.K.Sink c.put_worked.new.output in
    record {
      result = Ok c.in-Ok.worked;
      works = c.in-Ok.ensures.works;
      says = c.put_worked.ensures;
      net_fault = λ is. absurd (put-not_net line c.put_worked.result before after c.put_worked.ensures is);
      runner_fault = λ is. absurd (put-not_runner line c.put_worked.result before after c.put_worked.ensures is);
    }

pub returns-in-Err-clause-ends : goal.returns-in-Err-clause-ends
returns-in-Err-clause-ends g c = record {
  result = Err c.in-Err.fault;
  works = c.in-Err.ensures.works;
  says = (c.from.ensures, refl);
  net_fault = λ is. c.in-Err.ensures.net_fault
      (ap (λ f. Err f) (net-from_status c.in-Err.fault (sym c.from.ensures ∙ is)));
  runner_fault = λ is. c.in-Err.ensures.runner_fault
      (ap (λ f. Err f) (runner-from_status c.in-Err.fault (sym c.from.ensures ∙ is)));
}

pub returns-in-Ok-clause-completes : goal.returns-in-Ok-clause-completes
returns-in-Ok-clause-completes g c = work-completes _ _ _ _ _ _ _ (returns-in-Ok-clause-ends g c)

pub returns-in-Err-clause-completes : goal.returns-in-Err-clause-completes
returns-in-Err-clause-completes g c = work-completes _ _ _ _ _ _ _ (returns-in-Err-clause-ends g c)

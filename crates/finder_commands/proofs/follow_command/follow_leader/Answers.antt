use Rattle.std.proofs.Common.{Ok, Err, ap, refl}
use Rattle.outside_seen.specs.Outside.{output_seen}
use Rattle.finder_commands.proofs.Following.{net-from_fault, put-no_damage, put-no_net}
use Rattle.finder_commands.specs.FollowCommand.{follow_line}
use Rattle.finder_commands.proofs.follow_command.follow_leader.Goals as goal

pub returns-in-Ok-clause-followed : goal.returns-in-Ok-clause-followed
returns-in-Ok-clause-followed g c =
    let line = follow_line c.in-Ok.followed in
    let before = output_seen g.K.Sink c.args.output.now in
    let after = output_seen g.K.Sink c.put_followed.new.output in
    record {
      result = Ok c.in-Ok.followed;
      follows = c.in-Ok.ensures.follows;
      says = c.put_followed.ensures;
      net_fault = λ is. absurd (put-no_net line c.put_followed.result before after c.put_followed.ensures is);
    }

pub returns-in-Ok-clause-sound : goal.returns-in-Ok-clause-sound
returns-in-Ok-clause-sound g c = λ t offset is.
    put-no_damage (follow_line c.in-Ok.followed) c.put_followed.result (output_seen g.K.Sink c.args.output.now)
    (output_seen g.K.Sink c.put_followed.new.output) offset c.put_followed.ensures is

pub returns-in-Err-clause-followed : goal.returns-in-Err-clause-followed
returns-in-Err-clause-followed g c = record {
  result = Err c.in-Err.fault;
  follows = c.in-Err.ensures.follows;
  says = (c.status_of_follow.ensures.ends, refl);
  net_fault = λ is. c.in-Err.ensures.net_fault
      (ap (λ f. Err f) (net-from_fault c.in-Err.fault c.status_of_follow.result c.status_of_follow.ensures.ends is));
}

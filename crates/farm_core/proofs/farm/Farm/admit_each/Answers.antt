-- Which entries were added, by the lemmas of `Admissions`.
use Rattle.farm_core.proofs.Admissions.{added-halted, added-more, added-none}
use Rattle.farm_core.proofs.farm.Farm.admit_each.Goals as goal

pub loop-entry-init : goal.loop-entry-init
loop-entry-init c = record {
  none = c.requires.none_ready;
  some = added-none c.args.self.now.history c.args.entries.items c.reverse.new.self.items c.reverse.ensures.items
      c.requires.legal;
}

pub returns-in-Err-clause-halted : goal.returns-in-Err-clause-halted
returns-in-Err-clause-halted c =
    let now = c.loop-entry.self.history in
    added-halted c.args.self.now.history c.args.entries.items c.loop-entry.rest.items c.pop.new.self.items now
    c.in-Some.entry c.in-Some.ensures.items c.loop-entry.invariant.some c.admit.new.self.history c.in-Err.fault
    c.in-Err.ensures.kept c.in-Err.ensures.illegal

pub loop-entry-preserved : goal.loop-entry-preserved
loop-entry-preserved c =
    let now = c.loop-entry.self.history in
    record {
      none = c.admit.ensures.ready;
      some = added-more c.args.self.now.history c.args.entries.items c.loop-entry.rest.items c.pop.new.self.items now
          c.in-Some.entry c.in-Some.ensures.items c.loop-entry.invariant.some c.admit.new.self.history
          c.in-Ok.ensures.admitted c.in-Ok.ensures.legal;
    }

use Rattle.std.proofs.Common.{List, ap, ◌∙◌}
use Rattle.farm_entry.specs.declared.entry.Entry.{Entry}
use Rattle.search_state.specs.Seen.{all_seen}
use Rattle.search_state.proofs.AllStates.{quiet-all}
use Rattle.farm_state.proofs.Popping.{last-on}
use Rattle.farm_state.proofs.state.FarmState.pop_quiet.Goals as goal

pub invariant_of-self : goal.invariant_of-self
invariant_of-self c =
    let H : List Entry = c.self.inside.books in
    let G : List Entry = c.pop.new.self in
    let h = c.self.invariant in
    let q = c.requires.quiet in
    let l = last-on H c.args.self.now G q.0 h.legal c.self.view_is c.requires.some q.1 c.pop.ensures in
    record {
      legal = l.legal;
      searches = h.searches ∙ ap all_seen l.split ∙ quiet-all G q.0 l.legal l.step q.2 q.3 q.4;
    }

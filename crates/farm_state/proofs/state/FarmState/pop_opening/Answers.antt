use Rattle.std.proofs.Common.{◌≡◌, List, [], ◌∷◌, ◌++◌, length, arith, ap, ◌∙◌}
use Rattle.std.specs.Vec.{vec_len}
use Rattle.farm_entry.specs.declared.entry.Entry.{Entry}
use Rattle.search_state.specs.SearchView.{opened}
use Rattle.search_state.specs.Seen.{all_seen}
use Rattle.search_state.proofs.AllStates.{opened-all}
use Rattle.farm_state.proofs.Popping.{last-on, popped-end}
use Rattle.farm_state.proofs.state.FarmState.pop_opening.Goals as goal

pub invariant_of-self : goal.invariant_of-self
invariant_of-self c =
    let H : List Entry = c.self.inside.books in
    let G : List Entry = c.pop.new.self in
    let h = c.self.invariant in
    let q = c.requires.opens in
    let l = last-on H c.args.self.now G q.0 h.legal c.self.view_is c.requires.some q.2 c.pop.ensures in
    let all : all_seen H ≡ all_seen G ++ opened q.1 ∷ [] =
    ap all_seen l.split ∙ opened-all G q.0 q.1 l.legal l.step q.3 in
    let count : vec_len c.self.inside.searches ≡ length c.self.inside.searches.items = omega arith in
    record {
      legal = l.legal;
      searches =
          c.pop-last.ensures.rest
          ∙ popped-end c.self.inside.searches.items (all_seen G) (opened q.1) (vec_len c.self.inside.searches) count
          (h.searches ∙ all);
    }

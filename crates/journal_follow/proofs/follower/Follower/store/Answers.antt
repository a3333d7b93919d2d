-- What storing entries leaves of a follower, by where it keeps its history.
use Rattle.std.proofs.Common.{◌≡◌, ◌∙◌, Some, ap, length, rules, sym}
use Rattle.journal_follow.specs.Inside.{Puts, place_state}
use Rattle.journal_follow.specs.State.{FollowerState}
use Rattle.journal_follow.proofs.Holding.{both-views, follower-of, place-of, view-is}
use Rattle.journal_follow.proofs.follower.Follower.store.Goals as goal

pub stored-held-requires : goal.stored-held-requires
stored-held-requires g c =
    let is : c.self.inside.place ≡ Some c.in-Some.held = search rules in
    let s : c.args.self.now ≡ place_state g.D.Disk.tells g.D.Disk.told g.D.Disk.count c.in-Some.held =
    view-is g.D.Disk.tells g.D.Disk.told g.D.Disk.count c.self.inside.place c.in-Some.held c.args.self.now c.self.view_is
    is in
    record {
      holds = place-of g.D.Disk.tells g.D.Disk.told g.D.Disk.count c.self.inside.place c.in-Some.held is c.self.invariant;
      decided = sym (ap (λ (x : FollowerState). x.held.pending) s) ∙ c.requires.decided;
      some = c.requires.some;
      fits = c.requires.fits;
      place = c.requires.place ∙ ap (λ (x : FollowerState). length x.held.history) s;
    }

pub invariant_of-self : goal.invariant_of-self
invariant_of-self g c =
    follower-of g.D.Disk.tells g.D.Disk.told g.D.Disk.count c.put_back.new.slot c.stored-held.result.0 c.put_back.ensures
    c.stored-held.ensures.place

pub returns : goal.returns
returns g c =
    let is : c.self.inside.place ≡ Some c.in-Some.held = search rules in
    both-views g.D.Disk.tells g.D.Disk.told g.D.Disk.count c.self.inside.place c.put_back.new.slot c.in-Some.held
    c.stored-held.result.0 c.args.self.now c.self.view_is is c.put_back.ensures
    (λ (a b : FollowerState). Puts c.args.before c.args.place c.args.entries.now c.stored-held.result.1 a b)
    c.stored-held.ensures.puts

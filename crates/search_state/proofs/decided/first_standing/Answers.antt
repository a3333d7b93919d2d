use Rattle.std.proofs.Common.{◌≡◌, ℕ, [], Option, Some, None, sym, ap, ◌∙◌}
use Rattle.weight_exact.specs.Share.{reached}
use Rattle.farm_entry.specs.Setup.{setup_of}
use Rattle.farm_entry.specs.Standing.{standing_of_reached}
use Rattle.search_state.proofs.Deciding.{few-suspects, named-within, reached-of}
use Rattle.search_state.proofs.decided.first_standing.Goals as goal

pub undecided_standing-requires : goal.undecided_standing-requires
undecided_standing-requires c =
    let r = c.requires in
    let is : None ≡ reached (setup_of r.0) r.1 =
    reached-of r.0 r.1 c.args.belief.now c.args.bar c.args.suspects None r.2
    (sym c.in-None.is ∙ c.reached.ensures r.1 r.2.stands) in
    (r.0, r.1, c.args.suspects, r.2, sym is)

pub named_standing-requires-clause-first : goal.named_standing-requires-clause-first
named_standing-requires-clause-first c =
    let r = c.requires in
    (named-within r.0 r.1 c.args.belief.now c.args.bar c.args.suspects c.in-Some.hypothesis r.2
    (sym c.in-Some.is ∙ c.reached.ensures r.1 r.2.stands)).0

pub named_standing-requires-clause-last : goal.named_standing-requires-clause-last
named_standing-requires-clause-last c =
    let r = c.requires in
    (named-within r.0 r.1 c.args.belief.now c.args.bar c.args.suspects c.in-Some.hypothesis r.2
    (sym c.in-Some.is ∙ c.reached.ensures r.1 r.2.stands)).1

pub named_standing-requires-clause-few : goal.named_standing-requires-clause-few
named_standing-requires-clause-few c =
    let r = c.requires in few-suspects r.0 c.args.suspects r.2.within r.2.suspects_are

pub returns-in-None : goal.returns-in-None
returns-in-None c = λ o told believed.
    let is : None ≡ reached (setup_of o) told =
    reached-of o told c.args.belief.now c.args.bar c.args.suspects None believed
    (sym c.in-None.is ∙ c.reached.ensures told believed.stands) in
    c.undecided_standing.ensures o told c.args.suspects believed (sym is)
    ∙ ap (λ (n : Option ℕ). standing_of_reached o told c.args.skips.now [] n) is

pub returns-in-Some : goal.returns-in-Some
returns-in-Some c = λ o told believed.
    let is : Some c.in-Some.hypothesis ≡ reached (setup_of o) told =
    reached-of o told c.args.belief.now c.args.bar c.args.suspects (Some c.in-Some.hypothesis) believed
    (sym c.in-Some.is ∙ c.reached.ensures told believed.stands) in
    c.named_standing.ensures o told believed.suspects_are believed.within.reruns.0
    ∙ ap (λ (n : Option ℕ). standing_of_reached o told c.args.skips.now [] n) is

use Rattle.std.proofs.Common.{◌≡◌, List, ap, subst, ◌∙◌}
use Rattle.farm_entry.specs.declared.entry.Entry.{Entry}
use Rattle.common_types.specs.Prefix.{IsPrefix}
use Rattle.turn_lock.specs.Known.{Known, all_parts, first_stake}
use Rattle.farm_drill.proofs.Growing.{prefix-trans}
use Rattle.farm_drill.proofs.Passes.{closed-goes}
use Rattle.farm_drill.proofs.crew.run_workers.Goals as goal

pub returns-in-Done-clause-planned : goal.returns-in-Done-clause-planned
returns-in-Done-clause-planned g c =
    let H : List Entry = c.args.store.history in
    let left : List Entry = c.close-left.result.history in
    let pass : Known = c.run_all-pass.result.0 in
    let made = c.in-Ok.ensures.pass in
    let keeps = c.run_all-pass.ensures.keeps in
    let whole : pass.stake.parts ≡ all_parts = keeps.parts ∙ ap (λ (k : Known). k.stake.parts) made in
    closed-goes H left pass c.requires.planned keeps.planned c.close-left.ensures.seen
    (prefix-trans H pass.seen left
    (subst (λ (G : List Entry). IsPrefix G pass.seen) (ap (λ (k : Known). k.seen) made) keeps.longer)
    c.close-left.ensures.seen)
    (keeps.undecided ∙ ap (λ (k : Known). k.stake.undecided) made
    ∙ ap (λ (p : List Entry). (first_stake H p).undecided) c.requires.decided)
    (c.close-left.ensures.owned whole)

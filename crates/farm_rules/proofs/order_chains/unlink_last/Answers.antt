use Rattle.std.proofs.Common.{arith, ap, subst, ◌∙◌, ◌≡◌, ℕ, List, length}
use Rattle.farm_rules.specs.OrderChains.{home_of, IsLinked}
use Rattle.farm_rules.specs.declared.order_chains.Item.{Item}
use Rattle.farm_rules.proofs.ChainEnds.{linked-pop}
use Rattle.farm_rules.proofs.order_chains.unlink_last.Goals as goal

pub returns-clause-linked : goal.returns-clause-linked
returns-clause-linked c =
    let len_is : c.len.result ≡ length c.args.heads.now.items = omega (arith, c.len.ensures) in
    let home_is : c.home-bucket.result ≡ home_of (length c.args.heads.now.items) c.in-Some.last.commit =
    c.home-bucket.ensures.home ∙ ap (λ (n : ℕ). home_of n c.in-Some.last.commit) len_is in
    let whole = subst (λ (xs : List Item). IsLinked c.args.heads.now.items xs) c.in-Some.ensures.items c.requires.linked in
    rw home_is
    (linked-pop c.args.heads.now.items c.pop.new.self.items c.in-Some.last whole (omega (arith, home_is, c.home-bucket.ensures.in_range, len_is)))

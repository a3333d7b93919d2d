use Rattle.std.proofs.Common.{arith, refl, sym, subst, ◌∙◌, ◌-◌, ◌<◌, ◌≡◌, false, true, length, get_or}
use Rattle.farm_types.specs.CommitId.{same_id}
use Rattle.farm_rules.specs.OrderChains.{blank, home_of}
use Rattle.farm_rules.specs.declared.order_chains.Item.{Item}
use Rattle.farm_rules.proofs.ChainEnds.{read_at}
use Rattle.farm_rules.proofs.ChainWalks.{IsSought, has_order-end, has_order-item, sought-start, sought-next, sought-smaller}
use Rattle.farm_rules.proofs.order_chains.is_there.Goals as goal

pub loop-at-init : goal.loop-at-init
loop-at-init c =
    let same : c.home.result ≡ home_of (length c.args.heads.now) c.args.commit = c.home.ensures.home in
    sought-start c.args.commit c.args.heads.now c.args.items.now c.requires.linked (omega (arith, same, c.home.ensures.in_range)) _ (rw same refl)

pub loop-at-smaller : goal.loop-at-smaller
loop-at-smaller c =
    let low : c.loop-at.at - 1 < length c.args.items.now = omega (arith, c.loop-at-test.true, c.loop-at.invariant.within) in
    let is : c.index-items-at.result ≡ get_or c.args.items.now (c.loop-at.at - 1) blank =
    read_at c.args.items.now (c.loop-at.at - 1) c.index-items-at.result c.index-items-at.is low in
    subst (λ (item : Item). item.below < c.loop-at.at) (sym is)
    (sought-smaller c.args.commit c.args.heads.now c.args.items.now c.requires.linked c.loop-at.at (c.loop-at.at - 1) c.loop-at.invariant
    (omega (arith, c.loop-at-test.true)))

pub loop-at-preserved : goal.loop-at-preserved
loop-at-preserved c =
    let low : c.loop-at.at - 1 < length c.args.items.now = omega (arith, c.loop-at-test.true, c.loop-at.invariant.within) in
    let is : c.index-items-at.result ≡ get_or c.args.items.now (c.loop-at.at - 1) blank =
    read_at c.args.items.now (c.loop-at.at - 1) c.index-items-at.result c.index-items-at.is low in
    subst (λ (item : Item). IsSought c.args.commit c.args.heads.now c.args.items.now item.below) (sym is)
    (sought-next c.args.commit c.args.heads.now c.args.items.now c.requires.linked c.loop-at.at (c.loop-at.at - 1) c.loop-at.invariant
    (omega (arith, c.loop-at-test.true))
    (subst (λ (item : Item). same_id item.commit c.args.commit ≡ false) is (sym c.eq.ensures ∙ c.if-eq.false)))

pub returns-then-eq : goal.returns-then-eq
returns-then-eq c =
    let low : c.loop-at.at - 1 < length c.args.items.now = omega (arith, c.loop-at-test.true, c.loop-at.invariant.within) in
    let is : c.index-items-at.result ≡ get_or c.args.items.now (c.loop-at.at - 1) blank =
    read_at c.args.items.now (c.loop-at.at - 1) c.index-items-at.result c.index-items-at.is low in
    sym (has_order-item c.args.items.now c.args.commit (c.loop-at.at - 1) low
    (subst (λ (item : Item). same_id item.commit c.args.commit ≡ true) is (sym c.eq.ensures ∙ c.if-eq.true)))

pub returns : goal.returns
returns c =
    sym (has_order-end c.args.heads.now c.args.items.now c.args.commit c.loop-at.at (omega (arith, c.loop-at-test.false)) c.loop-at.invariant)

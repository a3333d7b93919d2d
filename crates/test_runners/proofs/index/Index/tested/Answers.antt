use Rattle.std.proofs.Common.{◌≡◌, ℕ, length, map, ap, sym, ◌∙◌, arith}
use Rattle.farm_types.specs.CommitId.{id_bytes}
use Rattle.test_runners.specs.Index.{bucket_of}
use Rattle.test_runners.specs.Rows.{row_seen}
use Rattle.test_runners.proofs.Chains.{sought-here, sought-next, sought-start}
use Rattle.test_runners.proofs.index.Index.tested.Goals as goal

pub loop-at-init : goal.loop-at-init
loop-at-init c =
    let size : c.len.result ≡ length c.args.self.now.heads.items = omega (arith, c.len.ensures) in
    let home = c.bucket.ensures.bucket ∙ ap (λ (n : ℕ). bucket_of n c.args.test.now (id_bytes c.args.commit.now)) size in
    sought-start (map row_seen c.args.rows.now) c.args.self.now.heads.items c.args.self.now.next.items c.args.test.now
    (id_bytes c.args.commit.now) c.bucket.result c.index-at.result.now c.requires home (omega (arith, c.bucket.ensures.in_range, size))
    c.index-at.ensures

pub returns-then-is_of : goal.returns-then-is_of
returns-then-is_of c =
    sought-here c.args.rows.now (length c.args.self.now.heads.items) c.args.test.now (id_bytes c.args.commit.now) c.loop-at.at
    c.index-rows-at.result c.loop-at.invariant c.loop-at-test.true c.index-rows-at.is (sym c.is_of.ensures ∙ c.if-is_of.true)

pub loop-at-preserved : goal.loop-at-preserved
loop-at-preserved c =
    sought-next c.args.rows.now c.args.self.now.heads.items c.args.self.now.next.items c.args.test.now
    (id_bytes c.args.commit.now) c.loop-at.at c.index-at-in-loop-at.result.now c.index-rows-at.result c.requires c.loop-at.invariant
    c.loop-at-test.true c.index-rows-at.is (sym c.is_of.ensures ∙ c.if-is_of.false) c.index-at-in-loop-at.ensures

use Rattle.std.proofs.Common.{◌-◌, ℕ, ap, ◌∙◌, length, arith}
use Rattle.std.proofs.lemmas.List.{length-set}
use Rattle.farm_types.specs.CommitId.{id_bytes}
use Rattle.test_runners.specs.Index.{bucket_of}
use Rattle.test_runners.proofs.Chains.{linked-row}
use Rattle.test_runners.proofs.index.link_all.Goals as goal

pub loop-left-preserved : goal.loop-left-preserved
loop-left-preserved c =
    let row = c.index-rows-left.result in
    let some = c.loop-left-test.true in
    let within = c.loop-left.invariant.within in
    let home = c.bucket-bucket.ensures.bucket ∙ ap (λ (n : ℕ). bucket_of n row.test (id_bytes row.commit)) c.loop-left.invariant.size in
    rw (c.link.ensures.heads, c.link.ensures.next) (record {
      linked = linked-row c.args.rows.now (length c.args.heads.now) c.loop-left.heads c.loop-left.next c.loop-left.left
          c.bucket-bucket.result row c.loop-left.invariant.linked some within c.index-rows-left.is home c.bucket-bucket.ensures.in_range;
      size = length-set c.loop-left.heads c.bucket-bucket.result (c.loop-left.left - 1) ∙ c.loop-left.invariant.size;
      within = omega (arith, within);
    })

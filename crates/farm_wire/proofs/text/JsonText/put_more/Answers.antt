use Rattle.std.proofs.Common.{◌∙◌}
use Rattle.farm_wire.proofs.CommaTexts.{chunk-next}
use Rattle.farm_wire.proofs.text.JsonText.put_more.Goals as goal

pub chunks-preserved : goal.chunks-preserved
chunks-preserved c =
    chunk-next c.chunks.self c.put_chunk.new.self c.chunks.left.now c.split_at.result.0.now c.split_at.result.1.now
    c.split_at.ensures.by_index.0 c.in_ok-put_chunk.ensures
    ∙ c.chunks.invariant

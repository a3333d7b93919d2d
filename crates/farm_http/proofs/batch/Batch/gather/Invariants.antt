use Rattle.std.proofs.Common.{length, ◌-◌}
use Rattle.connection_laws.specs.Moments.{GivenBy}
use Rattle.farm_store.specs.declared.asking.TheConstants.{MAX_BATCH}
use Rattle.farm_http.specs.Batches.{IsBatch}
use Rattle.farm_http.proofs.batch.Batch.gather.Given as goal

-- the batch has commands at the front of the bytes held
abbrev pub invariant-loop-self : goal.invariant-loop-self
invariant-loop-self g l = IsBatch (GivenBy g.C.Clock l.service.clock.now g.D.Disk.count) l.complete l.held l.self

abbrev pub decreases-loop-self : goal.decreases-loop-self
decreases-loop-self g l = MAX_BATCH - length l.self.asks

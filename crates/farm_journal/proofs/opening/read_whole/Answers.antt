-- What each step of opening leaves, by the lemmas of `OpeningSteps`.
use Rattle.std.proofs.Common.{◌∙◌}
use Rattle.farm_journal.proofs.OpeningSteps.{reads-sync, reads-rested}
use Rattle.farm_journal.proofs.opening.read_whole.Goals as goal

pub returns-in_err-sync-clause-only : goal.returns-in_err-sync-clause-only
returns-in_err-sync-clause-only g c tells = reads-sync _ _ c.sync.result (c.sync.ensures.ends tells)

pub returns-in_err-n-clause-only : goal.returns-in_err-n-clause-only
returns-in_err-n-clause-only g c tells =
    let one = reads-sync _ _ c.sync.result (c.sync.ensures.ends tells) in
    reads-rested _ _ _ one (c.size.ensures.still (c.sync.ensures.same ∙ tells))

pub returns-in_err-bytes-clause-only : goal.returns-in_err-bytes-clause-only
returns-in_err-bytes-clause-only g c tells =
    let one = reads-sync _ _ c.sync.result (c.sync.ensures.ends tells) in
    reads-rested _ _ _ one (c.size.ensures.still (c.sync.ensures.same ∙ tells))

pub returns-in_err-read-clause-only : goal.returns-in_err-read-clause-only
returns-in_err-read-clause-only g c tells =
    let one = reads-sync _ _ c.sync.result (c.sync.ensures.ends tells) in
    let told = c.sync.ensures.same ∙ tells in
    let two = reads-rested _ _ _ one (c.size.ensures.still told) in
    reads-rested _ _ _ two (c.read.ensures.still (c.size.ensures.same ∙ told))

pub returns-clause-only : goal.returns-clause-only
returns-clause-only g c tells =
    let one = reads-sync _ _ c.sync.result (c.sync.ensures.ends tells) in
    let told = c.sync.ensures.same ∙ tells in
    let two = reads-rested _ _ _ one (c.size.ensures.still told) in
    reads-rested _ _ _ two (c.read.ensures.still (c.size.ensures.same ∙ told))

-- What each exit of a repair leaves, by the lemmas of `Run`.
use Rattle.std.proofs.Common.{ℕ, List, get_or, sym, ◌∙◌, ap}
use Rattle.farm_disk.specs.Images.{DiskState}
use Rattle.farm_disk.proofs.Moments.{settled-sync}
use Rattle.farm_journal.proofs.Once.{byte-read}
use Rattle.farm_journal.proofs.OpeningSteps.{reads-sync, reads-rested}
use Rattle.farm_journal.proofs.Run.{rests-rested, started-waiting, went-sync, went-rested, went-shut}
use Rattle.farm_journal.proofs.mending.mend.Goals as goal

pub returns-in_err-sync-clause-any_moment : goal.returns-in_err-sync-clause-any_moment
returns-in_err-sync-clause-any_moment g c tells known ps p waiting =
    (went-sync known ps c.args.gate p _ _ _ c.sync.result (started-waiting known ps c.args.gate p _ waiting)
    (c.sync.ensures.ends tells)).images

pub returns-in_err-read-clause-any_moment : goal.returns-in_err-read-clause-any_moment
returns-in_err-read-clause-any_moment g c tells known ps p waiting =
    let synced = went-sync known ps c.args.gate p _ _ _ c.sync.result (started-waiting known ps c.args.gate p _ waiting)
    (c.sync.ensures.ends tells) in
    (went-rested known ps c.args.gate p _ _ _ synced (c.read.ensures.still (c.sync.ensures.same ∙ tells))).images

pub returns-then-byte-eq0-clause-any_moment : goal.returns-then-byte-eq0-clause-any_moment
returns-then-byte-eq0-clause-any_moment g c tells known ps p waiting =
    let synced = went-sync known ps c.args.gate p _ _ _ c.sync.result (started-waiting known ps c.args.gate p _ waiting)
    (c.sync.ensures.ends tells) in
    (went-rested known ps c.args.gate p _ _ _ synced (c.read.ensures.still (c.sync.ensures.same ∙ tells))).images

pub returns-then-byte-eq0-clause-named : goal.returns-then-byte-eq0-clause-named
returns-then-byte-eq0-clause-named g c tells known ps p waiting =
    let synced = went-sync known ps c.args.gate p _ _ _ c.sync.result (started-waiting known ps c.args.gate p _ waiting)
    (c.sync.ensures.ends tells) in
    let is_rested = c.read.ensures.still (c.sync.ensures.same ∙ tells) in
    let byte = c.in_ok-read.ensures.bytes (c.sync.ensures.same ∙ tells) in
    let is_shut = sym (ap (λ (l : List ℕ). get_or l 0 0) byte) ∙ c.if-byte-eq0.true in
    let shut = went-shut known ps c.args.gate p _ _ synced is_shut in
    let settled = settled-sync _ _ (c.in_ok-sync.ensures.ends tells) in (
      rests-rested known ps c.args.gate _ _ (record { stands = shut; settled = settled }) is_rested,
      ap (λ (d : DiskState). get_or d.bytes c.args.gate 0) is_rested ∙ sym (byte-read c.args.gate _) ∙ is_shut,
    )

pub returns-else-byte-eq0-clause-any_moment : goal.returns-else-byte-eq0-clause-any_moment
returns-else-byte-eq0-clause-any_moment g c tells known ps p waiting =
    let synced = went-sync known ps c.args.gate p _ _ _ c.sync.result (started-waiting known ps c.args.gate p _ waiting)
    (c.sync.ensures.ends tells) in
    (went-rested known ps c.args.gate p _ _ _ synced (c.read.ensures.still (c.sync.ensures.same ∙ tells))).images

pub returns-in_err-sync-clause-only : goal.returns-in_err-sync-clause-only
returns-in_err-sync-clause-only g c tells = reads-sync _ _ c.sync.result (c.sync.ensures.ends tells)

pub returns-in_err-read-clause-only : goal.returns-in_err-read-clause-only
returns-in_err-read-clause-only g c tells =
    reads-rested _ _ _ (reads-sync _ _ c.sync.result (c.sync.ensures.ends tells))
    (c.read.ensures.still (c.sync.ensures.same ∙ tells))

pub returns-then-byte-eq0-clause-only : goal.returns-then-byte-eq0-clause-only
returns-then-byte-eq0-clause-only g c tells =
    reads-rested _ _ _ (reads-sync _ _ c.sync.result (c.sync.ensures.ends tells))
    (c.read.ensures.still (c.sync.ensures.same ∙ tells))

pub returns-else-byte-eq0-clause-only : goal.returns-else-byte-eq0-clause-only
returns-else-byte-eq0-clause-only g c tells =
    reads-rested _ _ _ (reads-sync _ _ c.sync.result (c.sync.ensures.ends tells))
    (c.read.ensures.still (c.sync.ensures.same ∙ tells))

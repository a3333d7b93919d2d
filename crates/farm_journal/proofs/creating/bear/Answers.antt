-- What each step of a birth leaves, by the lemmas of `Births`.
use Rattle.std.proofs.Common.{Result, [], ◌∷◌, ◌∙◌, ap, subst, List, ℕ, get_or, inl}
use Rattle.farm_disk.specs.Images.{DiskState}
use Rattle.farm_disk.proofs.Moments.{settled-sync}
use Rattle.farm_journal.specs.Outcome.{SyncEnds}
use Rattle.farm_journal.specs.Created.{IsUnborn, IsUnbornOrFirst}
use Rattle.farm_journal.specs.declared.disk_calls.DiskFault.{DiskFault}
use Rattle.farm_journal.proofs.Births.{birth-start, birth-sync, birth-write, zero-unborn, torn-behind, staged-birth, torn-birth, first-either, first-rests, written-birth}
use Rattle.farm_journal.proofs.Run.{on_ok}
use Rattle.farm_journal.proofs.creating.bear.Goals as goal

pub returns-in_err-write-clause-any_moment : goal.returns-in_err-write-clause-any_moment
returns-in_err-write-clause-any_moment g c tells =
    let ready = c.requires.ready tells in
    let p = c.args.payload.now in
    let one = birth-write _ (IsUnbornOrFirst p) 1 c.args.frame.now _ _ c.write.result
    (birth-start _ (IsUnbornOrFirst p) ready.settled
    (inl (zero-unborn (g.D.Disk.told c.args.disk.now).bytes ready.birth))) ready.settled
    (λ image torn. inl (zero-unborn image (torn-behind _ (g.D.Disk.told c.args.disk.now).bytes image ready.birth torn)))
    (c.write.ensures.ends tells) in
    one

pub returns-in_err-sync-clause-any_moment : goal.returns-in_err-sync-clause-any_moment
returns-in_err-sync-clause-any_moment g c tells =
    let ready = c.requires.ready tells in
    let p = c.args.payload.now in
    let one = birth-write _ (IsUnbornOrFirst p) 1 c.args.frame.now _ _ c.write.result
    (birth-start _ (IsUnbornOrFirst p) ready.settled
    (inl (zero-unborn (g.D.Disk.told c.args.disk.now).bytes ready.birth))) ready.settled
    (λ image torn. inl (zero-unborn image (torn-behind _ (g.D.Disk.told c.args.disk.now).bytes image ready.birth torn)))
    (c.write.ensures.ends tells) in
    let tells_1 = c.write.ensures.same ∙ tells in
    let staged = staged-birth p c.args.frame.now _ ready c.requires.frame in
    let wrote = ap (λ (d : DiskState). d.bytes) (c.in_ok-write.ensures.ends tells) ∙ staged.1 in
    let two = birth-sync _ (IsUnbornOrFirst p) _ _ c.sync.result one
    (inl (zero-unborn (g.D.Disk.told c.write.new.disk).bytes (ap (λ (l : List ℕ). get_or l 0 0) wrote)))
    (c.sync.ensures.ends tells_1) in
    two

pub returns-in_err-write-2-clause-any_moment : goal.returns-in_err-write-2-clause-any_moment
returns-in_err-write-2-clause-any_moment g c tells =
    let ready = c.requires.ready tells in
    let p = c.args.payload.now in
    let one = birth-write _ (IsUnbornOrFirst p) 1 c.args.frame.now _ _ c.write.result
    (birth-start _ (IsUnbornOrFirst p) ready.settled
    (inl (zero-unborn (g.D.Disk.told c.args.disk.now).bytes ready.birth))) ready.settled
    (λ image torn. inl (zero-unborn image (torn-behind _ (g.D.Disk.told c.args.disk.now).bytes image ready.birth torn)))
    (c.write.ensures.ends tells) in
    let tells_1 = c.write.ensures.same ∙ tells in
    let staged = staged-birth p c.args.frame.now _ ready c.requires.frame in
    let wrote = ap (λ (d : DiskState). d.bytes) (c.in_ok-write.ensures.ends tells) ∙ staged.1 in
    let two = birth-sync _ (IsUnbornOrFirst p) _ _ c.sync.result one
    (inl (zero-unborn (g.D.Disk.told c.write.new.disk).bytes (ap (λ (l : List ℕ). get_or l 0 0) wrote)))
    (c.sync.ensures.ends tells_1) in
    let tells_2 = c.sync.ensures.same ∙ tells_1 in
    let synced = ap (λ (d : DiskState). d.bytes) (c.in_ok-sync.ensures.ends tells_1) ∙ wrote in
    let on_disk = settled-sync _ _ (c.in_ok-sync.ensures.ends tells_1) in
    let three = birth-write _ (IsUnbornOrFirst p) 0 (1 ∷ []) _ _ c.write-2.result two on_disk
    (λ image torn. torn-birth p staged.0 _ image c.requires.payload synced torn) (c.write-2.ensures.ends tells_2) in
    three

pub returns-clause-any_moment : goal.returns-clause-any_moment
returns-clause-any_moment g c tells =
    let ready = c.requires.ready tells in
    let p = c.args.payload.now in
    let one = birth-write _ (IsUnbornOrFirst p) 1 c.args.frame.now _ _ c.write.result
    (birth-start _ (IsUnbornOrFirst p) ready.settled
    (inl (zero-unborn (g.D.Disk.told c.args.disk.now).bytes ready.birth))) ready.settled
    (λ image torn. inl (zero-unborn image (torn-behind _ (g.D.Disk.told c.args.disk.now).bytes image ready.birth torn)))
    (c.write.ensures.ends tells) in
    let tells_1 = c.write.ensures.same ∙ tells in
    let staged = staged-birth p c.args.frame.now _ ready c.requires.frame in
    let wrote = ap (λ (d : DiskState). d.bytes) (c.in_ok-write.ensures.ends tells) ∙ staged.1 in
    let two = birth-sync _ (IsUnbornOrFirst p) _ _ c.sync.result one
    (inl (zero-unborn (g.D.Disk.told c.write.new.disk).bytes (ap (λ (l : List ℕ). get_or l 0 0) wrote)))
    (c.sync.ensures.ends tells_1) in
    let tells_2 = c.sync.ensures.same ∙ tells_1 in
    let synced = ap (λ (d : DiskState). d.bytes) (c.in_ok-sync.ensures.ends tells_1) ∙ wrote in
    let on_disk = settled-sync _ _ (c.in_ok-sync.ensures.ends tells_1) in
    let three = birth-write _ (IsUnbornOrFirst p) 0 (1 ∷ []) _ _ c.write-2.result two on_disk
    (λ image torn. torn-birth p staged.0 _ image c.requires.payload synced torn) (c.write-2.ensures.ends tells_2) in
    let opened = ap (λ (d : DiskState). d.bytes) (c.in_ok-write-2.ensures.ends tells_2)
    ∙ written-birth p staged.0 _ synced in
    birth-sync _ (IsUnbornOrFirst p) _ _ c.sync-2.result three
    (first-either 1 p staged.0 (g.D.Disk.told c.write-2.new.disk).bytes c.requires.payload opened)
    (c.sync-2.ensures.ends (c.write-2.ensures.same ∙ tells_2))

pub returns-clause-done : goal.returns-clause-done
returns-clause-done g c = on_ok c.sync-2.result _ (λ u is tells.
    let ready = c.requires.ready tells in
    let p = c.args.payload.now in
    let tells_1 = c.write.ensures.same ∙ tells in
    let tells_2 = c.sync.ensures.same ∙ tells_1 in
    let staged = staged-birth p c.args.frame.now _ ready c.requires.frame in
    let wrote = ap (λ (d : DiskState). d.bytes) (c.in_ok-write.ensures.ends tells) ∙ staged.1 in
    let synced = ap (λ (d : DiskState). d.bytes) (c.in_ok-sync.ensures.ends tells_1) ∙ wrote in
    let last = subst
    (λ (r : Result (Unit {0}) DiskFault). SyncEnds r (g.D.Disk.told c.write-2.new.disk)
    (g.D.Disk.told c.sync-2.new.disk)) is (c.sync-2.ensures.ends (c.write-2.ensures.same ∙ tells_2)) in
    first-rests p staged.0 _ _ _ c.requires.payload synced (c.in_ok-write-2.ensures.ends tells_2) last)

pub returns-in_err-write-clause-memory : goal.returns-in_err-write-clause-memory
returns-in_err-write-clause-memory g c wanting tells =
    let ready = c.requires.ready tells in
    birth-write _ IsUnborn 1 c.args.frame.now _ _ c.write.result
    (birth-start _ IsUnborn ready.settled (zero-unborn (g.D.Disk.told c.args.disk.now).bytes ready.birth)) ready.settled
    (λ image torn. zero-unborn image (torn-behind _ (g.D.Disk.told c.args.disk.now).bytes image ready.birth torn))
    (c.write.ensures.ends tells)

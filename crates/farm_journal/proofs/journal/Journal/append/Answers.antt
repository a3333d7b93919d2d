-- What each end of an append leaves, by the lemmas of `Journals`.
use Rattle.std.proofs.Common.{◌∙◌, ap}
use Rattle.farm_journal.specs.State.{JournalState}
use Rattle.farm_journal.proofs.Journals.{any-moment, no-moment, still-held, now-held, not-begun, only-before, held-more, reads-new, stays-idle, stays-new, cut-behind, now-pending, kept-appended, kept-same, err-is}
use Rattle.farm_journal.proofs.journal.Journal.append.Goals as goal

pub returns-in_default-clause-any_moment : goal.returns-in_default-clause-any_moment
returns-in_default-clause-any_moment g c =
    let disk = ap (λ (j : JournalState g.row.D.Denot). j.disk) c.self.view_is in
    let payloads = ap (λ (j : JournalState g.row.D.Denot). j.payloads) c.self.view_is in
    let idle = ap (λ (j : JournalState g.row.D.Denot). j.pending) c.self.view_is ∙ c.requires.idle in
    no-moment g.D.Disk.tells g.D.Disk.told _ _ disk _ _ payloads c.self.inside.version c.self.inside.gate
    c.args.payload.now (c.self.invariant.rests idle)

pub returns-in_default-clause-still_held : goal.returns-in_default-clause-still_held
returns-in_default-clause-still_held g c =
    let disk = ap (λ (j : JournalState g.row.D.Denot). j.disk) c.self.view_is in
    let payloads = ap (λ (j : JournalState g.row.D.Denot). j.payloads) c.self.view_is in
    let idle = ap (λ (j : JournalState g.row.D.Denot). j.pending) c.self.view_is ∙ c.requires.idle in
    now-held g.D.Disk.tells g.D.Disk.told _ _ disk _ _ payloads c.self.inside.version c.self.inside.gate
    c.args.payload.now (c.self.invariant.rests idle)

pub invariant_of-self-in-Ok-store : goal.invariant_of-self-in-Ok-store
invariant_of-self-in-Ok-store g c =
    let disk = ap (λ (j : JournalState g.row.D.Denot). j.disk) c.self.view_is in
    let payloads = ap (λ (j : JournalState g.row.D.Denot). j.payloads) c.self.view_is in
    let idle = ap (λ (j : JournalState g.row.D.Denot). j.pending) c.self.view_is ∙ c.requires.idle in
    kept-appended g.D.Disk.tells g.D.Disk.told c.self.inside.disk c.store.new.disk c.self.inside.past c.tell.new.self
    c.set.new.self c.args.payload.now c.self.inside.pending c.self.inside.gate c.self.inside.version c.store.new.version
    c.tell.ensures c.in-Ok.ensures idle c.self.invariant.gate_is c.store.ensures.same c.in-Ok-store.ensures.new_version
    (λ t. c.in-Ok-store.ensures.done t _ (c.self.invariant.rests idle t))

pub invariant_of-self-in-Err-Memory : goal.invariant_of-self-in-Err-Memory
invariant_of-self-in-Err-Memory g c =
    let disk = ap (λ (j : JournalState g.row.D.Denot). j.disk) c.self.view_is in
    let payloads = ap (λ (j : JournalState g.row.D.Denot). j.payloads) c.self.view_is in
    let idle = ap (λ (j : JournalState g.row.D.Denot). j.pending) c.self.view_is ∙ c.requires.idle in
    kept-same g.D.Disk.tells g.D.Disk.told c.self.inside.disk c.store.new.disk _ c.self.inside.pending
    c.self.inside.gate c.store.new.version idle c.self.invariant.gate_is c.store.ensures.same
    (λ t. c.in-Err-Memory.ensures.memory (err-is _ _ c.in-Err-Memory.field-0-is) t _ (c.self.invariant.rests idle t))

pub returns-in-Ok-store-clause-any_moment : goal.returns-in-Ok-store-clause-any_moment
returns-in-Ok-store-clause-any_moment g c =
    let disk = ap (λ (j : JournalState g.row.D.Denot). j.disk) c.self.view_is in
    let payloads = ap (λ (j : JournalState g.row.D.Denot). j.payloads) c.self.view_is in
    let idle = ap (λ (j : JournalState g.row.D.Denot). j.pending) c.self.view_is ∙ c.requires.idle in
    any-moment g.D.Disk.tells g.D.Disk.told _ _ disk _ _ payloads c.self.inside.version c.self.inside.gate
    c.args.payload.now _ (c.self.invariant.rests idle) c.store.ensures.any_moment

pub returns-in-Err-Memory-clause-any_moment : goal.returns-in-Err-Memory-clause-any_moment
returns-in-Err-Memory-clause-any_moment g c =
    let disk = ap (λ (j : JournalState g.row.D.Denot). j.disk) c.self.view_is in
    let payloads = ap (λ (j : JournalState g.row.D.Denot). j.payloads) c.self.view_is in
    let idle = ap (λ (j : JournalState g.row.D.Denot). j.pending) c.self.view_is ∙ c.requires.idle in
    any-moment g.D.Disk.tells g.D.Disk.told _ _ disk _ _ payloads c.self.inside.version c.self.inside.gate
    c.args.payload.now _ (c.self.invariant.rests idle) c.store.ensures.any_moment

pub returns-in-Err-Failed-clause-any_moment : goal.returns-in-Err-Failed-clause-any_moment
returns-in-Err-Failed-clause-any_moment g c =
    let disk = ap (λ (j : JournalState g.row.D.Denot). j.disk) c.self.view_is in
    let payloads = ap (λ (j : JournalState g.row.D.Denot). j.payloads) c.self.view_is in
    let idle = ap (λ (j : JournalState g.row.D.Denot). j.pending) c.self.view_is ∙ c.requires.idle in
    any-moment g.D.Disk.tells g.D.Disk.told _ _ disk _ _ payloads c.self.inside.version c.self.inside.gate
    c.args.payload.now _ (c.self.invariant.rests idle) c.store.ensures.any_moment

pub returns-in-Ok-store-clause-acknowledged : goal.returns-in-Ok-store-clause-acknowledged
returns-in-Ok-store-clause-acknowledged g c =
    let disk = ap (λ (j : JournalState g.row.D.Denot). j.disk) c.self.view_is in
    let payloads = ap (λ (j : JournalState g.row.D.Denot). j.payloads) c.self.view_is in
    let idle = ap (λ (j : JournalState g.row.D.Denot). j.pending) c.self.view_is ∙ c.requires.idle in
    held-more g.D.Disk.tells g.D.Disk.told _ _ disk _ _ payloads c.self.inside.version c.self.inside.gate
    c.args.payload.now _ _ (λ t. c.in-Ok-store.ensures.done t _ (c.self.invariant.rests idle t))

pub returns-in-Err-Memory-clause-still_held : goal.returns-in-Err-Memory-clause-still_held
returns-in-Err-Memory-clause-still_held g c =
    let disk = ap (λ (j : JournalState g.row.D.Denot). j.disk) c.self.view_is in
    let payloads = ap (λ (j : JournalState g.row.D.Denot). j.payloads) c.self.view_is in
    let idle = ap (λ (j : JournalState g.row.D.Denot). j.pending) c.self.view_is ∙ c.requires.idle in
    still-held g.D.Disk.tells g.D.Disk.told _ _ disk _ _ payloads c.self.inside.version c.self.inside.gate
    c.args.payload.now c.store.new.version _
    (λ t. c.in-Err-Memory.ensures.memory (err-is _ _ c.in-Err-Memory.field-0-is) t _ (c.self.invariant.rests idle t))

pub returns-in-Err-Failed-clause-waits : goal.returns-in-Err-Failed-clause-waits
returns-in-Err-Failed-clause-waits g c =
    let disk = ap (λ (j : JournalState g.row.D.Denot). j.disk) c.self.view_is in
    let payloads = ap (λ (j : JournalState g.row.D.Denot). j.payloads) c.self.view_is in
    let idle = ap (λ (j : JournalState g.row.D.Denot). j.pending) c.self.view_is ∙ c.requires.idle in
    now-pending g.D.Disk.tells g.D.Disk.told _ _ disk _ _ payloads c.self.inside.version c.self.inside.gate
    c.args.payload.now c.store.new.version _
    (λ t. c.in-Err-Failed.ensures.failed (err-is _ _ c.in-Err-Failed.field-0-is) t _ (c.self.invariant.rests idle t))

pub returns-in_default-clause-leaves_before : goal.returns-in_default-clause-leaves_before
returns-in_default-clause-leaves_before g c =
    let disk = ap (λ (j : JournalState g.row.D.Denot). j.disk) c.self.view_is in
    let payloads = ap (λ (j : JournalState g.row.D.Denot). j.payloads) c.self.view_is in
    let idle = ap (λ (j : JournalState g.row.D.Denot). j.pending) c.self.view_is ∙ c.requires.idle in
    not-begun g.D.Disk.tells g.D.Disk.told _ _ disk _ _ payloads c.self.inside.version c.self.inside.gate
    c.args.payload.now (c.self.invariant.rests idle)

pub returns-in-Err-Memory-clause-leaves_before : goal.returns-in-Err-Memory-clause-leaves_before
returns-in-Err-Memory-clause-leaves_before g c =
    let disk = ap (λ (j : JournalState g.row.D.Denot). j.disk) c.self.view_is in
    let payloads = ap (λ (j : JournalState g.row.D.Denot). j.payloads) c.self.view_is in
    let idle = ap (λ (j : JournalState g.row.D.Denot). j.pending) c.self.view_is ∙ c.requires.idle in
    only-before g.D.Disk.tells g.D.Disk.told _ _ disk _ _ payloads c.self.inside.version c.self.inside.gate
    c.args.payload.now _
    (λ t. c.in-Err-Memory.ensures.leaves_before (err-is _ _ c.in-Err-Memory.field-0-is) t _
    (c.self.invariant.rests idle t))

pub returns-in-Ok-store-clause-new_version : goal.returns-in-Ok-store-clause-new_version
returns-in-Ok-store-clause-new_version g c =
    let disk = ap (λ (j : JournalState g.row.D.Denot). j.disk) c.self.view_is in
    let payloads = ap (λ (j : JournalState g.row.D.Denot). j.payloads) c.self.view_is in
    let idle = ap (λ (j : JournalState g.row.D.Denot). j.pending) c.self.view_is ∙ c.requires.idle in
    reads-new g.D.Disk.tells g.D.Disk.told _ _ disk _ _ payloads c.self.inside.version c.self.inside.gate
    c.args.payload.now _ _ (λ t. c.in-Ok-store.ensures.done t _ (c.self.invariant.rests idle t))

pub returns-in-Ok-store-clause-cuts : goal.returns-in-Ok-store-clause-cuts
returns-in-Ok-store-clause-cuts g c =
    let disk = ap (λ (j : JournalState g.row.D.Denot). j.disk) c.self.view_is in
    let payloads = ap (λ (j : JournalState g.row.D.Denot). j.payloads) c.self.view_is in
    let version = ap (λ (j : JournalState g.row.D.Denot). j.version) c.self.view_is in
    cut-behind g.D.Disk.tells g.D.Disk.told _ _ disk _ _ payloads c.self.inside.version c.self.inside.gate
    c.args.payload.now c.store.new.version _ (g.D.Disk.told c.store.new.disk) c.self.invariant.gate_is version
    c.store.ensures.cuts

pub returns-in-Err-Memory-clause-cuts : goal.returns-in-Err-Memory-clause-cuts
returns-in-Err-Memory-clause-cuts g c =
    let disk = ap (λ (j : JournalState g.row.D.Denot). j.disk) c.self.view_is in
    let payloads = ap (λ (j : JournalState g.row.D.Denot). j.payloads) c.self.view_is in
    let version = ap (λ (j : JournalState g.row.D.Denot). j.version) c.self.view_is in
    cut-behind g.D.Disk.tells g.D.Disk.told _ _ disk _ _ payloads c.self.inside.version c.self.inside.gate
    c.args.payload.now c.store.new.version _ (g.D.Disk.told c.store.new.disk) c.self.invariant.gate_is version
    c.store.ensures.cuts

pub returns-in-Err-Failed-clause-cuts : goal.returns-in-Err-Failed-clause-cuts
returns-in-Err-Failed-clause-cuts g c =
    let disk = ap (λ (j : JournalState g.row.D.Denot). j.disk) c.self.view_is in
    let payloads = ap (λ (j : JournalState g.row.D.Denot). j.payloads) c.self.view_is in
    let version = ap (λ (j : JournalState g.row.D.Denot). j.version) c.self.view_is in
    cut-behind g.D.Disk.tells g.D.Disk.told _ _ disk _ _ payloads c.self.inside.version c.self.inside.gate
    c.args.payload.now c.store.new.version _ (g.D.Disk.told c.store.new.disk) c.self.invariant.gate_is version
    c.store.ensures.cuts

pub returns-in_default-clause-stays : goal.returns-in_default-clause-stays
returns-in_default-clause-stays g c =
    let disk = ap (λ (j : JournalState g.row.D.Denot). j.disk) c.self.view_is in
    let payloads = ap (λ (j : JournalState g.row.D.Denot). j.payloads) c.self.view_is in
    let version = ap (λ (j : JournalState g.row.D.Denot). j.version) c.self.view_is in
    let idle = ap (λ (j : JournalState g.row.D.Denot). j.pending) c.self.view_is ∙ c.requires.idle in
    stays-idle g.D.Disk.tells g.D.Disk.told _ _ disk _ _ payloads c.self.inside.version c.self.inside.gate
    c.args.payload.now _ version (c.self.invariant.rests idle)

pub returns-in-Ok-store-clause-stays : goal.returns-in-Ok-store-clause-stays
returns-in-Ok-store-clause-stays g c =
    let disk = ap (λ (j : JournalState g.row.D.Denot). j.disk) c.self.view_is in
    let payloads = ap (λ (j : JournalState g.row.D.Denot). j.payloads) c.self.view_is in
    let version = ap (λ (j : JournalState g.row.D.Denot). j.version) c.self.view_is in
    let idle = ap (λ (j : JournalState g.row.D.Denot). j.pending) c.self.view_is ∙ c.requires.idle in
    stays-new g.D.Disk.tells g.D.Disk.told _ _ disk _ _ payloads c.self.inside.version c.self.inside.gate
    c.args.payload.now _ (g.D.Disk.told c.store.new.disk) version (c.self.invariant.rests idle)
    c.store.ensures.stays

pub returns-in-Err-Memory-clause-stays : goal.returns-in-Err-Memory-clause-stays
returns-in-Err-Memory-clause-stays g c =
    let disk = ap (λ (j : JournalState g.row.D.Denot). j.disk) c.self.view_is in
    let payloads = ap (λ (j : JournalState g.row.D.Denot). j.payloads) c.self.view_is in
    let version = ap (λ (j : JournalState g.row.D.Denot). j.version) c.self.view_is in
    let idle = ap (λ (j : JournalState g.row.D.Denot). j.pending) c.self.view_is ∙ c.requires.idle in
    stays-new g.D.Disk.tells g.D.Disk.told _ _ disk _ _ payloads c.self.inside.version c.self.inside.gate
    c.args.payload.now _ (g.D.Disk.told c.store.new.disk) version (c.self.invariant.rests idle)
    c.store.ensures.stays

pub returns-in-Err-Failed-clause-stays : goal.returns-in-Err-Failed-clause-stays
returns-in-Err-Failed-clause-stays g c =
    let disk = ap (λ (j : JournalState g.row.D.Denot). j.disk) c.self.view_is in
    let payloads = ap (λ (j : JournalState g.row.D.Denot). j.payloads) c.self.view_is in
    let version = ap (λ (j : JournalState g.row.D.Denot). j.version) c.self.view_is in
    let idle = ap (λ (j : JournalState g.row.D.Denot). j.pending) c.self.view_is ∙ c.requires.idle in
    stays-new g.D.Disk.tells g.D.Disk.told _ _ disk _ _ payloads c.self.inside.version c.self.inside.gate
    c.args.payload.now _ (g.D.Disk.told c.store.new.disk) version (c.self.invariant.rests idle)
    c.store.ensures.stays

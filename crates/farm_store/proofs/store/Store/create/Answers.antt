-- What creating a store leaves, by the lemmas of `Foundings`.
use Rattle.std.proofs.Common.{◌∙◌, List, All, ap, refl, subst, sym}
use Rattle.entry_codec.specs.Grammar.{AreSpelled, IsWithinLimits}
use Rattle.entry_codec.specs.Spelling.{spelling}
use Rattle.farm_disk.proofs.Moments.{leaves_only-start}
use Rattle.farm_entry.specs.declared.entry.Entry.{Entry}
use Rattle.farm_journal.specs.Created.{IsUnborn}
use Rattle.farm_store.proofs.Ahead.{legal-within}
use Rattle.farm_store.proofs.Foundings.{first-fits, first-moments, first-since, first-stored, moments-start, since-start, store-founded}
use Rattle.farm_store.proofs.store.Store.create.Goals as goal

pub write_entries-requires : goal.write_entries-requires
write_entries-requires g c =
    subst (λ (l : List Entry). All (λ (e : Entry). IsWithinLimits e.what) l) (sym c.history.ensures.value)
    (legal-within c.args.farm.history c.history.ensures.legal)

pub returns-in_default-clause-since_sync : goal.returns-in_default-clause-since_sync
returns-in_default-clause-since_sync g c = λ t unborn. since-start (g.D.Disk.told c.args.disk) _

pub returns-in_default-clause-any_moment : goal.returns-in_default-clause-any_moment
returns-in_default-clause-any_moment g c = λ t unborn each. moments-start c.args.farm.history _ each

pub returns-in_default-clause-memory_moment : goal.returns-in_default-clause-memory_moment
returns-in_default-clause-memory_moment g c = λ t unborn each. leaves_only-start (g.D.Disk.told c.args.disk) IsUnborn each

pub create-requires : goal.create-requires
create-requires g c =
    first-fits c.args.farm.history c.history.ensures.legal c.in-Ok.payload.items
    (c.in-Ok.ensures.spelled ∙ ap spelling c.history.ensures.value)
    (subst AreSpelled c.history.ensures.value c.in-Ok.ensures.readable) c.requires

pub invariant_of-result : goal.invariant_of-result
invariant_of-result g c =
    store-founded c.args.farm.history c.history.ensures.legal c.in-Ok.payload.items
    (c.in-Ok.ensures.spelled ∙ ap spelling c.history.ensures.value)
    (subst AreSpelled c.history.ensures.value c.in-Ok.ensures.readable)
    g.D.Disk.tells g.D.Disk.told _ _ refl c.in-Ok-create.ensures.payload c.in-Ok-create.ensures.idle
    (λ t. c.in-Ok-create.ensures.held (sym c.in-Ok-create.ensures.same ∙ t))

pub returns-in-Ok-create-clause-stored : goal.returns-in-Ok-create-clause-stored
returns-in-Ok-create-clause-stored g c = λ t.
    first-stored c.args.farm.history c.history.ensures.legal c.in-Ok.payload.items
    (c.in-Ok.ensures.spelled ∙ ap spelling c.history.ensures.value)
    (subst AreSpelled c.history.ensures.value c.in-Ok.ensures.readable) _ (c.in-Ok-create.ensures.held t)

pub returns-in-Ok-create-clause-since_sync : goal.returns-in-Ok-create-clause-since_sync
returns-in-Ok-create-clause-since_sync g c = λ t unborn.
    first-since c.args.farm.history c.history.ensures.legal c.in-Ok.payload.items
    (c.in-Ok.ensures.spelled ∙ ap spelling c.history.ensures.value)
    (subst AreSpelled c.history.ensures.value c.in-Ok.ensures.readable)
    (g.D.Disk.told c.args.disk) (g.D.Disk.told c.in-Ok-create.journal.disk)
    (c.in-Ok-create.ensures.since_sync t unborn)

pub returns-in-Ok-create-clause-any_moment : goal.returns-in-Ok-create-clause-any_moment
returns-in-Ok-create-clause-any_moment g c = λ t unborn each.
    first-moments c.args.farm.history c.history.ensures.legal c.in-Ok.payload.items
    (c.in-Ok.ensures.spelled ∙ ap spelling c.history.ensures.value)
    (subst AreSpelled c.history.ensures.value c.in-Ok.ensures.readable) _ _
    (c.in-Ok-create.ensures.any_moment t unborn each)

pub returns-in-Err-clause-since_sync : goal.returns-in-Err-clause-since_sync
returns-in-Err-clause-since_sync g c = λ t unborn.
    first-since c.args.farm.history c.history.ensures.legal c.in-Ok.payload.items
    (c.in-Ok.ensures.spelled ∙ ap spelling c.history.ensures.value)
    (subst AreSpelled c.history.ensures.value c.in-Ok.ensures.readable)
    (g.D.Disk.told c.args.disk) (g.D.Disk.told c.in-Err.missed.0)
    (c.in-Err.ensures.since_sync t unborn)

pub returns-in-Err-clause-any_moment : goal.returns-in-Err-clause-any_moment
returns-in-Err-clause-any_moment g c = λ t unborn each.
    first-moments c.args.farm.history c.history.ensures.legal c.in-Ok.payload.items
    (c.in-Ok.ensures.spelled ∙ ap spelling c.history.ensures.value)
    (subst AreSpelled c.history.ensures.value c.in-Ok.ensures.readable) _ _
    (c.in-Err.ensures.any_moment t unborn each)

-- What each end of a repair leaves, by the lemmas of `Journals`.
use Rattle.std.proofs.Common.{◌≡◌, ◌≢◌, ◌+◌, ◌∙◌, ℕ, refl, ap, sym, subst, true, None, Option, List, length, get_or}
use Rattle.std.specs.Prelude.{IsSome}
use Rattle.farm_journal.specs.Found.{in_order}
use Rattle.farm_journal.specs.Layout.{gate_of}
use Rattle.farm_journal.specs.Mended.{Mends}
use Rattle.farm_journal.specs.State.{JournalState, IsHeld, IsKept}
use Rattle.farm_journal.specs.declared.mending.Repaired.{Repaired}
use Rattle.farm_journal.proofs.Public.{rests-public, version-stands, waits-within}
use Rattle.farm_journal.proofs.Journals.{kept-kept, kept-same, kept-waiting, some-value, mend-moment, still-waits}
use Rattle.farm_journal.proofs.journal.Journal.repair.Goals as goal

pub mend-requires : goal.mend-requires
mend-requires g c t =
    let pending = ap (λ (j : JournalState g.row.D.Denot). j.pending) c.self.view_is in
    let some = some-value c.self.inside.pending (subst (λ (o : Option (List ℕ)). IsSome o) (sym pending) c.requires) in
    waits-within c.self.inside.version _ c.self.inside.gate some.0 _ (c.self.invariant.waits some.0 some.1 t)

pub invariant_of-self : goal.invariant_of-self
invariant_of-self g c =
    let there = sym c.in-Some.ensures.value in
    let mends = λ (t : g.D.Disk.tells c.self.inside.disk ≡ true). subst
    (λ (r : Repaired). Mends c.self.inside.version (in_order c.self.inside.past) c.self.inside.gate c.in-Some.payload r
    (g.D.Disk.told c.mend.new.disk)) c.in-Ok-Kept.field-0-is
    (c.in-Ok-Kept.ensures.named t c.self.inside.version (in_order c.self.inside.past) c.in-Some.payload
    (c.self.invariant.waits c.in-Some.payload there t)) in
    subst (λ (l : List ℕ). IsKept g.D.Disk.tells g.D.Disk.told (in_order c.tell.new.self) c.take.new.self
    (c.self.inside.gate + (5 + length l)) 2 c.mend.new.disk) (sym c.bytes.ensures)
    (kept-kept g.D.Disk.tells g.D.Disk.told c.self.inside.disk c.mend.new.disk c.self.inside.past c.tell.new.self
    c.in-Some.payload c.take.new.self c.self.inside.gate
    c.tell.ensures c.take.ensures.after c.self.invariant.gate_is c.mend.ensures.same (λ t. (mends t).0))

pub invariant_of-self-in-Ok-Dropped : goal.invariant_of-self-in-Ok-Dropped
invariant_of-self-in-Ok-Dropped g c =
    let pending = ap (λ (j : JournalState g.row.D.Denot). j.pending) c.self.view_is in
    let some = some-value c.self.inside.pending (subst (λ (o : Option (List ℕ)). IsSome o) (sym pending) c.requires) in
    let mends = λ (t : g.D.Disk.tells c.self.inside.disk ≡ true). subst
    (λ (r : Repaired). Mends c.self.inside.version (in_order c.self.inside.past) c.self.inside.gate some.0 r
    (g.D.Disk.told c.mend.new.disk)) c.in-Ok-Dropped.field-0-is
    (c.in-Ok-Dropped.ensures.named t c.self.inside.version (in_order c.self.inside.past) some.0
    (c.self.invariant.waits some.0 some.1 t)) in
    kept-same g.D.Disk.tells g.D.Disk.told c.self.inside.disk c.mend.new.disk (in_order c.self.inside.past) None
    c.self.inside.gate c.self.inside.version refl c.self.invariant.gate_is c.mend.ensures.same (λ t. (mends t).0)

pub invariant_of-self-in-Err : goal.invariant_of-self-in-Err
invariant_of-self-in-Err g c =
    let pending = ap (λ (j : JournalState g.row.D.Denot). j.pending) c.self.view_is in
    kept-waiting g.D.Disk.tells g.D.Disk.told c.self.inside.disk c.mend.new.disk (in_order c.self.inside.past)
    c.self.inside.pending c.self.inside.gate c.self.inside.version
    (subst (λ (o : Option (List ℕ)). IsSome o) (sym pending) c.requires) c.self.invariant c.mend.ensures.same
    (λ t p waits. c.mend.ensures.waits t _ _ p waits)

pub returns-in-Some-clause-any_moment : goal.returns-in-Some-clause-any_moment
returns-in-Some-clause-any_moment g c tells p held =
    let disk = ap (λ (j : JournalState g.row.D.Denot). j.disk) c.self.view_is in
    let payloads = ap (λ (j : JournalState g.row.D.Denot). j.payloads) c.self.view_is in
    let pending = ap (λ (j : JournalState g.row.D.Denot). j.pending) c.self.view_is in
    mend-moment g.D.Disk.tells g.D.Disk.told _ _ disk _ _ payloads c.self.inside.version c.self.inside.gate p
    (c.self.invariant.waits p (pending ∙ held)) _
    (λ t waits. c.mend.ensures.any_moment t _ _ p waits) tells

pub returns-in-Ok-Dropped-clause-any_moment : goal.returns-in-Ok-Dropped-clause-any_moment
returns-in-Ok-Dropped-clause-any_moment g c tells p held =
    let disk = ap (λ (j : JournalState g.row.D.Denot). j.disk) c.self.view_is in
    let payloads = ap (λ (j : JournalState g.row.D.Denot). j.payloads) c.self.view_is in
    let pending = ap (λ (j : JournalState g.row.D.Denot). j.pending) c.self.view_is in
    mend-moment g.D.Disk.tells g.D.Disk.told _ _ disk _ _ payloads c.self.inside.version c.self.inside.gate p
    (c.self.invariant.waits p (pending ∙ held)) _
    (λ t waits. c.mend.ensures.any_moment t _ _ p waits) tells

pub returns-in-Err-clause-any_moment : goal.returns-in-Err-clause-any_moment
returns-in-Err-clause-any_moment g c tells p held =
    let disk = ap (λ (j : JournalState g.row.D.Denot). j.disk) c.self.view_is in
    let payloads = ap (λ (j : JournalState g.row.D.Denot). j.payloads) c.self.view_is in
    let pending = ap (λ (j : JournalState g.row.D.Denot). j.pending) c.self.view_is in
    mend-moment g.D.Disk.tells g.D.Disk.told _ _ disk _ _ payloads c.self.inside.version c.self.inside.gate p
    (c.self.invariant.waits p (pending ∙ held)) _
    (λ t waits. c.mend.ensures.any_moment t _ _ p waits) tells

pub returns-in-Some-clause-held : goal.returns-in-Some-clause-held
returns-in-Some-clause-held g c tells =
    let disk = ap (λ (j : JournalState g.row.D.Denot). j.disk) c.self.view_is in
    let t = subst (λ (x : g.row.D.Denot). g.D.Disk.tells x ≡ true) (sym disk) tells in
    let there = sym c.in-Some.ensures.value in
    let mends = subst
    (λ (r : Repaired). Mends c.self.inside.version (in_order c.self.inside.past) c.self.inside.gate c.in-Some.payload r
    (g.D.Disk.told c.mend.new.disk)) c.in-Ok-Kept.field-0-is
    (c.in-Ok-Kept.ensures.named t c.self.inside.version (in_order c.self.inside.past) c.in-Some.payload
    (c.self.invariant.waits c.in-Some.payload there t)) in
    subst (λ (l : List (List ℕ)). IsHeld l (g.D.Disk.told c.mend.new.disk)) (sym (ap in_order c.tell.ensures))
    (rests-public 2 _ _ _ mends.0)

pub returns-in-Some-clause-by_the_gate : goal.returns-in-Some-clause-by_the_gate
returns-in-Some-clause-by_the_gate g c tells =
    let disk = ap (λ (j : JournalState g.row.D.Denot). j.disk) c.self.view_is in
    let payloads = ap (λ (j : JournalState g.row.D.Denot). j.payloads) c.self.view_is in
    let t = subst (λ (x : g.row.D.Denot). g.D.Disk.tells x ≡ true) (sym disk) tells in
    let there = sym c.in-Some.ensures.value in
    let mends = subst
    (λ (r : Repaired). Mends c.self.inside.version (in_order c.self.inside.past) c.self.inside.gate c.in-Some.payload r
    (g.D.Disk.told c.mend.new.disk)) c.in-Ok-Kept.field-0-is
    (c.in-Ok-Kept.ensures.named t c.self.inside.version (in_order c.self.inside.past) c.in-Some.payload
    (c.self.invariant.waits c.in-Some.payload there t)) in
    subst (λ (k : ℕ). get_or (g.D.Disk.told c.mend.new.disk).bytes k 0 ≢ 0)
    (c.self.invariant.gate_is ∙ ap gate_of payloads) mends.1

pub returns-in-Ok-Dropped-clause-held : goal.returns-in-Ok-Dropped-clause-held
returns-in-Ok-Dropped-clause-held g c tells =
    let disk = ap (λ (j : JournalState g.row.D.Denot). j.disk) c.self.view_is in
    let pending = ap (λ (j : JournalState g.row.D.Denot). j.pending) c.self.view_is in
    let some = some-value c.self.inside.pending (subst (λ (o : Option (List ℕ)). IsSome o) (sym pending) c.requires) in
    let t = subst (λ (x : g.row.D.Denot). g.D.Disk.tells x ≡ true) (sym disk) tells in
    let mends = subst
    (λ (r : Repaired). Mends c.self.inside.version (in_order c.self.inside.past) c.self.inside.gate some.0 r
    (g.D.Disk.told c.mend.new.disk)) c.in-Ok-Dropped.field-0-is
    (c.in-Ok-Dropped.ensures.named t c.self.inside.version (in_order c.self.inside.past) some.0
    (c.self.invariant.waits some.0 some.1 t)) in
    rests-public c.self.inside.version _ c.self.inside.gate _ mends.0

pub returns-in-Ok-Dropped-clause-by_the_gate : goal.returns-in-Ok-Dropped-clause-by_the_gate
returns-in-Ok-Dropped-clause-by_the_gate g c tells =
    let disk = ap (λ (j : JournalState g.row.D.Denot). j.disk) c.self.view_is in
    let payloads = ap (λ (j : JournalState g.row.D.Denot). j.payloads) c.self.view_is in
    let pending = ap (λ (j : JournalState g.row.D.Denot). j.pending) c.self.view_is in
    let some = some-value c.self.inside.pending (subst (λ (o : Option (List ℕ)). IsSome o) (sym pending) c.requires) in
    let t = subst (λ (x : g.row.D.Denot). g.D.Disk.tells x ≡ true) (sym disk) tells in
    let mends = subst
    (λ (r : Repaired). Mends c.self.inside.version (in_order c.self.inside.past) c.self.inside.gate some.0 r
    (g.D.Disk.told c.mend.new.disk)) c.in-Ok-Dropped.field-0-is
    (c.in-Ok-Dropped.ensures.named t c.self.inside.version (in_order c.self.inside.past) some.0
    (c.self.invariant.waits some.0 some.1 t)) in
    subst (λ (k : ℕ). get_or (g.D.Disk.told c.mend.new.disk).bytes k 0 ≡ 0)
    (c.self.invariant.gate_is ∙ ap gate_of payloads) mends.1

pub returns-in-Err-clause-waits : goal.returns-in-Err-clause-waits
returns-in-Err-clause-waits g c tells p held =
    let disk = ap (λ (j : JournalState g.row.D.Denot). j.disk) c.self.view_is in
    let payloads = ap (λ (j : JournalState g.row.D.Denot). j.payloads) c.self.view_is in
    let pending = ap (λ (j : JournalState g.row.D.Denot). j.pending) c.self.view_is in
    still-waits g.D.Disk.tells g.D.Disk.told _ _ disk _ _ payloads c.self.inside.version c.self.inside.gate p
    (c.self.invariant.waits p (pending ∙ held)) _
    (λ t waits. c.mend.ensures.waits t _ _ p waits) tells

pub returns-in-Some-clause-new_version : goal.returns-in-Some-clause-new_version
returns-in-Some-clause-new_version g c kept tells =
    let disk = ap (λ (j : JournalState g.row.D.Denot). j.disk) c.self.view_is in
    let t = subst (λ (x : g.row.D.Denot). g.D.Disk.tells x ≡ true) (sym disk) tells in
    let there = sym c.in-Some.ensures.value in
    let mends = subst
    (λ (r : Repaired). Mends c.self.inside.version (in_order c.self.inside.past) c.self.inside.gate c.in-Some.payload r
    (g.D.Disk.told c.mend.new.disk)) c.in-Ok-Kept.field-0-is
    (c.in-Ok-Kept.ensures.named t c.self.inside.version (in_order c.self.inside.past) c.in-Some.payload
    (c.self.invariant.waits c.in-Some.payload there t)) in
    version-stands _ _ _ mends.0.stands

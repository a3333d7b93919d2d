use Rattle.std.proofs.Common.{List, ap, subst, sym, ◌∙◌, ◌≡◌, ◌+◌, ℕ, Some}
use Rattle.atomic_table.specs.Seated.{TableId}
use Rattle.farm_store.specs.State.{StoreState}
use Rattle.common_types.proofs.Prefixes.{IsPrefix-equal}
use Rattle.turn_lock.specs.Known.{Known}
use Rattle.turn_lock.specs.declared.view.Taken.{Taken}
use Rattle.common_types.proofs.Rows.{IsOlder-refl}
use Rattle.common_types.specs.Rows.{IsOlder}
use Rattle.common_types.specs.declared.row.Row.{Row}
use Rattle.shared_farm.specs.Turns.{KeepsPass}
use Rattle.shared_farm.proofs.Accounting.{looked-accounts}
use Rattle.shared_farm.proofs.Turning.{IsTaken, look-keeps, look-stake, taken-found}
use Rattle.shared_farm.proofs.farm.SharedFarm.reader.Goals as goal

-- what the lock holds stands for, by its store
abbrev taken_of : {D : Type 0} → (D → ℕ) → StoreState D → Taken
taken_of count s = record { entries = s.history; count = count s.disk; pending = s.pending }

-- the turn took just the store that it gave back
same_store : (g : _) (c : goal.After-ring_next g)
    → c.reader-reader.new.self.store ≡ c.turn-turn.result.value.value.store
same_store g c = ap (λ l. l.store) (c.reader-reader.ensures.same ∙ c.deref_mut.ensures.value)

same_taken : (g : _) (c : goal.After-ring_next g) → c.turn-turn.result.before.taken
    ≡ taken_of g.D.Disk.count c.reader-reader.new.self.store
same_taken g c =
    c.turn-turn.ensures.taken
    ∙ ap (λ (s : StoreState g.row.D.Denot). taken_of g.D.Disk.count s) (sym (same_store g c))

pub back-requires-clause-grown : goal.back-requires-clause-grown
back-requires-clause-grown g c =
    let turn = c.turn-turn.result in
    let after = c.reader-reader.new.self.store in
    IsPrefix-equal turn.before.taken.entries after.history
    (ap (λ (t : Taken). t.entries) c.turn-turn.ensures.taken
    ∙ ap (λ (s : StoreState g.row.D.Denot). s.history)
    (sym (ap (λ l. l.store) (c.reader-reader.ensures.same ∙ c.deref_mut.ensures.value))))

pub returns-clause-look : goal.returns-clause-look
returns-clause-look g c =
    let new = c.back.ensures.pass in
    let last : c.back.new.pass.last ≡ taken_of g.D.Disk.count c.reader-reader.new.self.store =
    ap (λ (k : Known). k.last) new ∙ same_taken g c in
    record {
      used = ap (λ (k : Known). k.uses) new ∙ ap (λ (k : Known). k.uses + 1) c.turn-turn.ensures.pass;
      seen = ap (λ (k : Known). k.seen) new ∙ ap (λ (t : Taken). t.entries) (sym last);
      faults = ap (λ (k : Known). k.faults) new ∙ ap (λ (t : Taken). t.count) (sym last);
      pending = ap (λ (k : Known). k.pending) new ∙ ap (λ (t : Taken). Some t.pending) (sym last);
      stake = look-stake c.back.new.pass c.args.pass.now c.turn-turn.result.before c.self.inside.lock _ _ _ _ _ _
          c.turn-turn.ensures.failed c.turn-turn.ensures.pass new;
    }

pub returns-clause-keeps : goal.returns-clause-keeps
returns-clause-keeps g c =
    let turn = c.turn-turn in
    let count = g.D.Disk.count in
    let found = turn.result.value.value.store in
    let left = c.reader-reader.new.self.store in
    let taken : IsTaken count c.args.pass.now turn.result.before left =
    taken-found count c.args.pass.now turn.result.before found left (same_store g c) turn.ensures.taken
    turn.ensures.settled turn.ensures.seen turn.ensures.faults in
    subst (λ (lock : TableId). KeepsPass lock c.args.pass.now c.back.new.pass) c.self.view_is
    (look-keeps count c.args.pass.now c.back.new.pass turn.result.before left turn.result.own c.self.inside.lock _
    turn.ensures.pass taken turn.ensures.places c.reader-reader.ensures.legal turn.ensures.own c.requires.ready.some _
    c.back.ensures.pass)

pub back-requires-clause-logged : goal.back-requires-clause-logged
back-requires-clause-logged g c =
    subst (λ (l : List Row). IsOlder c.turn-turn.result.before.log l)
    (c.turn-turn.ensures.log ∙ ap (λ l. l.log) (sym (c.reader-reader.ensures.same ∙ c.deref_mut.ensures.value)))
    (IsOlder-refl c.turn-turn.result.before.log)

pub back-requires-clause-owned : goal.back-requires-clause-owned
back-requires-clause-owned g c =
    let turn = c.turn-turn.result in
    let after = c.reader-reader.new.self.store in
    let took = c.turn-turn.ensures.taken in
    let same : after ≡ turn.value.value.store =
    ap (λ l. l.store) (c.reader-reader.ensures.same ∙ c.deref_mut.ensures.value) in
    looked-accounts turn.before.taken after.history after.pending turn.own turn.failed
    (ap (λ (s : StoreState g.row.D.Denot). s.history) same ∙ sym (ap (λ (t : Taken). t.entries) took))
    (ap (λ (s : StoreState g.row.D.Denot). s.pending) same ∙ sym (ap (λ (t : Taken). t.pending) took))

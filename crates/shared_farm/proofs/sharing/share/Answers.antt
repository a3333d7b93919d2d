-- The turn of the one who asked for all, by the lemmas of `Members` and `Handing`.
use Rattle.std.proofs.Common.{◌≡◌, ◌∷◌, ◌∙◌, ◌≤◌, ◌<◌, ◌-◌, ◌++◌, [], List, ℕ, Result, Ok, Err, Vec, Global, length, take, drop, get_or, le_refl, map, ap, refl, sym, subst, arith}
use Rattle.farm_entry.specs.declared.entry.Entry.{Entry}
use Rattle.farm_store.specs.Answering.{BatchSays}
use Rattle.farm_store.specs.Faults.{HasCallCause}
use Rattle.farm_store.specs.State.{StoreState}
use Rattle.farm_store.specs.Together.{TogetherSays, all_asks}
use Rattle.farm_store.specs.declared.asking.CallFault.{CallFault}
use Rattle.farm_store.specs.declared.asking.Ask.{Ask}
use Rattle.farm_store.specs.declared.asking.Part.{Part}
use Rattle.common_types.proofs.Rows.{IsOlder-trans}
use Rattle.common_types.specs.Rows.{IsOlder}
use Rattle.common_types.specs.declared.row.Row.{Row}
use Rattle.turn_lock.specs.Known.{Known}
use Rattle.common_types.proofs.Prefixes.{IsPrefix-length}
use Rattle.shared_farm.specs.Errands.{errands_asks}
use Rattle.shared_farm.specs.Logs.{IsOver}
use Rattle.shared_farm.specs.Outcomes.{HadTurn}
use Rattle.shared_farm.specs.Rounds.{first_asks}
use Rattle.shared_farm.specs.declared.errand.Errand.{Errand}
use Rattle.shared_farm.specs.declared.sharing.TheConstants.{MOST_PARTS}
use Rattle.shared_farm.specs.Turns.{failed_by}
use Rattle.shared_farm.proofs.Accounting.{failed-fault}
use Rattle.shared_farm.proofs.Handing.{AreErrands, all-first, first-rest, first-same, helped-errands, helped-same, length-same, lent-back, rest-same}
use Rattle.shared_farm.proofs.Members.{AreStored, IsOnward, failed-accounts, failed-had, given-stored, shared-on, stored-had, stored-onward, take-begins}
use Rattle.shared_farm.proofs.Turning.{IsTaken, over-after, taken-found}
use Rattle.shared_farm.proofs.sharing.share.Goals.{After-remove-asks, After-run-turn, In-Ok}
use Rattle.shared_farm.proofs.sharing.share.Goals as goal

-- the parts as they come back
back : (old : Vec Part Global) (new lent : List Part) (part : Part) (later : List Part) (lent_is : lent ≡ old.items)
    → map (λ (p : Part). p.asks) new ≡ map (λ (p : Part). p.asks) lent
    → part ≡ get_or (take old.len (new ++ drop (length new) old.items)) 0 part
    → later ≡ drop 1 (take old.len (new ++ drop (length new) old.items)) → 0 < length old.items → new ≡ part ∷ later
back old new lent part later lent_is same first rest some =
    let n : length new ≡ length old.items =
    length-same lent new same ∙ ap (λ (l : List Part). length l) lent_is in
    let whole = lent-back old new n in
    first-rest new later part (subst (λ (l : List Part). part ≡ get_or l 0 part) whole first)
    (subst (λ (l : List Part). later ≡ drop 1 l) whole rest) (omega (arith, n, some))

some_parts : (ps : List Part) → 1 ≤ length (first_asks ps) → 0 < length ps
some_parts [] some = absurd (omega (arith, some))
some_parts (p ∷ ps) some = omega arith

-- and the others are fewer than share a record
few_others : (ps : List Part) (errands : List Errand) → length errands ≡ length (drop 1 ps)
    → 1 ≤ length (first_asks ps) → length ps ≤ MOST_PARTS → length errands < MOST_PARTS
few_others [] errands is some few = absurd (omega (arith, some))
few_others (p ∷ ps) errands is some few = omega (arith, is, few)

-- the parts that came back are the first one and the others, which ask what they were lent with
record IsParted (old : List Part) (new : List Part) (part : Part) (later : List Part) : Type 0 where
  whole : new ≡ part ∷ later
  others : map (λ (p : Part). p.asks) later ≡ map (λ (p : Part). p.asks) (drop 1 old)
  first : part.asks.items ≡ first_asks old

parted : (g : _) (c : After-remove-asks g)
    → IsParted c.args.parts.items c.call_together-result.new.parts c.remove-asks.result c.remove-asks.new.self.items
parted g c =
    let old = c.args.parts in
    let gave = c.call_together-result in
    let lent_is = c.deref_mut-2.ensures.value in
    let is = back old gave.new.parts c.deref_mut-2.result.now c.remove-asks.result c.remove-asks.new.self.items lent_is
    gave.ensures.asks c.remove-asks.ensures.value c.remove-asks.ensures.by_index.2
    (some_parts old.items c.requires.some) in
    let kept : map (λ (p : Part). p.asks) gave.new.parts ≡ map (λ (p : Part). p.asks) old.items =
    gave.ensures.asks ∙ ap (λ (l : List Part). map (λ (p : Part). p.asks) l) lent_is in
    record {
      whole = is;
      others = ap (λ (l : List Part). map (λ (p : Part). p.asks) (drop 1 l)) (sym is)
          ∙ rest-same old.items gave.new.parts kept;
      first = ap (λ (l : List Part). first_asks l) (sym is) ∙ first-same old.items gave.new.parts kept;
    }

-- the store that answers is the one that the turn took
taken : (g : _) (c : After-remove-asks g)
    → IsTaken g.D.Disk.count c.args.turn.before.pass c.args.turn.before c.deref_mut.result.now.store
taken g c =
    let first = c.requires.begins in
    taken-found g.D.Disk.count c.args.turn.before.pass c.args.turn.before c.args.turn.value.value.store
    c.deref_mut.result.now.store (ap (λ l. l.store) c.deref_mut.ensures.value) first.took first.settled first.seen
    first.faults

-- what the call came to, by the arm that is gone on with
says_of : {D : Type 0} (parts given : List Part) (result arm : Result (Unit {0}) CallFault) (old new : StoreState D)
    → result ≡ arm → TogetherSays parts given result old new → TogetherSays parts given arm old new
says_of parts given result arm old new is says =
    subst (λ (r : Result (Unit {0}) CallFault). TogetherSays parts given r old new) is says

-- the record was stored: the asks of the first part begin where the turn's own places do
stored : (g : _) (c : In-Ok g)
    → IsParted c.args.parts.items c.call_together-result.new.parts c.remove-asks.result c.remove-asks.new.self.items
    → AreStored g.D.Disk.count c.deref_mut.result.now.store c.call_together-result.new.self.store
    (length c.history.result.now - c.recorded.result) (c.remove-asks.result ∷ c.remove-asks.new.self.items)
stored g c is =
    let gave = c.call_together-result in
    let store = gave.new.self.store in
    let count = g.D.Disk.count in
    let old = c.deref_mut.result.now.store in
    let start = length c.history.result.now - c.recorded.result in
    let start_is : start ≡ length store.history - store.recorded =
    ap (λ (n : ℕ). n - c.recorded.result)
    (ap (λ (l : List Entry). length l) (c.history.ensures.value ∙ ap (λ l. l.store.history) c.deref.ensures))
    ∙ ap (λ (n : ℕ). length store.history - n) (c.recorded.ensures ∙ ap (λ l. l.store.recorded) c.deref-2.ensures) in
    subst (λ (l : List Part). AreStored count old store start l) is.whole
    (given-stored count old store c.deref_mut-2.result.now gave.new.parts start
    (says_of c.deref_mut-2.result.now gave.new.parts gave.result (Ok c.in-Ok.field-0) old store c.in-Ok.is
    gave.ensures.says) start_is gave.ensures.goes_on)

-- and the turn may go on behind the first part
onward : (g : _) (c : After-run-turn g) → AreStored g.D.Disk.count c.deref_mut.result.now.store
    c.call_together-result.new.self.store (length c.history.result.now - c.recorded.result)
    (c.remove-asks.result ∷ c.remove-asks.new.self.items)
    → IsTaken g.D.Disk.count c.args.turn.before.pass c.args.turn.before c.deref_mut.result.now.store
    → IsOnward g.D.Disk.count c.call_together-result.new.self.store c.remove-asks.result c.remove-asks.new.self.items
    c.args.turn.before.taken c.run-turn.result
onward g c all took =
    stored-onward g.D.Disk.count c.deref_mut.result.now.store c.call_together-result.new.self.store
    (length c.history.result.now - c.recorded.result) c.remove-asks.result c.remove-asks.new.self.items
    c.args.turn.before.taken c.run-turn.result all took.took c.run-turn.ensures

pub overflow_sub-end : goal.overflow_sub-end
overflow_sub-end g c =
    let at = goal.at.overflow_sub-end g c in
    let start = length c.history.result.now - c.recorded.result in
    (shared-on c.call_together-result.new.self.store start c.remove-asks.result
    c.remove-asks.new.self.items (stored g at.In-Ok (parted g at.After-remove-asks)).shared).1

pub share_out-requires-clause-grown : goal.share_out-requires-clause-grown
share_out-requires-clause-grown g c κs within =
    let at = goal.at.share_out-requires-clause-grown g c in
    let b = at.After-remove-asks in
    (onward g at.After-run-turn (stored g at.In-Ok (parted g b)) (taken g b)).grown

pub share_out-requires-clause-places : goal.share_out-requires-clause-places
share_out-requires-clause-places g c κs within =
    let at = goal.at.share_out-requires-clause-places g c in
    let b = at.After-remove-asks in
    (onward g at.After-run-turn (stored g at.In-Ok (parted g b)) (taken g b)).places

pub share_out-requires-clause-shared : goal.share_out-requires-clause-shared
share_out-requires-clause-shared g c κs within =
    let at = goal.at.share_out-requires-clause-shared g c in
    let b = at.After-remove-asks in
    (onward g at.After-run-turn (stored g at.In-Ok (parted g b)) (taken g b)).shared

pub share_out-requires-clause-helped : goal.share_out-requires-clause-helped
share_out-requires-clause-helped g c κs within =
    helped-same c.args.lock.now c.args.errands.now (drop 1 c.args.parts.items) c.remove-asks.new.self.items
    c.args.group.items (parted g (goal.at.share_out-requires-clause-helped g c).After-remove-asks).others
    c.requires.helped

pub ask_each-requires-clause-helped : goal.ask_each-requires-clause-helped
ask_each-requires-clause-helped g c κs within =
    helped-same c.args.lock.now c.args.errands.now (drop 1 c.args.parts.items) c.remove-asks.new.self.items
    c.args.group.items (parted g (goal.at.ask_each-requires-clause-helped g c).After-remove-asks).others
    c.requires.helped

pub returns-in-Ok-clause-had : goal.returns-in-Ok-clause-had
returns-in-Ok-clause-had g c =
    let at = goal.at.returns-in-Ok-clause-had g c in
    let is = parted g at.After-remove-asks in
    let count = g.D.Disk.count in
    let part = c.remove-asks.result in
    let known = c.args.turn.before.pass in
    let start = length c.history.result.now - c.recorded.result in
    subst (λ (l : List Ask). HadTurn count c.args.lock.now l (Ok part.answers) known c.share_out.new.pass) is.first
    (stored-had count c.deref_mut.result.now.store c.call_together-result.new.self.store start part
    c.remove-asks.new.self.items
    known c.share_out.new.pass c.args.turn.before c.run-turn.result c.args.lock.now (stored g at.In-Ok is) refl
    (taken g at.After-remove-asks) c.requires.begins.places c.run-turn.ensures c.requires.part c.has_failed.result
    (c.has_failed.ensures ∙ ap (λ r. failed_by r) c.in-Ok.is) c.call_together-result.new.self.log
    c.share_out.ensures.pass)

pub returns-clause-had : goal.returns-clause-had
returns-clause-had g c =
    let parts = c.args.parts.items in
    let gave = c.call_together-result in
    let old = c.deref_mut.result.now.store in
    let store = gave.new.self.store in
    let f = c.in-Err.fault in
    let lock = c.args.lock.now in
    let later = drop 1 parts in
    let jobs = map (λ h. h.taken.job) c.args.group.items in
    let errands : AreErrands lock later jobs =
    helped-errands lock c.args.errands.now later c.args.group.items c.requires.helped in
    let says : BatchSays (first_asks parts ++ errands_asks jobs) (Err f) old store =
    subst (λ (l : List Ask). BatchSays l (Err f) old store)
    (ap (λ (l : List Part). all_asks l) c.deref_mut-2.ensures.value ∙ sym (all-first parts)
    ∙ ap (λ (l : List Ask). first_asks parts ++ l) errands.asks)
    (says_of c.deref_mut-2.result.now gave.new.parts gave.result (Err f) old store c.in-Err.is gave.ensures.says) in
    let first = g.D.Disk.count old.disk in
    let last = g.D.Disk.count store.disk in
    failed-had g.D.Disk.count old store (first_asks parts) jobs f c.args.turn.before.pass c.ask_each.new.pass
    c.args.turn.before c.args.turn.own lock c.requires.own errands.each
    (few_others parts jobs errands.count c.requires.some c.requires.few) says
    (subst (λ (r : Result (Unit {0}) CallFault). HasCallCause r first last) c.in-Err.is gave.ensures.cause)
    gave.ensures.goes_on refl (taken g (goal.at.returns-clause-had g c).After-remove-asks) c.requires.begins.places
    c.requires.nothing c.requires.part c.has_failed.result
    (c.has_failed.ensures ∙ ap (λ r. failed_by r) c.in-Err.is ∙ failed-fault f) gave.new.self.log
    c.ask_each.ensures.pass

pub share_out-requires-clause-owned : goal.share_out-requires-clause-owned
share_out-requires-clause-owned g c κs within =
    let at = goal.at.share_out-requires-clause-owned g c in
    let b = at.After-remove-asks in
    (onward g at.After-run-turn (stored g at.In-Ok (parted g b)) (taken g b)).accounts c.has_failed.result

pub ask_each-requires-clause-owned : goal.ask_each-requires-clause-owned
ask_each-requires-clause-owned g c κs within =
    let gave = c.call_together-result in
    let old = c.deref_mut.result.now.store in
    let store = gave.new.self.store in
    let f = c.in-Err.fault in
    failed-accounts g.D.Disk.count old store (all_asks c.deref_mut-2.result.now) f c.args.turn.before.taken
    c.args.turn.own c.has_failed.result
    (says_of c.deref_mut-2.result.now gave.new.parts gave.result (Err f) old store c.in-Err.is gave.ensures.says)
    gave.ensures.goes_on
    (taken g (goal.at.ask_each-requires-clause-owned g c).After-remove-asks).took c.requires.nothing
    (c.has_failed.ensures ∙ ap (λ r. failed_by r) c.in-Err.is ∙ failed-fault f)

-- the turn's log only got newer rows
told : (g : _) (c : After-remove-asks g) → IsOlder c.args.turn.before.log c.call_together-result.new.self.log
told g c =
    let gave = c.call_together-result in
    let older : IsOlder c.args.turn.value.value.log gave.new.self.log =
    subst (λ (l : List Row). IsOlder l gave.new.self.log) (ap (λ l. l.log) c.deref_mut.ensures.value) gave.ensures.told
    in
    IsOlder-trans c.args.turn.before.log c.args.turn.value.value.log gave.new.self.log c.requires.logged older

pub share_out-requires-clause-logged : goal.share_out-requires-clause-logged
share_out-requires-clause-logged g c κs within =
    told g (goal.at.share_out-requires-clause-logged g c).After-remove-asks

pub ask_each-requires-clause-logged : goal.ask_each-requires-clause-logged
ask_each-requires-clause-logged g c κs within =
    told g (goal.at.ask_each-requires-clause-logged g c).After-remove-asks

-- the moment that was asked for behind the record is that of the newest row, which has all entries
over : (g : _) (c : After-remove-asks g) (new : Known)
    → new.rows ≡ take 1 c.call_together-result.new.self.log ++ c.args.turn.before.pass.rows
    → length new.seen ≤ length c.call_together-result.new.self.store.history
    → IsOver (g.D.Over.Past.at c.passed-over.result) new
over g c new rows holds =
    let asked = c.passed-over in
    over-after g.D.DatedDisk.dated (g.D.Over.Past.at asked.result) new c.call_together-result.new.self
    c.deref-4.result.now
    c.args.turn.before.pass.rows c.deref-4.ensures asked.ensures.newest asked.ensures.over rows holds

pub returns-in-Ok-clause-over : goal.returns-in-Ok-clause-over
returns-in-Ok-clause-over g c =
    let H = c.call_together-result.new.self.store.history in
    let part = c.remove-asks.result in
    over g (goal.at.returns-in-Ok-clause-over g c).After-remove-asks c.share_out.new.pass
    (ap (λ (k : Known). k.rows) c.share_out.ensures.pass)
    (subst (λ (l : List Entry). length l ≤ length H) (sym (ap (λ (k : Known). k.seen) c.share_out.ensures.pass))
    (IsPrefix-length (take part.end H) H (take-begins part.end H)))

pub returns-clause-over : goal.returns-clause-over
returns-clause-over g c =
    over g (goal.at.returns-clause-over g c).After-remove-asks c.ask_each.new.pass
    (ap (λ (k : Known). k.rows) c.ask_each.ensures.pass)
    (subst (λ (l : List Entry). length l ≤ length c.call_together-result.new.self.store.history)
    (sym (ap (λ (k : Known). k.seen) c.ask_each.ensures.pass))
    (le_refl (length c.call_together-result.new.self.store.history)))

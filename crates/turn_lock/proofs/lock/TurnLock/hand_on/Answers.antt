use Rattle.std.proofs.Common.{arith, subst, sym, ap, ◌∙◌, ◌≡◌, ◌≤◌, ◌<◌, ◌∷◌, [], List, ℕ, length, take, Option, Some, None}
use mathlib.Core.Option.{none}
use Rattle.atomic_table.specs.Table.{Allows, step, Me, rest}
use Rattle.farm_entry.specs.declared.entry.Entry.{Entry}
use Rattle.common_types.specs.Prefix.{IsPrefix}
use Rattle.common_types.specs.Rows.{IsOlder}
use Rattle.common_types.specs.declared.row.Row.{Row}
use Rattle.turn_lock.specs.Known.{Before, AccountsFor, IsSettled}
use Rattle.turn_lock.specs.Places.{ArePlaces}
use Rattle.turn_lock.specs.Rule.{IsKept}
use Rattle.turn_lock.specs.Steps.{Notes, Meets}
use Rattle.turn_lock.specs.Views.{last_taken}
use Rattle.turn_lock.specs.declared.view.Home.{Home}
use Rattle.turn_lock.specs.declared.view.Taken.{Taken}
use Rattle.turn_lock.specs.declared.view.View.{View}
use Rattle.turn_lock.proofs.HandOn.{notes, leaves, takes_over, meets}
use Rattle.turn_lock.proofs.Parts.{idle-idle_again}
use Rattle.turn_lock.proofs.lock.TurnLock.hand_on.Goals as goal

pub load-requires : goal.load-requires
load-requires g c =
    let t = g.T.Stands in
    let seat = c.exchange-empty.new.seat in
    let old = c.before-2.inside.seat in
    let held = c.before-2.invariant in
    let turn = c.args.turn in
    let home : Home g.row.T.Denot =
    record { value = turn.value; own = turn.own; shown = c.args.shown; failed = turn.failed } in
    let me : seat.me ≡ (old.me.0, (0, Some home) ∷ []) =
    c.exchange-empty.ensures.3 ∙ ap (λ l. (old.me.0, (0, Some home) ∷ rest l)) held.hands in
    let taken : turn.before.taken ≡ held.taken =
    ap (λ (b : Before). b.taken) (sym c.before-2.view_is) ∙ ap last_taken held.taken_is in
    let now : List Entry = take c.args.shown (t.entries turn.value) in (
      c.exchange-empty.ensures.0 ∙ ap (λ (b : Before). b.pass.lock) c.before-2.view_is ∙ c.requires.own
          ∙ sym c.self.view_is,
      omega (arith, c.self.invariant.0),
      subst
          (λ (n : ℕ). Allows (IsKept t.entries t.count t.pending t.log) n seat.id seat.me 1 (λ k. k)
          (Notes t.entries t.count t.pending t.log (step n 1 0 0 none) seat.me))
          (sym c.self.invariant.1)
          (subst
          (λ (m : Me (Option (Home g.row.T.Denot)) View). Allows (IsKept t.entries t.count t.pending t.log) 1 seat.id
          m 1
          (λ k. k)
          (Notes t.entries t.count t.pending t.log (step 1 1 0 0 none) m))
          (sym me)
          (notes t.entries t.count t.pending t.log seat.id old.me.0 home held.taken held.taken_is
          (subst (λ (o : Taken). IsPrefix o.entries now) taken c.requires.grown)
          (subst (λ (o : Taken). o.count ≤ t.count turn.value) taken c.requires.faults)
          (subst (λ (o : Taken). IsSettled (Some o.pending) o.count (t.count turn.value) (t.pending turn.value)) taken
          c.requires.settled)
          (subst (λ (o : Taken). ArePlaces (length o.entries) (length now) turn.own) taken c.requires.places)
          (subst (λ (l : List Row). IsOlder l (t.log turn.value)) (ap (λ (b : Before). b.log) (sym c.before-2.view_is))
          c.requires.logged)
          (subst (λ (o : Taken). AccountsFor o now (t.pending turn.value) turn.own turn.failed) taken c.requires.owned)
          held.some)),
    )

pub exchange-home-requires : goal.exchange-home-requires
exchange-home-requires g c =
    let noted = c.load.ensures.2 in
    let hands = ap (λ m. m.1) noted.2 in (
      c.load.ensures.0 ∙ (c.exchange-empty.ensures.0 ∙ ap (λ (b : Before). b.pass.lock) c.before-2.view_is
          ∙ c.requires.own ∙ sym c.self.view_is),
      (Some noted.0, hands ∙ ap (λ l. (0, Some noted.0) ∷ rest l) (sym hands)),
    )

pub split_seat-other-requires : goal.split_seat-other-requires
split_seat-other-requires g c =
    let seat = c.exchange-home.new.seat in
    let t = g.T.Stands in (
      c.exchange-home.ensures.0 ∙ c.load.ensures.0 ∙ (c.exchange-empty.ensures.0
          ∙ ap (λ (b : Before). b.pass.lock) c.before-2.view_is ∙ c.requires.own ∙ sym c.self.view_is),
      omega (arith, c.self.invariant.0),
      leaves t.entries t.count t.pending t.log seat.id seat.me.0,
    )

pub join_seat-requires : goal.join_seat-requires
join_seat-requires g c =
    let seat = c.split_seat-other.new.seat in
    let other = c.take_seat.result in
    let next = c.args.next.now in
    let t = g.T.Stands in (
      c.split_seat-other.ensures.0 ∙ c.exchange-home.ensures.0 ∙ c.load.ensures.0 ∙ (c.exchange-empty.ensures.0
          ∙ ap (λ (b : Before). b.pass.lock) c.before-2.view_is ∙ c.requires.own ∙ sym c.self.view_is),
      c.take_seat.ensures.lock ∙ c.requires.next.own ∙ sym c.self.view_is,
      ap (λ m. m.1) c.take_seat.ensures.me,
      omega (arith, c.self.invariant.0),
      takes_over t.entries t.count t.pending t.log seat.id seat.me.0 other.id other.me.0
          (idle-idle_again other.me next.seen next.mine next.faults next.uses next.last next.pending next.rows
          next.stake c.take_seat.ensures.me)
          (ap (λ m. m.0.mine) c.split_seat-other.ensures.2) (ap (λ m. m.0.stake) c.split_seat-other.ensures.2),
    )

pub load-requires-2 : goal.load-requires-2
load-requires-2 g c =
    let seat = c.join_seat.new.seat in
    let t = g.T.Stands in
    let home = c.load.ensures.2.0 in
    let taken : Taken = record {
      entries = take home.shown (t.entries home.value);
      count = t.count home.value;
      pending = t.pending home.value;
    } in (
      c.join_seat.ensures.0 ∙ c.split_seat-other.ensures.0 ∙ c.exchange-home.ensures.0 ∙ c.load.ensures.0
          ∙ (c.exchange-empty.ensures.0 ∙ ap (λ (b : Before). b.pass.lock) c.before-2.view_is ∙ c.requires.own
          ∙ sym c.self.view_is),
      omega (arith, c.self.invariant.0),
      subst (λ (n : ℕ). Allows (IsKept t.entries t.count t.pending t.log) n seat.id seat.me 1 (λ k. k)
          (Meets (step n 1 0 0 none) seat.me))
          (sym c.self.invariant.1)
          (meets t.entries t.count t.pending t.log seat.id seat.me taken
          (ap (λ m. m.0.taken) c.join_seat.ensures.2 ∙ ap (λ m. m.0.taken) c.split_seat-other.ensures.2
          ∙ ap (λ m. m.0.taken) c.exchange-home.ensures.3 ∙ ap (λ m. m.0.taken) c.load.ensures.2.2)),
    )

pub invariant_of-result : goal.invariant_of-result
invariant_of-result g c =
    let t = g.T.Stands in
    let held = c.before-2.invariant in
    let home = c.load.ensures.2.0 in
    let met = c.load-2.ensures.2.1 in
    let joined = c.join_seat.ensures.2 in
    let split = c.split_seat-other.ensures.2 in
    let given = c.exchange-home.ensures.3 in
    let noted = c.load.ensures.2.2 in
    record {
      number = held.number;
      taken = record {
        entries = take home.shown (t.entries home.value);
        count = t.count home.value;
        pending = t.pending home.value;
      };
      ticket_is = ap (λ m. m.0.ticket) met ∙ ap (λ m. m.0.ticket) joined ∙ ap (λ m. m.0.ticket) split
          ∙ ap (λ m. m.0.ticket) given ∙ ap (λ m. m.0.ticket) noted
          ∙ ap (λ m. m.0.ticket) c.exchange-empty.ensures.3 ∙ held.ticket_is;
      taken_is = ap (λ m. m.0.taken) met ∙ ap (λ m. m.0.taken) joined ∙ ap (λ m. m.0.taken) split
          ∙ ap (λ m. m.0.taken) given ∙ ap (λ m. m.0.taken) noted;
      joined = ap (λ m. m.0.joined) met ∙ ap (λ m. m.0.joined) joined ∙ ap (λ m. m.0.joined) c.take_seat.ensures.me;
      some = subst (λ (n : ℕ). 0 < n)
          (sym (ap (λ m. m.0.stake.parts) met ∙ ap (λ m. m.0.stake.parts) joined
          ∙ ap (λ m. m.0.stake.parts) c.take_seat.ensures.me))
          c.requires.next.some;
      hands = ap (λ m. m.1) met ∙ ap (λ m. m.1) joined ∙ ap (λ m. m.1) split ∙ ap (λ m. m.1) given
          ∙ ap (λ m. (0, None) ∷ rest m.1) noted;
    }

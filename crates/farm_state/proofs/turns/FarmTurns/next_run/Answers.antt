use Rattle.std.proofs.Common.{◌≡◌, ℕ, ◌<◌, ◌≤◌, List, length, Some, None, sym, ap, subst, ◌∙◌, arith}
use Rattle.farm_types.specs.Moment.{moment_ms}
use Rattle.farm_entry.specs.Due.{next_run}
use Rattle.farm_entry.specs.declared.entry.Entry.{Entry}
use Rattle.farm_state.specs.TurnOrder.{due_in_search, from_on}
use Rattle.farm_state.specs.Walking.{IsAt}
use Rattle.farm_state.specs.declared.turns.FarmTurns.TheInside.{Inside}
use Rattle.farm_state.proofs.Walks.{at-end, at-first, at-found, at-next, less-left, low-at, order_in, stands-at}
use Rattle.farm_state.proofs.turns.FarmTurns.next_run.Goals as goal

pub loop-search-init : goal.loop-search-init
loop-search-init c =
    let s : Inside = c.self.inside in
    let m : ℕ = moment_ms c.args.moment in
    subst (IsAt s.state m (order_in s)) (sym c.first-search.ensures) (at-first s m c.self.invariant)

pub overflow_cast-search : goal.overflow_cast-search
overflow_cast-search c =
    let low : c.loop-search.search ≤ 2000 =
    low-at c.self.inside (moment_ms c.args.moment) c.loop-search.search c.self.invariant c.loop-search.invariant
    c.loop-search-test.true in
    omega (arith, low)

pub returns-in-Some : goal.returns-in-Some
returns-in-Some c =
    let s : Inside = c.self.inside in
    let m : ℕ = moment_ms c.args.moment in
    let n : ℕ = c.loop-search.search in
    let found : due_in_search s.state n m ≡ Some c.in-Some.run' = sym c.due.ensures ∙ c.in-Some.is in
    sym (at-found s m n c.in-Some.run' c.self.invariant c.loop-search.invariant c.loop-search-test.true found)
    ∙ ap (λ (H : List Entry). next_run H m) c.self.view_is

pub next-search-requires : goal.next-search-requires
next-search-requires c =
    stands-at c.self.inside (moment_ms c.args.moment) c.loop-search.search c.loop-search.invariant
    c.loop-search-test.true

pub loop-search-smaller : goal.loop-search-smaller
loop-search-smaller c =
    let s : Inside = c.self.inside in
    let n : ℕ = c.loop-search.search in
    subst (λ (k : ℕ). length (from_on k (order_in s)) < length (from_on n (order_in s))) (sym c.next-search.ensures)
    (less-left s (moment_ms c.args.moment) n c.self.invariant c.loop-search.invariant c.loop-search-test.true)

pub loop-search-preserved : goal.loop-search-preserved
loop-search-preserved c =
    let s : Inside = c.self.inside in
    let m : ℕ = moment_ms c.args.moment in
    let n : ℕ = c.loop-search.search in
    let none : due_in_search s.state n m ≡ None = sym c.due.ensures ∙ c.in_default.is in
    subst (IsAt s.state m (order_in s)) (sym c.next-search.ensures)
    (at-next s m n c.self.invariant c.loop-search.invariant c.loop-search-test.true none)

pub returns : goal.returns
returns c =
    let s : Inside = c.self.inside in
    let m : ℕ = moment_ms c.args.moment in
    sym (at-end s m c.loop-search.search c.self.invariant c.loop-search.invariant c.loop-search-test.false)
    ∙ ap (λ (H : List Entry). next_run H m) c.self.view_is

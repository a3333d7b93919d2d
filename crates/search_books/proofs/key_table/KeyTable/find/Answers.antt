use Rattle.std.proofs.Common.{arith, ap, sym, subst, ◌∙◌, ◌≡◌, ◌<◌, ◌-◌, ◌≢◌, ℕ, List, Some, length, get_or}
use Rattle.std.specs.FinMap.{get}
use Rattle.search_books.specs.KeyChains.{blank}
use Rattle.search_books.specs.KeyTable.{KeyPlaces}
use Rattle.search_books.specs.declared.key_chains.Item.{Item}
use Rattle.search_books.proofs.KeyEnds.{read_at}
use Rattle.search_books.proofs.Tables.{get-miss, get-hit}
use Rattle.search_books.proofs.key_table.KeyTable.find.Goals as goal

pub returns-then-is_empty : goal.returns-then-is_empty
returns-then-is_empty c =
    let none : length c.self.inside.items.items ≡ 0 =
    grind (arith, c.self.invariant.size, c.self.invariant.fits, c.if-is_empty.ensures) in
    sym (get-miss c.self.inside.items.items c.args.key (λ k low. absurd (omega (arith, low, none))))
    ∙ ap (λ (b : KeyPlaces). get b.places c.args.key) c.self.view_is

pub returns-then-at-eq0 : goal.returns-then-at-eq0
returns-then-at-eq0 c =
    sym (get-miss c.self.inside.items.items c.args.key
    (subst (λ (xs : List Item). (k : ℕ) → k < length xs
    → (get_or xs k blank).key ≢ c.args.key) c.deref-2.ensures.value
    (c.seek-at.ensures.absent c.if-at-eq0.true)))
    ∙ ap (λ (b : KeyPlaces). get b.places c.args.key) c.self.view_is

pub returns-else-at-eq0 : goal.returns-else-at-eq0
returns-else-at-eq0 c =
    let items = c.self.inside.items.items in
    let m = c.seek-at.result - 1 in
    let low : m < length items =
    omega (
      arith,
      c.if-at-eq0.false,
      c.seek-at.ensures.in_range,
      ap (λ (xs : List Item). length xs) c.deref-2.ensures.value,
    ) in
    let read : c.index.result.now ≡ get_or items m blank = read_at items m _ c.index.ensures low in
    let key : (get_or items m blank).key ≡ c.args.key =
    subst (λ (xs : List Item). (get_or xs m blank).key ≡ c.args.key) c.deref-2.ensures.value
    (c.seek-at.ensures.found m (omega (arith, c.if-at-eq0.false))) in
    ap (λ (y : Item). Some y.place) read
    ∙ (sym (get-hit items c.args.key m c.self.invariant.apart low key)
    ∙ ap (λ (b : KeyPlaces). get b.places c.args.key) c.self.view_is)

use Rattle.std.proofs.Common.{arith, ap, ◌∙◌, ◌<◌, ◌-◌, ℕ, List, length}
use Rattle.std.specs.FinMap.{get, remove}
use Rattle.search_books.specs.KeyTable.{KeyPlaces}
use Rattle.search_books.proofs.Tables.{present-some, seen, take-apart, take-last, moved-apart, take-moved}
use Rattle.search_books.proofs.key_table.KeyTable.take.Goals as goal

pub seek-at-requires-clause-size : goal.seek-at-requires-clause-size
seek-at-requires-clause-size c =
    let some = present-some c.self.inside.items.items c.args.key
    (c.requires.present.0, ap (λ (b : KeyPlaces). get b.places c.args.key) c.self.view_is ∙ c.requires.present.1) in
    let size = c.self.invariant.size (omega (arith, some, c.self.invariant.fits)) in
    omega (arith, size, ap (λ (xs : List ℕ). length xs) c.deref.ensures.value)

pub unlink_last-last-requires-clause-size : goal.unlink_last-last-requires-clause-size
unlink_last-last-requires-clause-size c =
    let some = present-some c.self.inside.items.items c.args.key
    (c.requires.present.0, ap (λ (b : KeyPlaces). get b.places c.args.key) c.self.view_is ∙ c.requires.present.1) in
    c.self.invariant.size (omega (arith, some, c.self.invariant.fits))

pub unlink_last-last-requires-clause-some : goal.unlink_last-last-requires-clause-some
unlink_last-last-requires-clause-some c =
    let some = present-some c.self.inside.items.items c.args.key
    (c.requires.present.0, ap (λ (b : KeyPlaces). get b.places c.args.key) c.self.view_is ∙ c.requires.present.1) in
    some

pub overflow_sub-at : goal.overflow_sub-at
overflow_sub-at c =
    let s = seen c.self.inside.items.items c.deref-2.result.now c.args.key c.seek-at.result c.deref-2.ensures.value
    (c.requires.present.0, ap (λ (b : KeyPlaces). get b.places c.args.key) c.self.view_is ∙ c.requires.present.1)
    c.seek-at.ensures.in_range c.seek-at.ensures.found c.seek-at.ensures.absent in
    s.low

pub replace-requires-clause-at : goal.replace-requires-clause-at
replace-requires-clause-at c =
    let s = seen c.self.inside.items.items c.deref-2.result.now c.args.key c.seek-at.result c.deref-2.ensures.value
    (c.requires.present.0, ap (λ (b : KeyPlaces). get b.places c.args.key) c.self.view_is ∙ c.requires.present.1)
    c.seek-at.ensures.in_range c.seek-at.ensures.found c.seek-at.ensures.absent in
    omega (arith, s.low, c.if-at-len.true, c.len.ensures)

pub invariant_of-self : goal.invariant_of-self
invariant_of-self c =
    let s = seen c.self.inside.items.items c.deref-2.result.now c.args.key c.seek-at.result c.deref-2.ensures.value
    (c.requires.present.0, ap (λ (b : KeyPlaces). get b.places c.args.key) c.self.view_is ∙ c.requires.present.1)
    c.seek-at.ensures.in_range c.seek-at.ensures.found c.seek-at.ensures.absent in
    let low : c.seek-at.result - 1 < length c.unlink_last-last.new.items.items =
    omega (arith, s.low, c.if-at-len.true, c.len.ensures) in
    record {
      size = λ some. omega (
        arith,
        c.self.invariant.size (omega
            (arith, some, c.replace.ensures.capacity, c.unlink_last-last.ensures.capacity)),
        c.replace.ensures.heads,
        c.unlink_last-last.ensures.heads,
      );
      fits = omega (
        arith,
        c.self.invariant.fits,
        c.replace.ensures.len,
        c.replace.ensures.capacity,
        c.unlink_last-last.ensures.len,
        c.unlink_last-last.ensures.capacity,
      );
      linked = c.replace.ensures.linked;
      apart = moved-apart c.self.inside.items.items c.unlink_last-last.new.items.items c.unlink_last-last.result
          c.unlink_last-last.ensures.entries c.self.invariant.apart c.replace.new.items.items
          (c.seek-at.result - 1) low c.replace.ensures.entries;
    }

pub invariant_of-self-else-at-len : goal.invariant_of-self-else-at-len
invariant_of-self-else-at-len c =
    record {
      size = λ some. omega (
        arith,
        c.self.invariant.size (omega (arith, some, c.unlink_last-last.ensures.capacity)),
        c.unlink_last-last.ensures.heads,
      );
      fits = omega (
        arith,
        c.self.invariant.fits,
        c.unlink_last-last.ensures.len,
        c.unlink_last-last.ensures.capacity,
      );
      linked = c.unlink_last-last.ensures.linked;
      apart = take-apart c.self.inside.items.items c.unlink_last-last.new.items.items c.unlink_last-last.result
          c.unlink_last-last.ensures.entries c.self.invariant.apart;
    }

pub returns-then-at-len-clause-places : goal.returns-then-at-len-clause-places
returns-then-at-len-clause-places c =
    let s = seen c.self.inside.items.items c.deref-2.result.now c.args.key c.seek-at.result c.deref-2.ensures.value
    (c.requires.present.0, ap (λ (b : KeyPlaces). get b.places c.args.key) c.self.view_is ∙ c.requires.present.1)
    c.seek-at.ensures.in_range c.seek-at.ensures.found c.seek-at.ensures.absent in
    let low : c.seek-at.result - 1 < length c.unlink_last-last.new.items.items =
    omega (arith, s.low, c.if-at-len.true, c.len.ensures) in
    take-moved c.self.inside.items.items c.unlink_last-last.new.items.items c.unlink_last-last.result
    c.unlink_last-last.ensures.entries c.self.invariant.apart
    c.replace.new.items.items (c.seek-at.result - 1) low c.replace.ensures.entries c.args.key s.key_is
    ∙ ap (λ (b : KeyPlaces). remove b.places c.args.key) c.self.view_is

pub returns-else-at-len-clause-places : goal.returns-else-at-len-clause-places
returns-else-at-len-clause-places c =
    let s = seen c.self.inside.items.items c.deref-2.result.now c.args.key c.seek-at.result c.deref-2.ensures.value
    (c.requires.present.0, ap (λ (b : KeyPlaces). get b.places c.args.key) c.self.view_is ∙ c.requires.present.1)
    c.seek-at.ensures.in_range c.seek-at.ensures.found c.seek-at.ensures.absent in
    take-last c.self.inside.items.items c.unlink_last-last.new.items.items c.unlink_last-last.result
    c.unlink_last-last.ensures.entries c.self.invariant.apart
    (c.seek-at.result - 1) c.args.key s.within s.key_is (omega (arith, c.if-at-len.false, c.len.ensures))
    ∙ ap (λ (b : KeyPlaces). remove b.places c.args.key) c.self.view_is

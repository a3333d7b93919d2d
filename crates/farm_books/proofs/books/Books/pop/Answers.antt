use Rattle.std.proofs.Common.{◌≡◌, ℕ, ◌+◌, ◌-◌, ◌<◌, false, List, length, take, Option, sym, subst, ap, ◌∙◌, arith}
use Rattle.farm_types.specs.declared.key.Key.{Key}
use Rattle.search_books.specs.Leases.{Held}
use Rattle.farm_entry.specs.History.{lease_in}
use Rattle.farm_entry.specs.declared.entry.Entry.{Entry}
use Rattle.farm_entry.specs.declared.lease.LeasedRun.{LeasedRun}
use Rattle.farm_books.specs.Kept.{AreKeys, Places, with_mark, without_key, without_lease, without_report}
use Rattle.farm_books.proofs.Entries.{IsLast, key-present, last-of, lease-present, popped-books, report-booked, report-present}
use Rattle.farm_books.proofs.books.Books.pop.Goals as goal

pub take_mark-requires : goal.take_mark-requires
take_mark-requires c =
    let H : List Entry = c.self.inside.entries.items in
    let b = c.self.invariant in
    let n : ℕ = c.len-last.result - 1 in
    let some : 1 < length H = subst (λ (X : List Entry). 1 < length X) (sym c.self.view_is) c.requires in
    let last : n + 1 ≡ length H = omega (arith, some, c.len-last.ensures) in
    let l : IsLast H (take n H) c.index.result.now =
    last-of H n c.index.result.now c.index.result.now b.legal some last (sym c.index.ensures) in
    report-booked H (take n H) c.index.result.now c.self.inside.leases.leases c.told-told.result b.legal l b.leases
    c.told-told.ensures

pub take_lease-requires : goal.take_lease-requires
take_lease-requires c =
    let H : List Entry = c.self.inside.entries.items in
    let b = c.self.invariant in
    let n : ℕ = c.len-last.result - 1 in
    let some : 1 < length H = subst (λ (X : List Entry). 1 < length X) (sym c.self.view_is) c.requires in
    let last : n + 1 ≡ length H = omega (arith, some, c.len-last.ensures) in
    let l : IsLast H (take n H) c.index.result.now =
    last-of H n c.index.result.now c.index.result.now b.legal some last (sym c.index.ensures) in
    lease-present H (take n H) c.index.result.now c.self.inside.leases.leases c.take_mark.new.leases.leases
    c.lease-lease.result c.told-told.result l b.leases c.lease-lease.ensures c.take_mark.ensures

pub take_report-requires : goal.take_report-requires
take_report-requires c =
    let H : List Entry = c.self.inside.entries.items in
    let b = c.self.invariant in
    let n : ℕ = c.len-last.result - 1 in
    let some : 1 < length H = subst (λ (X : List Entry). 1 < length X) (sym c.self.view_is) c.requires in
    let last : n + 1 ≡ length H = omega (arith, some, c.len-last.ensures) in
    let l : IsLast H (take n H) c.index.result.now =
    last-of H n c.index.result.now c.index.result.now b.legal some last (sym c.index.ensures) in
    report-present H (take n H) c.index.result.now c.self.inside.inbox.runs c.told-told.result l b.reports
    c.told-told.ensures

pub take_key-requires : goal.take_key-requires
take_key-requires c =
    let H : List Entry = c.self.inside.entries.items in
    let b = c.self.invariant in
    let n : ℕ = c.len-last.result - 1 in
    let some : 1 < length H = subst (λ (X : List Entry). 1 < length X) (sym c.self.view_is) c.requires in
    let last : n + 1 ≡ length H = omega (arith, some, c.len-last.ensures) in
    let l : IsLast H (take n H) c.index.result.now =
    last-of H n c.index.result.now c.index.result.now b.legal some last (sym c.index.ensures) in
    key-present H (take n H) c.index.result.now c.take_report.new.inbox.keys c.key-key.result l
    (subst (AreKeys H) (sym c.take_report.ensures.keys) b.keys) c.key-key.ensures

pub invariant_of-self : goal.invariant_of-self
invariant_of-self c =
    let s = c.self.inside in
    let H : List Entry = s.entries.items in
    let b = c.self.invariant in
    let e : Entry = c.index.result.now in
    let n : ℕ = c.len-last.result - 1 in
    let some : 1 < length H = subst (λ (X : List Entry). 1 < length X) (sym c.self.view_is) c.requires in
    let last : n + 1 ≡ length H = omega (arith, some, c.len-last.ensures) in
    let l : IsLast H (take n H) e = last-of H n e e b.legal some last (sym c.index.ensures) in
    popped-books s _ (take n H) e b l c.truncate.ensures.items
    (c.take_key.ensures.keys
    ∙ ap (λ (keys : Places). without_key keys c.key-key.result) c.take_report.ensures.keys
    ∙ ap (λ (part : Option Key). without_key s.inbox.keys part) c.key-key.ensures)
    (c.take_key.ensures.runs ∙ c.take_report.ensures.runs
    ∙ ap (λ (part : Option ℕ). without_report s.inbox.runs part) c.told-told.ensures)
    (c.take_lease.ensures
    ∙ ap (λ (hs : List Held). without_lease hs c.lease-lease.result) c.take_mark.ensures
    ∙ ap (λ (part : Option LeasedRun). without_lease (with_mark false s.leases.leases c.told-told.result) part)
    c.lease-lease.ensures
    ∙ ap (λ (part : Option ℕ). without_lease (with_mark false s.leases.leases part) (lease_in e.what))
    c.told-told.ensures)

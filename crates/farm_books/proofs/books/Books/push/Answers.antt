use Rattle.std.proofs.Common.{◌≡◌, ℕ, true, List, [], ◌∷◌, ◌++◌, length, Option, sym, ap, subst, ◌∙◌, arith}
use Rattle.farm_types.specs.declared.key.Key.{Key}
use Rattle.search_books.specs.Leases.{Held}
use Rattle.farm_entry.specs.History.{lease_in}
use Rattle.farm_entry.specs.Legal.{IsLegal}
use Rattle.farm_entry.specs.declared.entry.Entry.{Entry}
use Rattle.farm_entry.specs.declared.lease.LeasedRun.{LeasedRun}
use Rattle.farm_laws.proofs.Bounds.{entries-bounded}
use Rattle.farm_books.specs.Kept.{AreKeys, AreLeases, AreReports, Places, with_key, with_lease, with_mark, with_report}
use Rattle.farm_books.proofs.Entries.{entry-steps, key-absent, lease-next, pushed-books, report-absent, report-known, with_lease-long}
use Rattle.farm_books.proofs.books.Books.push.Goals as goal

pub overflow_cast-place : goal.overflow_cast-place
overflow_cast-place c = omega (arith, c.len-place.ensures, entries-bounded c.self.inside.entries.items c.self.invariant.legal)

pub put_key-requires-clause-absent : goal.put_key-requires-clause-absent
put_key-requires-clause-absent c =
    let H : List Entry = c.self.inside.entries.items in
    let b = c.self.invariant in
    let step = entry-steps H c.args.self.now c.args.entry b.legal c.self.view_is c.requires in
    key-absent H c.args.entry c.reserve_places.new.inbox.keys c.key-key.result
    (subst (AreKeys H) (sym c.in_ok-reserve_places.ensures.keys) b.keys) step c.key-key.ensures

pub put_report-requires-clause-absent : goal.put_report-requires-clause-absent
put_report-requires-clause-absent c =
    let H : List Entry = c.self.inside.entries.items in
    let b = c.self.invariant in
    let step = entry-steps H c.args.self.now c.args.entry b.legal c.self.view_is c.requires in
    report-absent H c.args.entry c.put_key.new.inbox.runs c.told-told.result
    (subst (AreReports H) (sym (c.put_key.ensures.runs ∙ c.in_ok-reserve_places.ensures.runs)) b.reports) step
    c.told-told.ensures

pub put_lease-requires-clause-number : goal.put_lease-requires-clause-number
put_lease-requires-clause-number c =
    let H : List Entry = c.self.inside.entries.items in
    let b = c.self.invariant in
    let step = entry-steps H c.args.self.now c.args.entry b.legal c.self.view_is c.requires in
    lease-next H c.args.entry c.reserve_lease.new.leases.leases c.lease-lease.result
    (subst (AreLeases H) (sym c.in_ok-reserve_lease.ensures.leases) b.leases) step c.lease-lease.ensures

pub put_mark-requires : goal.put_mark-requires
put_mark-requires c =
    let H : List Entry = c.self.inside.entries.items in
    let b = c.self.invariant in
    let step = entry-steps H c.args.self.now c.args.entry b.legal c.self.view_is c.requires in
    let helds : List Held = c.self.inside.leases.leases in
    let now : c.put_lease.new.leases.leases ≡ with_lease helds c.lease-lease.result =
    c.put_lease.ensures
    ∙ ap (λ (hs : List Held). with_lease hs c.lease-lease.result) c.in_ok-reserve_lease.ensures.leases in
    report-known H c.args.entry helds c.told-told.result (length c.put_lease.new.leases.leases) b.legal b.leases step
    c.told-told.ensures (omega (arith, ap length now, with_lease-long helds c.lease-lease.result))

pub invariant_of-self-2 : goal.invariant_of-self-2
invariant_of-self-2 c =
    let s = c.self.inside in
    let H : List Entry = s.entries.items in
    let e : Entry = c.args.entry in
    let b = c.self.invariant in
    let place : ℕ = c.len-place.result in
    let step = entry-steps H c.args.self.now e b.legal c.self.view_is c.requires in
    let at : place ≡ length H = omega (arith, c.len-place.ensures) in
    pushed-books s _ e place b step
    (subst (λ (X : List Entry). IsLegal (X ++ e ∷ [])) (sym c.self.view_is) c.requires) at
    (c.push_reserved.ensures.items ∙ ap (λ (xs : List Entry). xs ++ e ∷ []) c.in_ok-reserve.ensures.items)
    (c.put_report.ensures.keys ∙ c.put_key.ensures.keys
    ∙ ap (λ (keys : Places). with_key keys c.key-key.result place) c.in_ok-reserve_places.ensures.keys
    ∙ ap (λ (part : Option Key). with_key s.inbox.keys part place) c.key-key.ensures)
    (c.put_report.ensures.runs
    ∙ ap (λ (runs : Places). with_report runs c.told-told.result place)
    (c.put_key.ensures.runs ∙ c.in_ok-reserve_places.ensures.runs)
    ∙ ap (λ (part : Option ℕ). with_report s.inbox.runs part place) c.told-told.ensures)
    (c.put_mark.ensures
    ∙ ap (λ (hs : List Held). with_mark true hs c.told-told.result)
    (c.put_lease.ensures
    ∙ ap (λ (hs : List Held). with_lease hs c.lease-lease.result) c.in_ok-reserve_lease.ensures.leases
    ∙ ap (λ (part : Option LeasedRun). with_lease s.leases.leases part) c.lease-lease.ensures)
    ∙ ap (λ (part : Option ℕ). with_mark true (with_lease s.leases.leases (lease_in e.what)) part)
    c.told-told.ensures)

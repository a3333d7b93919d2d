use Rattle.std.proofs.Common.{◌≡◌, ℕ, List, [], ◌∷◌, ◌++◌, length, Option, sym, ap, subst, ◌∙◌, arith}
use Rattle.std.specs.Option.{is_some}
use Rattle.farm_entry.specs.History.{lease_in, told_in}
use Rattle.farm_entry.specs.Legal.{IsLegal}
use Rattle.farm_entry.specs.declared.entry.Entry.{Entry}
use Rattle.farm_entry.specs.declared.lease.LeasedRun.{LeasedRun}
use Rattle.farm_books.proofs.Entries.{entry-steps}
use Rattle.farm_ledger.specs.Waiting.{IsLowest, IsServed, low_after}
use Rattle.farm_ledger.proofs.Lows.{lows-last, lows-pushed}
use Rattle.farm_ledger.proofs.Served.{leased-lowest, pushed-served}
use Rattle.farm_ledger.proofs.ledger.Ledger.push.Goals as goal

pub low_with-low-requires-clause-served : goal.low_with-low-requires-clause-served
low_with-low-requires-clause-served c =
    let s = c.self.inside in
    let H : List Entry = s.register in
    let e : Entry = c.args.entry in
    let h = c.self.invariant in
    let low : ℕ = c.index-before.result.now in
    let count : c.len.result ≡ length s.lows.items = omega (arith, c.len.ensures) in
    let lowest : IsLowest H low =
    lows-last H s.lows.items c.len.result low h.legal h.lows count c.index-before.ensures in
    let step = entry-steps H c.args.self.now e h.legal c.self.view_is c.requires in
    let longer : IsLegal (H ++ e ∷ []) =
    subst (λ (X : List Entry). IsLegal (X ++ e ∷ [])) (sym c.self.view_is) c.requires in
    let is = sym c.in_ok-push.ensures.pushed in
    subst (λ (x : Option ℕ). IsServed c.push.new.self (low_after c.push.new.self low x))
    (sym c.told-told.ensures)
    (subst (λ (X : List Entry). IsServed X (low_after X low (told_in e.what))) is
    (pushed-served H e low h.legal longer step lowest.served))

pub low_with-low-requires-clause-same : goal.low_with-low-requires-clause-same
low_with-low-requires-clause-same c =
    let s = c.self.inside in
    let H : List Entry = s.register in
    let e : Entry = c.args.entry in
    let h = c.self.invariant in
    let low : ℕ = c.index-before.result.now in
    let count : c.len.result ≡ length s.lows.items = omega (arith, c.len.ensures) in
    let lowest : IsLowest H low =
    lows-last H s.lows.items c.len.result low h.legal h.lows count c.index-before.ensures in
    let step = entry-steps H c.args.self.now e h.legal c.self.view_is c.requires in
    let leases : c.is_some-is_lease.result ≡ is_some (lease_in e.what) =
    c.is_some-is_lease.ensures ∙ ap (λ (x : Option LeasedRun). is_some x) c.lease.ensures in
    λ is_lease.
    subst (λ (X : List Entry). IsLowest X low) (sym c.in_ok-push.ensures.pushed)
    (leased-lowest H e low h.legal step (sym leases ∙ is_lease) lowest)

pub invariant_of-self-2 : goal.invariant_of-self-2
invariant_of-self-2 c =
    let s = c.self.inside in
    let H : List Entry = s.register in
    let e : Entry = c.args.entry in
    let h = c.self.invariant in
    let longer : IsLegal (H ++ e ∷ []) =
    subst (λ (X : List Entry). IsLegal (X ++ e ∷ [])) (sym c.self.view_is) c.requires in
    let more = c.in_ok-push.ensures.pushed in
    record {
      legal = subst IsLegal (sym more) longer;
      lows = lows-pushed H _ e s.lows.items _ c.low_with-low.result h.lows more
          (c.push_reserved.ensures.items
          ∙ ap (λ (xs : List ℕ). xs ++ c.low_with-low.result ∷ []) c.in_ok-reserve.ensures.items)
          c.low_with-low.ensures;
    }

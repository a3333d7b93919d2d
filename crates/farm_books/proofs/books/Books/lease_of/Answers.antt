use Rattle.std.proofs.Common.{List, sym, ap, ◌∙◌}
use Rattle.farm_entry.specs.History.{lease_of}
use Rattle.farm_entry.specs.declared.entry.Entry.{Entry}
use Rattle.farm_books.proofs.Slots.{lease-looked_up, lease_told}
use Rattle.farm_books.proofs.books.Books.lease_of.Goals as goal

pub returns-in_err-lease : goal.returns-in_err-lease
returns-in_err-lease c =
    c.from_residual.ensures
    ∙ ap lease_told c.in_err-lease.ensures.lease
    ∙ sym (lease-looked_up c.self.inside.entries.items c.self.inside.leases.leases c.args.run c.self.invariant.legal
    c.self.invariant.leases)
    ∙ ap (λ (H : List Entry). lease_of H c.args.run) c.self.view_is

pub returns : goal.returns
returns c =
    ap lease_told c.in_ok-lease.ensures.lease
    ∙ sym (lease-looked_up c.self.inside.entries.items c.self.inside.leases.leases c.args.run c.self.invariant.legal
    c.self.invariant.leases)
    ∙ ap (λ (H : List Entry). lease_of H c.args.run) c.self.view_is

use Rattle.std.proofs.Common.{◌≡◌, ◌≤◌, ℕ, List, length, sym, ap, subst, ◌∙◌}
use Rattle.farm_types.specs.Moment.{moment_ms}
use Rattle.farm_entry.specs.Due.{outstanding_positions}
use Rattle.farm_entry.specs.declared.entry.Entry.{Entry}
use Rattle.search_books.specs.Outstanding.{positions_out}
use Rattle.search_books.specs.declared.lease.TheConstants.{OUT_MAX}
use Rattle.farm_books.proofs.Outs.{positions-are}
use Rattle.farm_books.proofs.books.Books.outstanding_positions.Goals as goal

pub outstanding_into-requires : goal.outstanding_into-requires
outstanding_into-requires c =
    let H : List Entry = c.self.inside.entries.items in
    let helds = c.self.inside.leases.leases in
    let at : moment_ms c.args.moment ≡ c.ms.result = sym c.ms.ensures.number in
    let same : outstanding_positions c.args.self.now c.args.search c.args.stage (moment_ms c.args.moment)
    ≡ positions_out c.args.search c.args.stage c.ms.result helds =
    ap (λ (X : List Entry). outstanding_positions X c.args.search c.args.stage (moment_ms c.args.moment)) (sym c.self.view_is)
    ∙ ap (λ (m : ℕ). outstanding_positions H c.args.search c.args.stage m) at
    ∙ sym (positions-are H helds c.args.search c.args.stage c.ms.result c.self.invariant.leases) in
    subst (λ (out : List ℕ). length out ≤ OUT_MAX) same c.requires

pub returns-clause-positions : goal.returns-clause-positions
returns-clause-positions c =
    let H : List Entry = c.self.inside.entries.items in
    let helds = c.self.inside.leases.leases in
    c.outstanding_into.ensures.positions
    ∙ positions-are H helds c.args.search c.args.stage c.ms.result c.self.invariant.leases
    ∙ ap (λ (m : ℕ). outstanding_positions H c.args.search c.args.stage m) c.ms.ensures.number
    ∙ ap (λ (X : List Entry). outstanding_positions X c.args.search c.args.stage (moment_ms c.args.moment)) c.self.view_is

pub returns-clause-count : goal.returns-clause-count
returns-clause-count c =
    let H : List Entry = c.self.inside.entries.items in
    let helds = c.self.inside.leases.leases in
    c.outstanding_into.ensures.count
    ∙ ap length (positions-are H helds c.args.search c.args.stage c.ms.result c.self.invariant.leases)
    ∙ ap (λ (m : ℕ). length (outstanding_positions H c.args.search c.args.stage m)) c.ms.ensures.number
    ∙ ap (λ (X : List Entry). length (outstanding_positions X c.args.search c.args.stage (moment_ms c.args.moment))) c.self.view_is

use Rattle.std.proofs.Common.{arith, ap, sym, ◌∙◌, List, ℕ, length}
use Rattle.search_books.specs.Leases.{BookView}
use Rattle.search_books.specs.Outstanding.{positions_out}
use Rattle.search_books.specs.LeaseChains.{kepts}
use Rattle.search_books.proofs.Looks.{outs-unknown}
use Rattle.search_books.proofs.book.LeaseBook.outstanding_into.Goals as goal

pub returns-then-search-len-clause-positions : goal.returns-then-search-len-clause-positions
returns-then-search-len-clause-positions c =
    sym (outs-unknown c.args.search c.args.stage c.args.moment (kepts c.self.inside.rows.items)
    (length c.self.inside.heads.items)
    c.self.invariant.kept (omega arith))
    ∙ ap (λ (b : BookView). positions_out c.args.search c.args.stage c.args.moment b.leases) c.self.view_is

pub returns-then-search-len-clause-count : goal.returns-then-search-len-clause-count
returns-then-search-len-clause-count c =
    ap (λ (xs : List ℕ). length xs)
    (sym (outs-unknown c.args.search c.args.stage c.args.moment (kepts c.self.inside.rows.items)
    (length c.self.inside.heads.items)
    c.self.invariant.kept (omega arith))
    ∙ ap (λ (b : BookView). positions_out c.args.search c.args.stage c.args.moment b.leases) c.self.view_is)

use Rattle.std.proofs.Common.{ap, sym, ◌∙◌, ◌≡◌, suc, Bool, cond, true, get_or}
use Rattle.search_books.specs.LeaseChains.{Kept, blank, kept_of, kepts, none}
use Rattle.search_books.specs.declared.lease_chains.Row.{Row}
use Rattle.search_books.proofs.LeaseEnds.{kept-at, kepts-set, read_at}
use Rattle.search_books.proofs.Marks.{kept_marked-set}
use Rattle.search_books.proofs.LeaseReplaced.{marked-whole}
use Rattle.search_books.proofs.lease_chains.mark.Goals as goal

pub returns-clause-linked : goal.returns-clause-linked
returns-clause-linked c =
    λ heads l.
    let rows = c.args.rows.now.items in
    let at = c.args.at in
    let row_is : c.index-row.result.now ≡ get_or rows at blank =
    read_at rows at _ c.index-row.ensures c.requires.at in
    let kept_is : kept_of c.index-row.result.now ≡ get_or (kepts rows) at none =
    ap (λ (r : Row). kept_of r) row_is ∙ sym (kept-at rows at) in
    marked-whole heads rows at _ l c.requires.at
    (ap (λ (k : Kept). suc k.lease.search) kept_is
    ∙ sym (ap (λ (b : Bool). cond b (suc (get_or (kepts rows) at none).lease.search) 0) c.requires.linked))
    (ap (λ (r : Row). r.below) row_is)

pub returns-clause-kept : goal.returns-clause-kept
returns-clause-kept c =
    let rows = c.args.rows.now.items in
    let at = c.args.at in
    let row_is : c.index-row.result.now ≡ get_or rows at blank =
    read_at rows at _ c.index-row.ensures c.requires.at in
    let kept_is : kept_of c.index-row.result.now ≡ get_or (kepts rows) at none =
    ap (λ (r : Row). kept_of r) row_is ∙ sym (kept-at rows at) in
    kepts-set rows at _ ∙ kept_marked-set c.args.is_answered true at (kepts rows) _ kept_is

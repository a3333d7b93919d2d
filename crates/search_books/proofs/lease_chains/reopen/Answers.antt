use Rattle.std.proofs.Common.{arith, ap, sym, ◌∙◌, ◌≡◌, suc, Bool, cond, true, false, refl, List, get_or, set}
use Rattle.search_books.specs.LeaseChains.{Kept, blank, chains, kept_of, kepts, none, with_marks}
use Rattle.search_books.specs.declared.lease_chains.Row.{Row}
use Rattle.search_books.proofs.LeaseEnds.{kept-at, kepts-set, read_at}
use Rattle.search_books.proofs.Marks.{kept_marked-set}
use Rattle.search_books.proofs.LeaseReplaced.{but, moved-in, reopened-whole, to-in}
use Rattle.search_books.proofs.lease_chains.reopen.Goals as goal

pub point-below-requires-clause-search : goal.point-below-requires-clause-search
point-below-requires-clause-search c =
    let rows = c.args.rows.now.items in
    let row_is : c.index-row.result.now ≡ get_or rows c.args.at blank =
    read_at rows c.args.at _ c.index-row.ensures c.requires.at in
    omega (
      arith,
      ap (λ (r : Row). r.lease.search) row_is,
      ap (λ (k : Kept). k.lease.search) (kept-at rows c.args.at),
      c.requires.search,
    )

pub returns-clause-linked : goal.returns-clause-linked
returns-clause-linked c =
    let rows = c.args.rows.now.items in
    let at = c.args.at in
    let h = chains (kepts rows) in
    let s = c.index-row.result.now.lease.search in
    let h_at : h at ≡ 0 =
    ap (λ (b : Bool). cond b (suc (get_or (kepts rows) at none).lease.search) 0) c.requires.outside in
    reopened-whole c.point-below.new.heads.items rows c.point-below.new.rows.items at s _ c.point-below.ensures.kept
    (omega (arith, c.point-below.ensures.len, c.requires.at))
    (c.point-below.ensures.linked (but h at (suc s)) (moved-in h at s h_at) (to-in h at s)) h_at refl
    c.point-below.ensures.was

pub returns-clause-kept : goal.returns-clause-kept
returns-clause-kept c =
    let rows = c.args.rows.now.items in
    let at = c.args.at in
    let row_is : c.index-row.result.now ≡ get_or rows at blank =
    read_at rows at _ c.index-row.ensures c.requires.at in
    let kept_is : kept_of c.index-row.result.now ≡ get_or (kepts rows) at none =
    ap (λ (r : Row). kept_of r) row_is ∙ sym (kept-at rows at) in
    kepts-set c.point-below.new.rows.items at _
    ∙ (ap (λ (kept : List Kept). set kept at (with_marks false true (kept_of c.index-row.result.now)))
    c.point-below.ensures.kept ∙ kept_marked-set false true at (kepts rows) _ kept_is)

use Rattle.std.proofs.Common.{arith, ap, sym, ◌∙◌, ◌≡◌, ◌≢◌, suc, ℕ, Bool, cond, true, false, refl, List, get_or, set}
use Rattle.search_books.specs.LeaseChains.{Kept, blank, chains, kept_of, kepts, none, top, with_marks}
use Rattle.search_books.specs.declared.lease_chains.Row.{Row}
use Rattle.search_books.proofs.LeaseEnds.{kept-at, kepts-set, read_at}
use Rattle.search_books.proofs.Marks.{kept_marked-set}
use Rattle.search_books.proofs.LeaseReplaced.{but, closed-whole, moved-out, to-out}
use Rattle.search_books.proofs.lease_chains.close.Goals as goal

pub point-requires-clause-search : goal.point-requires-clause-search
point-requires-clause-search c =
    let rows = c.args.rows.now.items in
    let row_is : c.index-row.result.now ≡ get_or rows c.args.at blank =
    read_at rows c.args.at _ c.index-row.ensures c.requires.at in
    omega (
      arith,
      ap (λ (r : Row). r.lease.search) row_is,
      ap (λ (k : Kept). k.lease.search) (kept-at rows c.args.at),
      c.requires.search,
    )

pub returns-clause-linked : goal.returns-clause-linked
returns-clause-linked c =
    let rows = c.args.rows.now.items in
    let at = c.args.at in
    let h = chains (kepts rows) in
    let s = c.index-row.result.now.lease.search in
    let row_is : c.index-row.result.now ≡ get_or rows at blank =
    read_at rows at _ c.index-row.ensures c.requires.at in
    let h_at : h at ≡ suc s =
    ap (λ (b : Bool). cond b (suc (get_or (kepts rows) at none).lease.search) 0) c.requires.inside
    ∙ (ap (λ (k : Kept). suc k.lease.search) (kept-at rows at) ∙ sym (ap (λ (r : Row). suc r.lease.search) row_is)) in
    let some : h at ≢ 0 = λ (bad : h at ≡ 0). absurd (omega (arith, sym h_at ∙ bad)) in
    let to_is : c.index-row.result.now.below ≡ top (but h at 0) (suc s) (suc at) =
    ap (λ (r : Row). r.below) row_is
    ∙ (c.requires.linked.below at c.requires.at (omega (arith, c.requires.at)) some
    ∙ (ap (λ (b : ℕ). top h b at) h_at ∙ to-out h at s h_at)) in
    closed-whole c.point.new.heads.items rows c.point.new.rows.items at s _ c.point.ensures.kept
    (omega (arith, c.point.ensures.len, c.requires.at))
    (c.point.ensures.linked (but h at 0) (moved-out h at s h_at) to_is) refl

pub returns-clause-kept : goal.returns-clause-kept
returns-clause-kept c =
    let rows = c.args.rows.now.items in
    let at = c.args.at in
    let row_is : c.index-row.result.now ≡ get_or rows at blank =
    read_at rows at _ c.index-row.ensures c.requires.at in
    let kept_is : kept_of c.index-row.result.now ≡ get_or (kepts rows) at none =
    ap (λ (r : Row). kept_of r) row_is ∙ sym (kept-at rows at) in
    kepts-set c.point.new.rows.items at _
    ∙ (ap (λ (kept : List Kept). set kept at (with_marks true false (kept_of c.index-row.result.now)))
    c.point.ensures.kept
    ∙ kept_marked-set true false at (kepts rows) _ kept_is)

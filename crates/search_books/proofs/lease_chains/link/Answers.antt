use Rattle.std.proofs.Common.{arith, ◌≡◌, refl, get_or}
use Rattle.search_books.proofs.LeaseEnds.{kepts-append, linked-push, read_number}
use Rattle.search_books.proofs.lease_chains.link.Goals as goal

pub returns-clause-linked : goal.returns-clause-linked
returns-clause-linked c =
    let heads = c.args.heads.now.items in
    let below_is : c.index-below.result.now ≡ get_or heads c.args.lease.search 0 =
    read_number heads _ _ c.index-below.ensures c.requires.search in
    rw c.push_reserved.ensures.items
    (linked-push heads c.args.rows.now.items _ c.args.lease.search c.len.result c.requires.linked
    c.requires.search refl
    below_is (omega (arith, c.len.ensures, c.push_reserved.ensures.len)))

pub returns-clause-kept : goal.returns-clause-kept
returns-clause-kept c = rw c.push_reserved.ensures.items (kepts-append c.args.rows.now.items _)

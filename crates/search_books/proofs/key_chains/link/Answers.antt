use Rattle.std.proofs.Common.{arith, ap, ◌∙◌, ◌≡◌, ℕ, length, get_or}
use Rattle.std.proofs.lemmas.List.{length-set}
use Rattle.search_books.specs.Bucket.{home_of}
use Rattle.search_books.proofs.KeyEnds.{linked-push, read_number}
use Rattle.search_books.proofs.key_chains.link.Goals as goal

pub returns-clause-linked : goal.returns-clause-linked
returns-clause-linked c =
    let len_is : c.len.result ≡ length c.args.heads.now.items = omega (arith, c.len.ensures) in
    let home_is : c.home-bucket.result ≡ home_of (length c.args.heads.now.items) c.args.key =
    c.home-bucket.ensures.home ∙ ap (λ (n : ℕ). home_of n c.args.key) len_is in
    let below_is : c.index-below.result.now ≡ get_or c.args.heads.now.items c.home-bucket.result 0 =
    read_number c.args.heads.now.items _ _ c.index-below.ensures
    (omega (arith, c.home-bucket.ensures.in_range, len_is)) in
    rw (c.push_reserved.ensures.items, home_is)
    (linked-push c.args.heads.now.items c.args.items.now.items _ c.requires.linked
    (omega (arith, home_is, c.home-bucket.ensures.in_range, len_is)) (below_is
    ∙ ap (λ (b : ℕ). get_or c.args.heads.now.items b 0) home_is)
    c.len-2.result (omega (arith, c.len-2.ensures, c.push_reserved.ensures.len)) _
    (length-set c.args.heads.now.items _ _))

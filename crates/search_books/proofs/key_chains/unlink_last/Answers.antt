use Rattle.std.proofs.Common.{arith, ap, subst, ◌∙◌, ◌≡◌, ℕ, List, length}
use Rattle.std.proofs.lemmas.List.{length-set}
use Rattle.search_books.specs.Bucket.{home_of}
use Rattle.search_books.specs.KeyChains.{homes, IsLinked}
use Rattle.search_books.specs.declared.key_chains.Item.{Item}
use Rattle.search_books.proofs.KeyEnds.{linked-pop}
use Rattle.search_books.proofs.key_chains.unlink_last.Goals as goal

pub returns-clause-linked : goal.returns-clause-linked
returns-clause-linked c =
    let len_is : c.len.result ≡ length c.args.heads.now.items = omega (arith, c.len.ensures) in
    let home_is : c.home-bucket.result ≡ home_of (length c.args.heads.now.items) c.in-Some.last.key =
    c.home-bucket.ensures.home ∙ ap (λ (n : ℕ). home_of n c.in-Some.last.key) len_is in
    let whole = subst (λ (xs : List Item).
    IsLinked (homes (length c.args.heads.now.items) xs)
    (length xs) c.args.heads.now.items xs) c.in-Some.ensures.items
    c.requires.linked in
    rw home_is
    (linked-pop c.args.heads.now.items c.pop.new.self.items c.in-Some.last whole
    (omega (arith, home_is, c.home-bucket.ensures.in_range, len_is)) _
    (length-set c.args.heads.now.items _ _))

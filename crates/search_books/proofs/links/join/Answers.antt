use Rattle.std.proofs.Common.{ap, sym, ◌∙◌, ◌≡◌, ◌≢◌, ◌∷◌, List}
use Rattle.search_books.specs.declared.links.Link.{Link}
use Rattle.search_books.specs.Rings.{after_of, before_of}
use Rattle.search_books.proofs.Lists.{apart, none-first}
use Rattle.search_books.proofs.Paths.{after-in}
use Rattle.search_books.proofs.RingSteps.{ring-join, join-chain}
use Rattle.search_books.proofs.links.join.Goals as goal

pub returns-clause-ring : goal.returns-clause-ring
returns-clause-ring c =
    λ xs ring some none.
    let old = c.args.links.now.items in
    let s = c.args.number in
    let p = c.args.prior in
    let n_is : c.after-next.result ≡ after_of old p = c.after-next.ensures
    ∙ ap (λ (ls : List Link). after_of ls p) c.deref.ensures.value in
    let s_zero : s ≢ 0 = none-first s 0 xs none in
    let p_s : p ≢ s = λ (bad : p ≡ s). apart s p (0 ∷ xs) none some (sym bad) in
    let next_s : after_of old p ≢ s = λ (bad : after_of old p ≡ s).
    apart s (after_of old p) (0 ∷ xs) none (after-in (after_of old) (before_of old) 0 p xs ring.path some)
    (sym bad) in
    let chain = join-chain (after_of old) (before_of old) (after_of c.set_after.new.links.items)
    (before_of c.set_after.new.links.items)
    (after_of c.set_after-2.new.links.items) (before_of c.set_after-2.new.links.items)
    (after_of c.set_before.new.links.items) (before_of c.set_before.new.links.items)
    (after_of c.set_before-2.new.links.items) (before_of c.set_before-2.new.links.items) s c.after-next.result p
    n_is p_s next_s
    c.set_after.ensures.here c.set_after.ensures.others c.set_after.ensures.before
    c.set_after-2.ensures.here c.set_after-2.ensures.others c.set_after-2.ensures.before
    c.set_before.ensures.here c.set_before.ensures.others c.set_before.ensures.after
    c.set_before-2.ensures.here c.set_before-2.ensures.others c.set_before-2.ensures.after in
    ring-join old c.set_before-2.new.links.items s
    (c.set_before-2.ensures.len
    ∙ (c.set_before.ensures.len ∙ (c.set_after-2.ensures.len ∙ c.set_after.ensures.len))) c.requires.at s_zero
    p xs c.requires.prior ring some none chain

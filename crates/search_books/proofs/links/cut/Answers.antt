use Rattle.std.proofs.Common.{ap, sym, ◌∙◌, ◌≡◌, ◌≢◌, List}
use Rattle.search_books.specs.declared.links.Link.{Link}
use Rattle.search_books.specs.Rings.{after_of, before_of}
use Rattle.search_books.proofs.Lists.{apart}
use Rattle.search_books.proofs.Paths.{prior-other, not-itself}
use Rattle.search_books.proofs.RingSteps.{ring-cut, cut-chain}
use Rattle.search_books.proofs.links.cut.Goals as goal

pub returns-clause-ring : goal.returns-clause-ring
returns-clause-ring c =
    λ xs ring some.
    let old = c.args.links.now.items in
    let s = c.args.number in
    let n_is : c.after-next.result ≡ after_of old s = c.after-next.ensures
    ∙ ap (λ (ls : List Link). after_of ls s) c.deref.ensures.value in
    let p_is : c.before-prior.result ≡ before_of old s = c.before-prior.ensures
    ∙ ap (λ (ls : List Link). before_of ls s) c.deref-2.ensures.value in
    let s_zero : s ≢ 0 = λ (bad : s ≡ 0). apart 0 s xs ring.once.0 some (sym bad) in
    let chain = cut-chain (after_of old) (before_of old) (after_of c.set_after.new.links.items)
    (before_of c.set_after.new.links.items)
    (after_of c.set_before.new.links.items) (before_of c.set_before.new.links.items)
    (after_of c.set_after-2.new.links.items) (before_of c.set_after-2.new.links.items)
    (after_of c.set_before-2.new.links.items)
    (before_of c.set_before-2.new.links.items) s c.after-next.result c.before-prior.result
    n_is p_is (prior-other (after_of old) (before_of old) 0 s xs ring.path ring.once some)
    (not-itself (after_of old) (before_of old) 0 s xs ring.path ring.once ring.once.0 some)
    c.set_after.ensures.here c.set_after.ensures.others c.set_after.ensures.before
    c.set_before.ensures.here c.set_before.ensures.others c.set_before.ensures.after
    c.set_after-2.ensures.others c.set_after-2.ensures.before c.set_before-2.ensures.others
    c.set_before-2.ensures.after in
    ring-cut old c.set_before-2.new.links.items s
    (c.set_before-2.ensures.len
    ∙ (c.set_after-2.ensures.len ∙ (c.set_before.ensures.len ∙ c.set_after.ensures.len))) c.requires.at s_zero
    xs ring some chain (c.set_before-2.ensures.after s ∙ c.set_after-2.ensures.here) c.set_before-2.ensures.here

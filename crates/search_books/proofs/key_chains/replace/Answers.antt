use Rattle.std.proofs.Common.{arith, ap, sym, subst, ◌∙◌, ◌≡◌, ◌<◌, suc, ◌+◌, set, ℕ, List, length, get_or}
use Rattle.search_books.specs.Bucket.{home_of}
use Rattle.search_books.specs.KeyChains.{blank, homes, top, IsLinked, IsMoved}
use Rattle.search_books.specs.declared.key_chains.Item.{Item}
use Rattle.search_books.proofs.KeyEnds.{down-of, read_at}
use Rattle.search_books.proofs.KeyReplaced.{but, moved-out, moved-in, to-out, to-in, below-in, linked-skip, replaced, entries-same, entries-set}
use Rattle.search_books.proofs.key_chains.replace.Goals as goal

pub point-requires-clause-down : goal.point-requires-clause-down
point-requires-clause-down c = down-of _ c.args.heads.now.items c.args.items.now.items c.requires.linked

pub point-requires-clause-to : goal.point-requires-clause-to
point-requires-clause-to c =
    let old_is : c.index-old.result.now ≡ get_or c.args.items.now.items c.args.at blank =
    read_at c.args.items.now.items c.args.at _ c.index-old.ensures c.requires.at in
    let below_is = ap (λ (y : Item). y.below) old_is in
    let low = (down-of _ c.args.heads.now.items c.args.items.now.items c.requires.linked).below c.args.at
    c.requires.at in
    omega (arith, low, below_is)

pub returns-clause-linked : goal.returns-clause-linked
returns-clause-linked c =
    let heads = c.args.heads.now.items in
    let items = c.args.items.now.items in
    let at = c.args.at in
    let s = length heads in
    let h = homes s items in
    let b = home_of s c.args.key in
    let l0 = linked-skip h at heads items c.requires.linked in
    let old_is : c.index-old.result.now ≡ get_or items at blank =
    read_at items at _ c.index-old.ensures c.requires.at in
    let len_is : c.len.result ≡ s = omega (arith, c.len.ensures) in
    let from_is : c.home-from.result ≡ h at =
    c.home-from.ensures.home
    ∙ (ap (λ (n : ℕ). home_of n c.index-old.result.now.key) len_is ∙ ap (λ (y : Item). home_of s y.key) old_is) in
    let h_low : h at < s = c.requires.linked.home at c.requires.at (omega (arith, c.requires.at)) in
    let moved1 = subst (λ (x : ℕ). IsMoved h (but h at s) at x s) (sym from_is) (moved-out h at s) in
    let to1 = ap (λ (y : Item). y.below) old_is
    ∙ (c.requires.linked.below at c.requires.at (omega (arith, c.requires.at)) ∙ to-out h at s h_low) in
    let l1 = c.point.ensures.linked h (but h at s) l0 moved1
    (subst (λ (x : ℕ). c.index-old.result.now.below ≡ top (but h at s) x (suc at)) (sym from_is) to1) in
    let len2_is : c.len-2.result ≡ s = omega (arith, c.len-2.ensures, c.point.ensures.heads) in
    let into_is : c.home-into.result ≡ b = c.home-into.ensures.home ∙ ap (λ (n : ℕ). home_of n c.args.key) len2_is in
    let b_low : b < s = omega (arith, into_is, c.home-into.ensures.in_range, len2_is) in
    let moved2 = subst (λ (n : ℕ). IsMoved (but h at s) (but h at b) at c.home-into.result n)
    (sym c.point.ensures.heads)
    (subst (λ (x : ℕ). IsMoved (but h at s) (but h at b) at x s) (sym into_is) (moved-in h at s b)) in
    let l2 = c.point-below.ensures.linked (but h at s) (but h at b) l1 moved2
    (subst (λ (x : ℕ). at + 1 ≡ top (but h at b) x (suc at)) (sym into_is) (to-in h at s b)) in
    let was : c.point-below.result ≡ top (but h at b) b at =
    c.point-below.ensures.was (but h at s) l1
    ∙ (ap (λ (x : ℕ). top (but h at s) x (suc at)) into_is ∙ below-in h at s b b_low) in
    let len2 : length c.point-below.new.heads.items ≡ s = c.point-below.ensures.heads ∙ c.point.ensures.heads in
    let items_len : length c.point-below.new.items.items ≡ length items = c.point-below.ensures.len
    ∙ c.point.ensures.len in
    let item : Item = record { key = c.args.key; place = c.args.place; below = c.point-below.result } in
    subst
    (λ (n : ℕ). IsLinked (homes n (set c.point-below.new.items.items at item))
    (length (set c.point-below.new.items.items at item))
    c.point-below.new.heads.items (set c.point-below.new.items.items at item))
    (sym len2)
    (replaced c.point-below.new.heads.items items c.point-below.new.items.items at item s (sym len2) l2 items_len
    (λ i. c.point-below.ensures.keys i ∙ c.point.ensures.keys i) (omega (arith, items_len, c.requires.at)) was b_low)

pub returns-clause-entries : goal.returns-clause-entries
returns-clause-entries c =
    entries-set c.point-below.new.items.items c.args.at _
    ∙ ap (λ (es : List (ℕ × ℕ)). set es c.args.at (c.args.key, c.args.place))
    (entries-same c.point-below.new.items.items c.args.items.now.items (c.point-below.ensures.len
    ∙ c.point.ensures.len)
    (λ i. c.point-below.ensures.keys i ∙ c.point.ensures.keys i) (λ i. c.point-below.ensures.places i
    ∙ c.point.ensures.places i))

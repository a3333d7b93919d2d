-- Where the part with an index stands, by the lemmas of `Parts`.
use Rattle.std.proofs.Common.{◌≡◌, ◌∙◌, ◌<◌, ◌-◌, ℕ, List, length, get_or, take, drop, sym, ap, arith}
use Rattle.std.specs.Prelude.{slice_get, Some}
use Rattle.farm_journal.specs.Parts.{start_of}
use Rattle.farm_journal.proofs.Parts.{any-other, part-at, part-bounds, parts-length}
use Rattle.farm_journal.proofs.payloads.Payloads.at.Goals as goal

pub start_of-requires : goal.start_of-requires
start_of-requires c =
    let ends = c.self.inside.ends.items in
    let all : length c.args.self.now ≡ length ends =
    ap (λ (l : List (List ℕ)). length l) (sym c.self.view_is) ∙ parts-length 0 ends c.self.inside.bytes.items in
    let same = ap (λ (l : List ℕ). length l) c.deref-2.ensures.value in
    let within = c.requires in
    omega (arith, all, within, same)

pub index-requires : goal.index-requires
index-requires c =
    let ends = c.self.inside.ends.items in
    let all : length c.args.self.now ≡ length ends =
    ap (λ (l : List (List ℕ)). length l) (sym c.self.view_is) ∙ parts-length 0 ends c.self.inside.bytes.items in
    let same = ap (λ (l : List ℕ). length l) c.deref-2.ensures.value in
    let long = c.deref-2.ensures.len in
    let within = c.requires in
    omega (arith, all, within, same, long)

pub slice_bounds-result-count : goal.slice_bounds-result-count
slice_bounds-result-count c =
    (part-bounds c.self.inside.ends.items (length c.self.inside.bytes.items) c.args.index c.start_of.result
    c.index.result.now c.self.invariant
    (ap (λ (l : List (List ℕ)). length l) (sym c.self.view_is)
    ∙ parts-length 0 c.self.inside.ends.items c.self.inside.bytes.items) c.requires
    (c.start_of.ensures ∙ ap (λ (l : List ℕ). start_of 0 l c.args.index) c.deref-2.ensures.value)
    c.index.ensures).0

pub slice_bounds-result-start : goal.slice_bounds-result-start
slice_bounds-result-start c = omega (arith, slice_bounds-result-count c)

pub slice_bounds-result-end : goal.slice_bounds-result-end
slice_bounds-result-end c =
    let most = (part-bounds c.self.inside.ends.items (length c.self.inside.bytes.items) c.args.index c.start_of.result
    c.index.result.now c.self.invariant
    (ap (λ (l : List (List ℕ)). length l) (sym c.self.view_is)
    ∙ parts-length 0 c.self.inside.ends.items c.self.inside.bytes.items) c.requires
    (c.start_of.ensures ∙ ap (λ (l : List ℕ). start_of 0 l c.args.index) c.deref-2.ensures.value)
    c.index.ensures).1 in
    let same = ap (λ (l : List ℕ). length l) c.deref.ensures.value in
    omega (arith, most, same, slice_bounds-result-count c)

pub returns : goal.returns
returns c =
    let ends = c.self.inside.ends.items in
    let bytes = c.self.inside.bytes.items in
    let i = c.args.index in
    let all : length c.args.self.now ≡ length ends =
    ap (λ (l : List (List ℕ)). length l) (sym c.self.view_is) ∙ parts-length 0 ends bytes in
    let within = c.requires in
    let few : i < length ends = omega (arith, all, within) in
    let start : c.start_of.result ≡ start_of 0 ends i =
    c.start_of.ensures ∙ ap (λ (l : List ℕ). start_of 0 l i) c.deref-2.ensures.value in
    let end : c.index.result.now ≡ get_or ends i 0 =
    c.index.ensures ∙ any-other ends i c.index.result.now 0 few in
    ap (λ (l : List (List ℕ)). slice_get l i) (sym c.self.view_is)
    ∙ part-at 0 ends bytes i few
    ∙ ap (λ (k : ℕ). Some (take (get_or ends i 0 - k) (drop k bytes))) (sym start)
    ∙ ap (λ (k : ℕ). Some (take (k - c.start_of.result) (drop c.start_of.result bytes))) (sym end)
    ∙ ap (λ (l : List ℕ). Some (take (c.index.result.now - c.start_of.result) (drop c.start_of.result l)))
    (sym c.deref.ensures.value)

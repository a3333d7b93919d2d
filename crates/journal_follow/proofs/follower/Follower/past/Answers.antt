-- The entries of a page past those that are held.
use Rattle.std.proofs.Common.{◌≡◌, ◌≤◌, ◌<◌, ◌+◌, ◌-◌, ◌∙◌, List, ℕ, ap, drop, length, refl, subst, sym, take, arith}
use Rattle.std.specs.Prelude.{min, slice_get}
use Rattle.std.proofs.lemmas.List.{length-drop, take_rest}
use Rattle.farm_entry.specs.declared.entry.Entry.{Entry}
use Rattle.journal_follow.proofs.Takings.{foreign-of, may-bounded, none-of, past-of}
use Rattle.journal_follow.proofs.follower.Follower.past.Goals as goal

pub overflow_cast-result : goal.overflow_cast-result
overflow_cast-result g c =
    let few = may-bounded c.args.self.now.held.history c.history-held.ensures.legal in
    let size : length c.history-held.result.now ≡ length c.args.self.now.held.history =
    ap length c.history-held.ensures.value in
    omega (arith, few, size)

pub returns-then-place-held-clause-refused : goal.returns-then-place-held-clause-refused
returns-then-place-held-clause-refused g c =
    let size : length c.history-held.result.now ≡ length c.args.self.now.held.history =
    ap length c.history-held.ensures.value in
    let far = c.if-place-held.true in
    (refl, size, omega (arith, size, far))

pub overflow_cast-result-in-Some : goal.overflow_cast-result-in-Some
overflow_cast-result-in-Some g c =
    let H = c.args.self.now.held.history in
    let from = c.args.from in
    let few = may-bounded H c.history-held.ensures.legal in
    let value : c.history-held.result.now ≡ H = c.history-held.ensures.value in
    let beside = ap (λ (l : List Entry). take (length l - (from - 1)) (drop (from - 1) l)) value ∙ take_rest H (from - 1) in
    let near = subst (λ (l : List Entry). c.in-Some.i < length l) beside c.in-Some.ensures.within.0 in
    omega (arith, few, near, length-drop (from - 1) H)

pub overflow_add-result : goal.overflow_add-result
overflow_add-result g c =
    let H = c.args.self.now.held.history in
    let from = c.args.from in
    let few = may-bounded H c.history-held.ensures.legal in
    let value : c.history-held.result.now ≡ H = c.history-held.ensures.value in
    let beside = ap (λ (l : List Entry). take (length l - (from - 1)) (drop (from - 1) l)) value ∙ take_rest H (from - 1) in
    let near = subst (λ (l : List Entry). c.in-Some.i < length l) beside c.in-Some.ensures.within.0 in
    omega (arith, few, near, length-drop (from - 1) H)

pub returns-in-Some-clause-refused : goal.returns-in-Some-clause-refused
returns-in-Some-clause-refused g c =
    let H = c.args.self.now.held.history in
    let page = c.args.entries.now in
    let from = c.args.from in
    let i = c.in-Some.i in
    let value : c.history-held.result.now ≡ H = c.history-held.ensures.value in
    let size : length c.history-held.result.now ≡ length H = ap length value in
    let low = c.if-place-held.false in
    let one = c.requires in
    let far : from ≤ length H + 1 = omega (arith, size, low, one) in
    let beside = ap (λ (l : List Entry). take (length l - (from - 1)) (drop (from - 1) l)) value ∙ take_rest H (from - 1) in
    let f = c.in-Some.ensures in (
      far,
      foreign-of H page from i one far c.history-held.ensures.legal
          (subst (λ (l : List Entry). i < length l) beside f.within.0) f.within.1
          (subst (λ (l : List Entry). take i page ≡ take i l) beside f.before)
          (λ same. f.differs (same ∙ ap (λ (l : List Entry). slice_get l i) (sym beside))),
    )

pub returns-clause-past : goal.returns-clause-past
returns-clause-past g c =
    let H = c.args.self.now.held.history in
    let page = c.args.entries.now in
    let from = c.args.from in
    let value : c.history-held.result.now ≡ H = c.history-held.ensures.value in
    let size : length c.history-held.result.now ≡ length H = ap length value in
    let low = c.if-place-held.false in
    let one = c.requires in
    let far : from ≤ length H + 1 = omega (arith, size, low, one) in
    let beside = ap (λ (l : List Entry). take (length l - (from - 1)) (drop (from - 1) l)) value ∙ take_rest H (from - 1) in
    let same = c.first_difference.ensures.same (none-of c.first_difference.result c.in_default.not-Some) in
    let held = take (length c.history-held.result.now - (from - 1)) (drop (from - 1) c.history-held.result.now) in
    let least : c.min.result ≡ min (length held) (length page) = c.min.ensures in
    past-of H page _ from (length held) one far (ap length beside)
    (take_rest page c.min.result ∙ ap (λ (k : ℕ). drop k page) least)
    (same ∙ ap (λ (l : List Entry). take (length page) l) beside)

-- The tests that searches tell of, in their order.
use Rattle.std.proofs.Common.{◌≡◌, ℕ, Bool, true, false, ◌&&◌, ◌||◌, cond, T, List, [], ◌∷◌, filter, map, Option, Some, None, refl, sym, ap, subst, ◌∙◌}
use Rattle.std.specs.BTreeMap.{is_at}
use Rattle.std.specs.Cmp.{eq_by_cmp_equiv}
use Rattle.std.specs.Cmp.Lexicographic.{nat_list_cmp_total, slice_cmp}
use Rattle.std.specs.FinMap.Entries.{below_all}
use Rattle.std.specs.FinMap.{FinMap, entries, entries-from_sorted, find, from_entries, from_sorted, get-entries, get-from_entries, is_sorted, keys, nat_cmp-IsAntisymmetric, same_map, slice_cmp-IsAntisymmetric}
use Rattle.std.specs.List.{AllByRecursion, list_any}
use Rattle.std.specs.List.Sorted.{IsStrictlySortedBy}
use Rattle.std.specs.Ordering.{eq_by_cmp, is_lt, nat_cmp}
use Rattle.std.specs.declared.cmp.Ordering.{Ordering}
use Rattle.std.specs.declared.cmp.Ordering.TheVariants.{Less}
use Rattle.std.proofs.lemmas.Map.Keys.{sorted_head, sorted_tail}
use Rattle.farm_entry.specs.History.{openings}
use Rattle.farm_entry.specs.Standing.{standing}
use Rattle.farm_entry.specs.declared.entry.Entry.{Entry}
use Rattle.farm_entry.specs.declared.opening.Opening.{Opening}
use Rattle.rates_report.specs.Listed.{is_among, tells_of}
use Rattle.rates_report.specs.Noted.{all_noted, noted_of}
use Rattle.rates_report.specs.Tally.{tells, tests_of, told_tests}

abbrev Text : Type 0
Text = List ℕ

abbrev by_bytes : Text → Text → Ordering
by_bytes = slice_cmp nat_cmp

abbrev rows : List Text → List (Text × Unit {0})
rows ts = map (λ t. (t, tt {0})) ts

-- A list in order is that of the keys of the map that is made of it.

both : (a b : Bool) → T a → T b → T (a && b)
both true b p q = q
both false b p q = absurd p

below-rows : (k : Text) (ks : List Text) → AllByRecursion (λ y. by_bytes k y ≡ Less) ks → T (below_all by_bytes k (rows ks))
below-rows k [] all = tt
below-rows k (x ∷ ks) all =
    both (is_lt (by_bytes k x)) (below_all by_bytes k (rows ks))
    (subst (λ (r : Ordering). T (is_lt r)) (sym all.0) tt) (below-rows k ks all.1)

sorted-rows : (ks : List Text) → IsStrictlySortedBy by_bytes ks → T (is_sorted by_bytes (rows ks))
sorted-rows [] up = tt
sorted-rows (k ∷ ks) up =
    both (below_all by_bytes k (rows ks)) (is_sorted by_bytes (rows ks))
    (below-rows k ks (sorted_head by_bytes k ks up)) (sorted-rows ks (sorted_tail by_bytes k ks up))

marked : Bool → Option (Unit {0})
marked b = cond b (Some tt) None

find-rows : (q : Text) (ks : List Text) → find by_bytes q (rows ks) ≡ marked (is_among q ks)
unfolding marked
find-rows q [] = refl
find-rows q (k ∷ ks) =
    elim (eq_by_cmp by_bytes q k) as
    (λ b. cond b (Some tt) (find by_bytes q (rows ks)) ≡ cond (b || is_among q ks) (Some tt) None) [
      | true ↦ refl
      | false ↦ find-rows q ks
    ]

keys-rows : (ks : List Text) → map (λ (e : Text × Unit {0}). e.0) (rows ks) ≡ ks
keys-rows [] = refl
keys-rows (k ∷ ks) = ap (λ (xs : List Text). k ∷ xs) (keys-rows ks)

-- the keys of the map of some texts are the list in order that has the same texts
pub keys-same : (ts ks : List Text) → IsStrictlySortedBy by_bytes ks →
    ((q : Text) → is_among q ks ≡ is_among q ts) → keys (from_entries {R = by_bytes} (rows ts)) ≡ ks
keys-same ts ks up same =
    let made : FinMap by_bytes (Unit {0}) = from_entries (rows ts) in
    let sorted : FinMap by_bytes (Unit {0}) = from_sorted (rows ks) in
    let listed : entries sorted ≡ rows ks = entries-from_sorted by_bytes (rows ks) (sorted-rows ks up) in
    let one : made ≡ sorted =
    same_map nat_list_cmp_total (slice_cmp-IsAntisymmetric nat_cmp-IsAntisymmetric) made sorted
    (λ q. get-from_entries nat_list_cmp_total (rows ts) q ∙ find-rows q ts ∙ ap marked (sym (same q)) ∙ sym (find-rows q ks)
    ∙ ap (find by_bytes q) (sym listed) ∙ sym (get-entries sorted q)) in
    ap (λ (m : FinMap by_bytes (Unit {0})). keys m) one
    ∙ ap (map (λ (e : Text × Unit {0}). e.0)) listed
    ∙ keys-rows ks

-- The tests that searches tell of.

among-flip : (a b : Text) → eq_by_cmp by_bytes a b ≡ eq_by_cmp by_bytes b a
among-flip = (eq_by_cmp_equiv nat_list_cmp_total).symm

told-part : (H : List Entry) (q : Text) (os : List Opening) →
    is_among q (map (λ (o : Opening). o.test) (filter (λ (o : Opening). tells (standing H o)) os))
    ≡ list_any (tells_of q) (map (noted_of H) os)
told-part H q [] = refl
told-part H q (o ∷ os) =
    let rest : List Opening = filter (λ (x : Opening). tells (standing H x)) os in
    elim (tells (standing H o)) as
    (λ b. is_among q (map (λ (x : Opening). x.test) (cond b (o ∷ rest) rest))
    ≡ ((b && is_at (by_bytes o.test) q) || list_any (tells_of q) (map (noted_of H) os))) [
      | true ↦ λ i. among-flip q o.test i || told-part H q os i
      | false ↦ told-part H q os
    ]

-- the list that has them in order is the history's
pub tests-are : (H : List Entry) (ks : List Text) → IsStrictlySortedBy by_bytes ks →
    ((q : Text) → is_among q ks ≡ list_any (tells_of q) (all_noted H)) → tests_of H ≡ ks
tests-are H ks up same =
    keys-same (told_tests H) ks up (λ q. same q ∙ sym (told-part H q (openings H)))

-- How many orders a history has, and how its searches are counted by where they stand.
use Rattle.std.proofs.Common.{codes, ◌++◌, ◌≡◌, ℕ, zero, suc, ◌+◌, ◌/◌, ◌<◌, ◌≤◌, Bool, true, false, List, [], ◌∷◌, length, take, get_or, count_by, filter_map, Contains, Option, Some, None, cond, refl, sym, ap, subst, ◌∙◌, ⊎_elim, arith}
use Rattle.std.specs.List.{cons_option}
use Rattle.std.proofs.lemmas.Bool.{cases_Bool}
use Rattle.std.proofs.lemmas.List.Sums.{count_by-le-length, count_by_more_no, count_by_more_yes}
use Rattle.std.proofs.lemmas.List.{length-take, take_all}
use Rattle.farm_entry.specs.History.{opening_numbered, openings, order_in, order_lines}
use Rattle.farm_entry.specs.Legal.{IsLegal}
use Rattle.farm_entry.specs.Pages.{totals}
use Rattle.farm_entry.specs.Standing.{is_confirmed, standing}
use Rattle.farm_entry.specs.declared.entry.Entry.{Entry}
use Rattle.farm_entry.specs.declared.limits.TheConstants.{MAX_ENTRIES, MAX_SEARCHES}
use Rattle.farm_entry.specs.declared.opening.Opening.{Opening}
use Rattle.farm_entry.specs.declared.standing.Standing.{Standing}
use Rattle.farm_entry.specs.declared.standing.Standing.TheVariants.{Searching, Verifying, Confirmed, Vindicated, NoCulprit, Inconclusive, Cancelled}
use Rattle.farm_laws.proofs.Bounds.{parts-bounded}
use Rattle.farm_laws.proofs.Numbered.{number-at, opening-found, openings-numbered}
use Rattle.drill_plan.specs.declared.limits.TheConstants.{DRILL_DAILY}
use Rattle.farm_drill.specs.Line.{IsBelow, drill_line, is_no_culprit, is_other, numbers_line, tally_of, tally_with}
use Rattle.farm_drill.specs.declared.line.Tally.{Tally}

-- Orders.

pub orders-bounded : (H : List Entry) → IsLegal H → length (order_lines H) ≤ MAX_ENTRIES
orders-bounded H legal = parts-bounded order_in H refl legal

-- the days of so many orders are before the last that a moment may lie on
pub days-few : (count daily : ℕ) → daily ≡ DRILL_DAILY → count ≤ MAX_ENTRIES → 2 + count / daily ≤ 10_000
days-few count daily is few = subst (λ (d : ℕ). 2 + count / d ≤ 10_000) (sym is) (omega arith)

-- Standings.

item-at : {X : Type 0} (xs : List X) (i : ℕ) → i < length xs → (x : X) × (get_or xs i x ≡ x)
item-at [] i below = absurd (omega arith)
item-at (x ∷ xs) zero below = (x, refl)
item-at (x ∷ xs) (suc i) below = item-at xs i (omega arith)

-- the search with a number is the one at its place
pub opening-at : (H : List Entry) (i : ℕ) → IsLegal H → i < length (openings H)
    → (o : Opening) × (opening_numbered H (i + 1) ≡ Some o) × (get_or (openings H) i o ≡ o)
opening-at H i legal below =
    let at = item-at (openings H) i below in
    let o : Opening = at.0 in
    let same : get_or (openings H) i o ≡ o = at.1 in
    let there : Contains (openings H) o = (i, below, same) in
    let number : o.search ≡ 1 + i =
    ap (λ (x : Opening). x.search) (sym same)
    ∙ number-at (λ (x : Opening). x.search) 1 (openings H) (openings-numbered H legal) i o below in
    let one : i + 1 ≡ o.search = omega (arith, number) in
    (o, ap (opening_numbered H) one ∙ opening-found H o legal there, same)

-- a test as a count of one item
abbrev one_if : Bool → ℕ
one_if b = cond b 1 0

count-one : {X : Type 0} (p : X → Bool) (xs : List X) (i : ℕ) (x : X) → i < length xs → get_or xs i x ≡ x
    → count_by p (take i xs) + one_if (p x) ≡ count_by p (take (i + 1) xs)
count-one p xs i x below is =
    ⊎_elim
    (λ (is_yes : p x ≡ true).
    let one : one_if (p x) ≡ 1 = ap one_if is_yes in
    let more = count_by_more_yes p xs i x below (ap p is ∙ is_yes) in
    omega (arith, one, more))
    (λ (is_no : p x ≡ false).
    let one : one_if (p x) ≡ 0 = ap one_if is_no in
    let more = count_by_more_no p xs i x below (ap p is ∙ is_no) in
    omega (arith, one, more))
    (cases_Bool (p x))

abbrev tally_made : (confirmed no_culprit other : ℕ) → Tally
tally_made confirmed no_culprit other = record { confirmed = confirmed; no_culprit = no_culprit; other = other }

same-tally : (a b c x y z : ℕ) → a ≡ x → b ≡ y → c ≡ z → tally_made a b c ≡ tally_made x y z
same-tally a b c x y z p q r =
    ap (λ (n : ℕ). tally_made n b c) p ∙ ap (λ (n : ℕ). tally_made x n c) q ∙ ap (λ (n : ℕ). tally_made x y n) r

-- one search more, count by count
with-adds : (t : Tally) (s : Standing) → tally_with t s
    ≡ tally_made (t.confirmed + one_if (is_confirmed s)) (t.no_culprit + one_if (is_no_culprit s))
    (t.other + one_if (is_other s))
with-adds t Searching =
    same-tally t.confirmed t.no_culprit (t.other + 1) (t.confirmed + 0) (t.no_culprit + 0) (t.other + 1)
    (omega arith) (omega arith) refl
with-adds t (Verifying culprit) =
    same-tally t.confirmed t.no_culprit (t.other + 1) (t.confirmed + 0) (t.no_culprit + 0) (t.other + 1)
    (omega arith) (omega arith) refl
with-adds t (Confirmed culprit) =
    same-tally (t.confirmed + 1) t.no_culprit t.other (t.confirmed + 1) (t.no_culprit + 0) (t.other + 0)
    refl (omega arith) (omega arith)
with-adds t (Vindicated culprit) =
    same-tally t.confirmed t.no_culprit (t.other + 1) (t.confirmed + 0) (t.no_culprit + 0) (t.other + 1)
    (omega arith) (omega arith) refl
with-adds t NoCulprit =
    same-tally t.confirmed (t.no_culprit + 1) t.other (t.confirmed + 0) (t.no_culprit + 1) (t.other + 0)
    (omega arith) refl (omega arith)
with-adds t Inconclusive =
    same-tally t.confirmed t.no_culprit (t.other + 1) (t.confirmed + 0) (t.no_culprit + 0) (t.other + 1)
    (omega arith) (omega arith) refl
with-adds t Cancelled =
    same-tally t.confirmed t.no_culprit (t.other + 1) (t.confirmed + 0) (t.no_culprit + 0) (t.other + 1)
    (omega arith) (omega arith) refl

-- the count of the searches up to a place and with it
pub tally-more : (H : List Entry) (os : List Opening) (i : ℕ) (o : Opening) (s : Standing) → i < length os
    → get_or os i o ≡ o → s ≡ standing H o → tally_with (tally_of H (take i os)) s ≡ tally_of H (take (i + 1) os)
tally-more H os i o s below at is =
    let t : Tally = tally_of H (take i os) in
    let x : Standing = standing H o in
    ap (tally_with t) is ∙ with-adds t x
    ∙ same-tally (t.confirmed + one_if (is_confirmed x)) (t.no_culprit + one_if (is_no_culprit x))
    (t.other + one_if (is_other x)) (tally_of H (take (i + 1) os)).confirmed
    (tally_of H (take (i + 1) os)).no_culprit (tally_of H (take (i + 1) os)).other
    (count-one (λ (y : Opening). is_confirmed (standing H y)) os i o below at)
    (count-one (λ (y : Opening). is_no_culprit (standing H y)) os i o below at)
    (count-one (λ (y : Opening). is_other (standing H y)) os i o below at)

-- fewer searches than the limit are counted before the last
pub tally-below : (H : List Entry) (os : List Opening) (i : ℕ) → i < length os → length os ≤ MAX_SEARCHES
    → IsBelow MAX_SEARCHES (tally_of H (take i os))
tally-below H os i below few =
    let there : length (take i os) < MAX_SEARCHES = omega (arith, length-take i os) in
    record {
      confirmed = omega (arith, count_by-le-length (λ (y : Opening). is_confirmed (standing H y)) (take i os));
      no_culprit = omega (arith, count_by-le-length (λ (y : Opening). is_no_culprit (standing H y)) (take i os));
      other = omega (arith, count_by-le-length (λ (y : Opening). is_other (standing H y)) (take i os));
    }

pub tally-all : (H : List Entry) (os : List Opening) (i : ℕ) (t : Tally) → t ≡ tally_of H (take i os) → i ≡ length os
    → t ≡ tally_of H os
tally-all H os i t is all =
    is ∙ ap (λ (n : ℕ). tally_of H (take n os)) all ∙ ap (tally_of H) (take_all (length os) os (omega arith))

-- The line.

pub line-of : (H : List Entry) (text : List ℕ) (searches : ℕ) (tally : Tally) (orders : ℕ)
    → text ≡ numbers_line searches tally.confirmed tally.no_culprit tally.other orders ++ codes "\n"
    → searches ≡ length (openings H)
    → tally ≡ tally_of H (openings H) → orders ≡ (totals H).orders → text ≡ drill_line H
line-of H text searches tally orders is all counted given =
    is
    ∙ ap (λ (n : ℕ). numbers_line n tally.confirmed tally.no_culprit tally.other orders ++ codes "\n") all
    ∙ ap (λ (t : Tally). numbers_line (length (openings H)) t.confirmed t.no_culprit t.other orders ++ codes "\n")
    counted
    ∙ ap (λ (n : ℕ). numbers_line (length (openings H)) (tally_of H (openings H)).confirmed
    (tally_of H (openings H)).no_culprit (tally_of H (openings H)).other n ++ codes "\n") given

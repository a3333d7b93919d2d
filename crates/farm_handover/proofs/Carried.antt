-- Orders that are read can be carried over.
use Rattle.std.proofs.Common.{◌≡◌, ◌≢◌, ℕ, ◌+◌, ◌<◌, ◌≤◌, nat_le, nat_lt, Bool, true, false, not, true≢false, List, [], ◌∷◌, ◌++◌, length, get_or, Option, Some, None, Result, Ok, Err, refl, sym, ap, subst, ◌∙◌, arith, length-append, All}
use Rattle.std.specs.Prelude.{if◌then◌else◌}
use Rattle.std.proofs.lemmas.Bool.{and_parts, leb-true, ltb-true, not-true}
use Rattle.std.proofs.lemmas.List.Elements.{All-append, All-cons, All-nil}
use Rattle.std.proofs.lemmas.List.Folds.{list_any_at}
use Rattle.std.proofs.lemmas.List.Quantifiers.{all_pairs_push}
use Rattle.common_types.specs.Decimals.{number}
use Rattle.farm_entry.specs.Closing.{CanBeCarried}
use Rattle.farm_entry.specs.declared.limits.TheConstants.{MAX_CARRIED}
use Rattle.farm_rules.specs.Orders.{Ordered, has_order}
use Rattle.farm_types.proofs.SameValues.{same_id-Decides}
use Rattle.farm_types.specs.CommitId.{same_id}
use Rattle.farm_types.specs.declared.commit_id.CommitId.{CommitId}
use Rattle.farm_types.specs.declared.moment.TheConstants.{LAST_DAY}
use Rattle.farm_wire.specs.Made.{id_named}
use Rattle.judge.specs.Text.{lines, words}
use Rattle.farm_handover.specs.Handover.{at_end, closes, handed_over, is_further, order_in_line, order_of, order_words, orders_from}
use Rattle.farm_handover.proofs.Remaining.{orders_by}

-- a day that is read is one
order_of-dated : (commit : Option CommitId) (day : Option ℕ) (o : Ordered) → order_of commit day ≡ Some o
    → o.day ≤ LAST_DAY
order_of-dated None day o is = absurd (cc)
order_of-dated (Some commit) None o is = absurd (cc)
order_of-dated (Some commit) (Some day) o is = by_test (nat_le day LAST_DAY) refl is
  where
    made : Ordered
    made = record { commit = commit; day = day }

    by_test : (t : Bool) → nat_le day LAST_DAY ≡ t → (if t then Some made else None) ≡ Some o → o.day ≤ LAST_DAY
    by_test true within is =
        let same : made ≡ o = cc in
        subst (λ (x : Ordered). x.day ≤ LAST_DAY) same (leb-true day LAST_DAY within)
    by_test false within is = absurd (cc)

order_words-dated : (ws : List (List ℕ)) (o : Ordered) → order_words ws ≡ Some o → o.day ≤ LAST_DAY
order_words-dated [] o is = absurd (cc)
order_words-dated (a ∷ []) o is = absurd (cc)
order_words-dated (a ∷ b ∷ []) o is = order_of-dated (id_named a) (number b) o is
order_words-dated (a ∷ b ∷ c ∷ ws) o is = absurd (cc)

-- a commit without an order is none of those that have one
known-differs : (orders : List Ordered) (o : Ordered) → has_order orders o.commit ≡ false → (k : ℕ) (d : Ordered)
    → k < length orders → (get_or orders k d).commit ≢ o.commit
known-differs orders o lacks k d within same =
    let known : has_order orders o.commit ≡ true =
    list_any_at (λ (r : Ordered). same_id r.commit o.commit) orders k d within
    ((same_id-Decides (get_or orders k d).commit o.commit).1 same) in
    true≢false (sym known ∙ lacks)

-- a further order leaves them fit
fit-more : (orders : List Ordered) (o : Ordered) → CanBeCarried orders → o.day ≤ LAST_DAY → is_further orders o ≡ true
    → CanBeCarried (orders ++ o ∷ [])
fit-more orders o are dated further =
    let parts = and_parts (nat_lt (length orders) MAX_CARRIED) (not (has_order orders o.commit)) further in
    let room = ltb-true (length orders) MAX_CARRIED parts.0 in
    record {
      few = omega (arith, room, length-append orders (o ∷ []));
      apart = all_pairs_push (λ (a b : Ordered). a.commit ≢ b.commit) orders o are.apart
          (known-differs orders o (not-true (has_order orders o.commit) parts.1));
      dated = All-append (λ (x : Ordered). x.day ≤ LAST_DAY) orders (o ∷ []) are.dated
          (All-cons (λ (x : Ordered). x.day ≤ LAST_DAY) o [] dated (All-nil (λ (x : Ordered). x.day ≤ LAST_DAY)));
    }

at_end-fit : (orders read : List Ordered) (l : ℕ) (xs : List (List ℕ)) → CanBeCarried orders
    → at_end orders l xs ≡ Ok read → CanBeCarried read
at_end-fit orders read l [] are is = let same : orders ≡ read = cc in subst CanBeCarried same are
at_end-fit orders read l (x ∷ xs) are is = absurd (cc)

-- what is read from one line on is fit, by what is read from the next one on
by_test-last : (t : Bool) (orders read : List Ordered) (l : ℕ) (xs : List (List ℕ)) → CanBeCarried orders
    → (if t then at_end orders (l + 1) xs else Err l) ≡ Ok read → CanBeCarried read
by_test-last true orders read l xs are is = at_end-fit orders read (l + 1) xs are is
by_test-last false orders read l xs are is = absurd (cc)

by_test-further : (t : Bool) (orders read : List Ordered) (l : ℕ) (xs : List (List ℕ)) (o : Ordered)
    → is_further orders o ≡ t → CanBeCarried orders → o.day ≤ LAST_DAY
    → (CanBeCarried (orders ++ o ∷ []) → orders_from (orders ++ o ∷ []) (l + 1) xs ≡ Ok read → CanBeCarried read)
    → (if t then orders_from (orders ++ o ∷ []) (l + 1) xs else Err l) ≡ Ok read → CanBeCarried read
by_test-further true orders read l xs o further are dated on is = on (fit-more orders o are dated further) is
by_test-further false orders read l xs o further are dated on is = absurd (cc)

by_order-fit : (found : Option Ordered) (orders read : List Ordered) (l : ℕ) (x : List ℕ) (xs : List (List ℕ))
    → order_in_line x ≡ found → CanBeCarried orders
    → ((o : Ordered) → CanBeCarried (orders ++ o ∷ []) → orders_from (orders ++ o ∷ []) (l + 1) xs ≡ Ok read
    → CanBeCarried read)
    → orders_by orders l x xs found ≡ Ok read → CanBeCarried read
by_order-fit None orders read l x xs writes are on is =
    by_test-last (closes (length orders) (words x)) orders read l xs are is
by_order-fit (Some o) orders read l x xs writes are on is =
    by_test-further (is_further orders o) orders read l xs o refl are (order_words-dated (words x) o writes) (on o) is

-- what is read from here on is fit, where what was read so far is
read-fit : (left : List (List ℕ)) (orders : List Ordered) (l : ℕ) (read : List Ordered) → CanBeCarried orders
    → orders_from orders l left ≡ Ok read → CanBeCarried read
read-fit [] orders l read are is = absurd (cc)
read-fit (x ∷ xs) orders l read are is =
    by_order-fit (order_in_line x) orders read l x xs refl are
    (λ o fit further. read-fit xs (orders ++ o ∷ []) (l + 1) read fit further) is

none-fit : CanBeCarried []
none-fit = record {
  few = omega arith;
  apart = λ i j d before within. absurd (omega (arith, within));
  dated = All-nil (λ (x : Ordered). x.day ≤ LAST_DAY);
}

-- what an input hands over can be carried
pub handed_over-fit : (input : List ℕ) (orders : List Ordered) → handed_over input ≡ Ok orders → CanBeCarried orders
handed_over-fit input orders is = read-fit (lines input) [] 1 orders none-fit is

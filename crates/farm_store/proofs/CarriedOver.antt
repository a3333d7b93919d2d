-- A farm that is founded with orders of the one before it.
use Rattle.std.proofs.Common.{◌≡◌, ◌≢◌, ℕ, zero, suc, ◌+◌, ◌*◌, ◌==◌, ◌<◌, ◌≤◌, nat_le, nat_lt, not, ◌&&◌, Bool, true, false, List, [], ◌∷◌, ◌++◌, length, map, take, get_or, refl, sym, ◌∙◌, ap, subst, add-one, arith}
use Rattle.std.specs.List.{list_all}
use Rattle.std.proofs.lemmas.Bool.{false_from_ne_true, le-leb, lt-ltb}
use Rattle.std.proofs.lemmas.Bool.Decides.{Decides-eqb}
use Rattle.std.proofs.lemmas.List.{append_assoc, append-nil, get_or-take, get_or_default, length-append, length-map, length-take-le, map-append, take_all, take_more}
use Rattle.std.proofs.lemmas.List.Elements.{All-get_or}
use Rattle.std.proofs.lemmas.List.Folds.{list_any_none}
use Rattle.farm_types.specs.CommitId.{same_id}
use Rattle.farm_types.specs.Moment.{moment_ms}
use Rattle.farm_types.specs.declared.commit_id.CommitId.{CommitId}
use Rattle.farm_types.specs.declared.moment.Moment.{Moment}
use Rattle.farm_types.specs.declared.moment.TheConstants.{LAST_DAY}
use Rattle.farm_types.proofs.SameValues.{same_id-Decides}
use Rattle.farm_rules.specs.Orders.{Ordered, has_order}
use Rattle.entry_codec.specs.Spelling.{entry_bytes, spelling}
use Rattle.entry_codec.proofs.Sizes.{carried-length, founded-length}
use Rattle.farm_entry.specs.Closing.{CanBeCarried, begins_at, may_carry}
use Rattle.farm_entry.specs.Legal.{IsLegal, IsNext}
use Rattle.farm_entry.specs.Orders.{orders}
use Rattle.farm_entry.specs.declared.entry.Entry.{Entry}
use Rattle.farm_entry.specs.declared.entry.What.TheVariants.{Founded}
use Rattle.farm_entry.specs.declared.limits.TheConstants.{MAX_CARRIED, MAX_ENTRIES}
use Rattle.farm_entry.specs.declared.settings.Settings.{Settings}
use Rattle.farm_laws.proofs.Induct.{IsLegal-push}
use Rattle.farm_store.specs.Founded.{founding}
use Rattle.farm_store.specs.Inherited.{carried_at, inheriting}
use Rattle.farm_store.specs.declared.asking.TheConstants.{MAX_RECORD_BYTES}

-- a chain of four tests
all-true : (a b c d : Bool) → a ≡ true → b ≡ true → c ≡ true → d ≡ true → (a && b && c && d) ≡ true
all-true a b c d p q r s = rw (p, q, r, s) refl

not-false : (b : Bool) → b ≡ false → not b ≡ true
not-false b is = rw is refl

module _ (settings : Settings) (at : Moment) where
  same-moment : (moment_ms at == moment_ms at) ≡ true
  same-moment = (Decides-eqb (moment_ms at) (moment_ms at)).1 refl

  -- all entries are of the founding's moment
  carried-begin : (carried : List Ordered) → list_all (begins_at at) (map (carried_at at) carried) ≡ true
  carried-begin [] = refl
  carried-begin (o ∷ carried) = rw (same-moment, carried-begin carried) refl

  begun : (carried : List Ordered) → list_all (begins_at at) (inheriting settings at carried) ≡ true
  begun carried = rw (same-moment, carried-begin carried) refl

  -- the orders that stand are those that were carried over
  carried-orders : (carried : List Ordered) → orders (map (carried_at at) carried) ≡ carried
  carried-orders [] = refl
  carried-orders (o ∷ carried) = ap (λ (l : List Ordered). o ∷ l) (carried-orders carried)

  pub orders-inheriting : (carried : List Ordered) → orders (inheriting settings at carried) ≡ carried
  orders-inheriting carried = carried-orders carried

  length-inheriting : (carried : List Ordered) → length (inheriting settings at carried) ≡ 1 + length carried
  length-inheriting carried = omega (arith, length-map carried (carried_at at))

  -- one more
  pub inheriting-push : (carried : List Ordered) (o : Ordered)
      → inheriting settings at (carried ++ o ∷ []) ≡ inheriting settings at carried ++ carried_at at o ∷ []
  inheriting-push carried o =
      ap (λ (l : List Entry). founding settings at ++ l) (map-append (carried_at at) carried (o ∷ []))
      ∙ sym (append_assoc (founding settings at) (map (carried_at at) carried) (carried_at at o ∷ []))

  pub inheriting-none : founding settings at ≡ inheriting settings at []
  inheriting-none = sym (append-nil (founding settings at))

  module _ (all : List Ordered) (can : CanBeCarried all) where
    -- an order has a commit of its own among those before it
    apart : (i : ℕ) (d : Ordered) → i < length all → has_order (take i all) (get_or all i d).commit ≡ false
    apart i d within = list_any_none (λ (o : Ordered). same_id o.commit (get_or all i d).commit) (take i all)
        (λ k e before.
        let early : k < i = omega (arith, before, length-take-le i all (omega (arith, within))) in
        let is = get_or-take i all k e early in
        let differ : (get_or all k e).commit ≢ (get_or all i d).commit =
        subst (λ (x : Ordered). (get_or all k e).commit ≢ x.commit) (get_or_default all i e d within)
        (can.apart k i e early within) in
        differs (get_or (take i all) k e).commit (get_or all i d).commit
        (λ same. differ (ap (λ (o : Ordered). o.commit) (sym is) ∙ same)))
      where
        differs : (a b : CommitId) → a ≢ b → same_id a b ≡ false
        differs a b other = false_from_ne_true (same_id a b) (λ same. other ((same_id-Decides a b).0 same))

    -- so it may come next
    may-carry : (i : ℕ) (d : Ordered) → i < length all
        → IsNext (inheriting settings at (take i all)) (carried_at at (get_or all i d))
    may-carry i d within =
        let o = get_or all i d in
        let H = inheriting settings at (take i all) in
        let few : length all ≤ MAX_CARRIED = can.few in
        let long : length (take i all) ≡ i = length-take-le i all (omega (arith, within)) in
        all-true (nat_lt (length H) MAX_ENTRIES) (list_all (begins_at at) H) (not (has_order (orders H) o.commit))
        (nat_le o.day LAST_DAY)
        (lt-ltb (length H) MAX_ENTRIES (omega (arith, few, long, within, length-inheriting (take i all))))
        (begun (take i all))
        (not-false (has_order (orders H) o.commit)
        (ap (λ (l : List Ordered). has_order l o.commit) (orders-inheriting (take i all)) ∙ apart i d within))
        (le-leb o.day LAST_DAY (All-get_or (λ (x : Ordered). x.day ≤ LAST_DAY) all i d within can.dated))

    pub carried-more : (i : ℕ) (d : Ordered) → i < length all
        → inheriting settings at (take (i + 1) all)
        ≡ inheriting settings at (take i all) ++ carried_at at (get_or all i d) ∷ []
    carried-more i d within = ap (inheriting settings at) (take_more all i d within)
        ∙ inheriting-push (take i all) (get_or all i d)

    pub legal-more : (i : ℕ) (d : Ordered) → i < length all → IsLegal (inheriting settings at (take i all))
        → IsLegal (inheriting settings at (take i all) ++ carried_at at (get_or all i d) ∷ [])
    legal-more i d within legal =
        IsLegal-push (inheriting settings at (take i all)) (carried_at at (get_or all i d)) legal
        (may-carry i d within)

    -- there is one
    some-order : (l : List Ordered) → 0 < length l → Ordered
    some-order [] some = absurd (omega (arith, some))
    some-order (o ∷ l) some = o

    -- each beginning of them can be carried over
    pub legal-taken : (i : ℕ) → i ≤ length all → IsLegal (inheriting settings at (take i all))
    legal-taken zero low = subst IsLegal inheriting-none (tt, tt)
    legal-taken (suc i) low =
        let within : i < length all = omega (arith, low) in
        let d = some-order all (omega (arith, within)) in
        subst (λ (k : ℕ). IsLegal (inheriting settings at (take k all))) (add-one i)
        (subst IsLegal (sym (carried-more i d within))
        (legal-more i d within (legal-taken i (omega (arith, within)))))

    pub legal-inheriting : IsLegal (inheriting settings at all)
    legal-inheriting = subst (λ (l : List Ordered). IsLegal (inheriting settings at l))
        (take_all (length all) all (omega arith)) (legal-taken (length all) (omega arith))

-- How many bytes they take.

length-all : (at : Moment) (carried : List Ordered)
    → length (spelling (map (carried_at at) carried)) ≡ 33 * length carried
length-all at [] = refl
length-all at (o ∷ carried) =
    omega (
      arith,
      length-append (entry_bytes (carried_at at o)) (spelling (map (carried_at at) carried)),
      carried-length (carried_at at o) o.commit o.day refl,
      length-all at carried,
    )

module _ (settings : Settings) (at : Moment) (all : List Ordered) where
  length-inherited : length (spelling (inheriting settings at all)) ≡ 17 + 33 * length all
  length-inherited =
      let founded : Entry = record { at = at; what = Founded settings } in
      omega (
        arith,
        length-append (entry_bytes founded) (spelling (map (carried_at at) all)),
        founded-length founded settings refl,
        length-all at all,
      )

  -- so all of them fit a record
  pub inheriting-fits : CanBeCarried all → length (spelling (inheriting settings at all)) ≤ MAX_RECORD_BYTES
  inheriting-fits can =
      let few : length all ≤ MAX_CARRIED = can.few in
      let long = length-inherited in
      omega (arith, long, few)

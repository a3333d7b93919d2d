-- How a history goes on that only begins: its founding, and orders that it carries over.
use Rattle.std.proofs.Common.{◌≡◌, ℕ, ◌+◌, ◌==◌, Bool, true, false, true≢false, not, ◌&&◌, nat_le, nat_lt, List, [], ◌∷◌, ◌++◌, length, Option, None, refl, sym, ap, subst, ◌∙◌, arith, eq-eqb, ltb-true}
use Rattle.std.specs.List.{cons_option, list_all}
use Rattle.std.proofs.lemmas.List.Folds.{list_all-append}
use Rattle.farm_rules.specs.Orders.{Ordered, has_order}
use Rattle.farm_types.specs.Moment.{moment_ms}
use Rattle.farm_types.specs.declared.commit_id.CommitId.{CommitId}
use Rattle.farm_types.specs.declared.moment.Moment.{Moment}
use Rattle.farm_types.specs.declared.moment.TheConstants.{LAST_DAY}
use Rattle.farm_entry.proofs.Growing.{orders-grow}
use Rattle.farm_entry.specs.Closing.{begins_at, is_beginning, may_carry}
use Rattle.farm_entry.specs.History.{ordered_in}
use Rattle.farm_entry.specs.Legal.{IsAddedBy, IsUnasked, command_of}
use Rattle.farm_entry.specs.Orders.{orders}
use Rattle.farm_entry.specs.declared.command.Command.{Command}
use Rattle.farm_entry.specs.declared.entry.Entry.{Entry}
use Rattle.farm_entry.specs.declared.entry.What.{What}
use Rattle.farm_entry.specs.declared.entry.What.TheVariants.{Carried}
use Rattle.farm_entry.specs.declared.limits.TheConstants.{MAX_ENTRIES}
use Rattle.farm_rules.specs.Book.{Book}
use Rattle.plain_farm.specs.Begun.{CanBeKept, HasBegun, IsCarriedOn, IsKept}
use Rattle.plain_history.proofs.Holding.{length-filter_map-le}

-- an order that may come next can be kept
first-test : (a b c d : Bool) → (a && b && not c && d) ≡ true → a ≡ true
first-test true b c d h = refl
first-test false b c d h = h

free-test : (a b c d : Bool) → (a && b && not c && d) ≡ true → c ≡ false
free-test a b false d h = refl
free-test true true true d h = absurd (true≢false (sym h))
free-test true false true d h = absurd (true≢false (sym h))
free-test false b true d h = absurd (true≢false (sym h))

pub carry-kept : (H : List Entry) (at : Moment) (book : Book) (commit : CommitId) (day : ℕ) → HasBegun H at book →
    may_carry H at commit day ≡ true → CanBeKept book commit
carry-kept H at book commit day h may =
    let below : nat_lt (length H) MAX_ENTRIES ≡ true =
    first-test (nat_lt (length H) MAX_ENTRIES) (list_all (begins_at at) H) (has_order (orders H) commit)
    (nat_le day LAST_DAY) may in
    record {
      few = omega (
        arith,
        ap length h.kept,
        length-filter_map-le (λ (e : Entry). ordered_in e.what) H,
        ltb-true (length H) MAX_ENTRIES below,
      );
      none_given = h.none_given;
      free = ap (λ (os : List Ordered). has_order os commit) h.kept
          ∙ free-test (nat_lt (length H) MAX_ENTRIES) (list_all (begins_at at) H) (has_order (orders H) commit)
          (nat_le day LAST_DAY) may;
    }

-- and with it the history has still only begun

may-same : (H : List Entry) (m n : Moment) (commit : CommitId) (day : ℕ) → moment_ms m ≡ moment_ms n →
    may_carry H m commit day ≡ may_carry H n commit day
may-same H m n commit day same =
    ap (λ (k : ℕ). nat_lt (length H) MAX_ENTRIES && list_all (λ (e : Entry). is_beginning e.what && moment_ms e.at == k) H
    && not (has_order (orders H) commit) && nat_le day LAST_DAY) same

next-carried : (H : List Entry) (e : Entry) (w : What) (commit : CommitId) (day : ℕ) → w ≡ Carried commit day →
    may_carry H e.at commit day ≡ true → IsUnasked H e.at w × (command_of w ≡ None)
next-carried H e w commit day is may =
    subst (λ (x : What). IsUnasked H e.at x × (command_of x ≡ None)) (sym is) (may, refl)

added-unasked : (H : List Entry) (e : Entry) (o : Option Command) → o ≡ None → IsUnasked H e.at e.what → IsAddedBy H e o
added-unasked H e o none next = subst (λ (x : Option Command). IsAddedBy H e x) (sym none) next

same-ms : (m : Moment) → moment_ms m == moment_ms m ≡ true
same-ms m = eq-eqb (moment_ms m) (moment_ms m) refl

carried-begins : (w : What) (commit : CommitId) (day : ℕ) → w ≡ Carried commit day → is_beginning w ≡ true
carried-begins w commit day is = ap is_beginning is

pub carried-on : (H : List Entry) (e : Entry) (at : Moment) (old new : Book) (commit : CommitId) (day : ℕ) →
    HasBegun H at old → e.what ≡ Carried commit day → moment_ms e.at ≡ moment_ms at →
    may_carry H at commit day ≡ true → IsKept old (record { commit = commit; day = day }) new → IsCarriedOn H e at new
carried-on H e at old new commit day h is same may kept =
    let unasked = next-carried H e e.what commit day is (may-same H e.at at commit day same ∙ may) in
    let begins : begins_at at e ≡ true =
    ap (λ (b : Bool). b && moment_ms e.at == moment_ms at) (carried-begins e.what commit day is)
    ∙ ap (λ (k : ℕ). k == moment_ms at) same ∙ same-ms at in
    record {
      next = added-unasked H e (command_of e.what) unasked.1 unasked.0;
      begun = record {
        begun = list_all-append (begins_at at) H (e ∷ []) ∙ ap (λ (b : Bool). b && (begins_at at e && true)) h.begun
            ∙ ap (λ (b : Bool). b && true) begins;
        kept = kept.kept
            ∙ ap (λ (os : List Ordered). os ++ record { commit = commit; day = day } ∷ []) h.kept
            ∙ ap (λ (o : Option Ordered). orders H ++ cons_option o []) (sym (ap ordered_in is))
            ∙ sym (orders-grow H e);
        none_given = kept.none_given;
      };
    }

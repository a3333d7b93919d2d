-- Orders that were carried over stand right behind the founding, before all others.
use Rattle.std.proofs.Common.{◌≡◌, ◌≢◌, ℕ, ◌+◌, ◌<◌, ◌≤◌, ◌==◌, Bool, true, false, ◌&&◌, List, [], ◌∷◌, ◌++◌, length, map, Option, None, refl, sym, ap, subst, ◌∙◌, append_assoc, append-nil, length-append, arith, true≢false}
use Rattle.std.specs.List.{cons_option, list_all}
use Rattle.std.proofs.Math.Bool.{and-true}
use Rattle.std.proofs.lemmas.Bool.{and_from, and_parts, eq-eqb, eqb-true}
use Rattle.std.proofs.lemmas.List.{map-append}
use Rattle.std.proofs.lemmas.List.Folds.{list_all-append}
use Rattle.farm_rules.specs.Orders as rules
use Rattle.farm_types.specs.Moment.{moment_ms}
use Rattle.farm_types.specs.declared.moment.Moment.{Moment}
use Rattle.farm_entry.specs.Closing.{begins_at, is_beginning}
use Rattle.farm_entry.specs.Decision.{last_moment}
use Rattle.farm_entry.specs.History.{carried_in, order_in, order_lines, ordered_in}
use Rattle.farm_entry.specs.Legal.{IsFounding, IsLegal}
use Rattle.farm_entry.specs.Orders.{carried, given, ordered, orders}
use Rattle.farm_entry.specs.declared.entry.Entry.{Entry}
use Rattle.farm_entry.specs.declared.entry.What.{What}
use Rattle.farm_entry.specs.declared.entry.What.TheVariants.{Founded, Opened, Leased, Reported, Skipped, Cancelled, Ordered, Carried, Closed}
use Rattle.farm_entry.proofs.Growing.{last_moment-push, order_lines-grow, orders-grow, parts-grow}
use Rattle.farm_laws.proofs.Begun.{last_moment-begun, order_lines-begun}
use Rattle.farm_laws.proofs.Induct.{each_legal}
use Rattle.farm_laws.proofs.Lists.{length-cons_option-le}
use Rattle.farm_laws.proofs.Stepped.{KindFacts}

pub carried-grow : (H : List Entry) (e : Entry) →
    carried (H ++ e ∷ []) ≡ carried H ++ cons_option (carried_in e.what) []
carried-grow H e = parts-grow carried_in H e

pub given-grow : (H : List Entry) (e : Entry) →
    given (H ++ e ∷ []) ≡ given H ++ map ordered (cons_option (order_in e.what) [])
given-grow H e =
    ap (map ordered) (order_lines-grow H e) ∙ map-append ordered (order_lines H) (cons_option (order_in e.what) [])

-- where a farm only begins none was given
pub given-begun : (H : List Entry) (m : Moment) → list_all (begins_at m) H ≡ true → given H ≡ []
given-begun H m begun = ap (map ordered) (order_lines-begun H m begun)

-- All orders are those that were carried over, and then those that the farm gave.

-- neither more carried over nor given
split-none : (os cs gs : List rules.Ordered) → os ≡ cs ++ gs → os ++ [] ≡ (cs ++ []) ++ (gs ++ [])
split-none os cs gs same = append-nil os ∙ same ∙ (λ i. sym (append-nil cs) i ++ sym (append-nil gs) i)

split-given : (os cs gs : List rules.Ordered) (x : rules.Ordered) → os ≡ cs ++ gs →
    os ++ x ∷ [] ≡ (cs ++ []) ++ (gs ++ x ∷ [])
split-given os cs gs x same =
    ap (λ (l : List rules.Ordered). l ++ x ∷ []) same
    ∙ append_assoc cs gs (x ∷ [])
    ∙ ap (λ (l : List rules.Ordered). l ++ (gs ++ x ∷ [])) (sym (append-nil cs))

split-carried : (os cs gs : List rules.Ordered) (x : rules.Ordered) → os ≡ cs ++ gs → gs ≡ [] →
    os ++ x ∷ [] ≡ (cs ++ x ∷ []) ++ (gs ++ [])
split-carried os cs gs x same none =
    ap (λ (l : List rules.Ordered). l ++ x ∷ []) (same ∙ ap (λ (l : List rules.Ordered). cs ++ l) none ∙ append-nil cs)
    ∙ sym (append-nil (cs ++ x ∷ []))
    ∙ ap (λ (l : List rules.Ordered). (cs ++ x ∷ []) ++ l) (sym (append-nil gs ∙ none))

split-next : (H : List Entry) (m : Moment) (w : What) → KindFacts H m w → orders H ≡ carried H ++ given H →
    orders H ++ cons_option (ordered_in w) []
    ≡ (carried H ++ cons_option (carried_in w) []) ++ (given H ++ map ordered (cons_option (order_in w) []))
split-next H m (Founded settings) facts same = absurd facts
split-next H m (Opened o) facts same = split-none (orders H) (carried H) (given H) same
split-next H m (Leased key worker run search stage position deadline) facts same =
    split-none (orders H) (carried H) (given H) same
split-next H m (Reported run verdict _) facts same = split-none (orders H) (carried H) (given H) same
split-next H m (Skipped run _) facts same = split-none (orders H) (carried H) (given H) same
split-next H m (Cancelled key search) facts same = split-none (orders H) (carried H) (given H) same
split-next H m (Ordered key agent order commit search day) facts same =
    split-given (orders H) (carried H) (given H) _ same
split-next H m (Carried commit day) facts same =
    split-carried (orders H) (carried H) (given H) _ same (given-begun H m facts.begun)
split-next H m Closed facts same = split-none (orders H) (carried H) (given H) same

split-founded : (w : What) → IsFounding w →
    cons_option (ordered_in w) [] ≡ cons_option (carried_in w) [] ++ map ordered (cons_option (order_in w) [])
split-founded (Founded settings) founding = refl
split-founded (Opened o) founding = absurd founding
split-founded (Leased key worker run search stage position deadline) founding = absurd founding
split-founded (Reported run verdict _) founding = absurd founding
split-founded (Skipped run _) founding = absurd founding
split-founded (Cancelled key search) founding = absurd founding
split-founded (Ordered key agent order commit search day) founding = absurd founding
split-founded (Carried commit day) founding = absurd founding
split-founded Closed founding = absurd founding

pub orders-split : (H : List Entry) → IsLegal H → orders H ≡ carried H ++ given H
orders-split =
    each_legal (λ (H : List Entry). orders H ≡ carried H ++ given H) (λ e founding. split-founded e.what founding)
    (λ H e legal same step.
    orders-grow H e
    ∙ split-next H e.at e.what step.facts same
    ∙ (λ i. sym (carried-grow H e) i ++ sym (given-grow H e) i))

-- A history is all beginning exactly where it has no entries but the founding and the orders that were carried over.

pub no_carried : (w : What) → IsFounding w → carried_in w ≡ None
no_carried (Founded settings) founding = refl
no_carried (Opened o) founding = absurd founding
no_carried (Leased key worker run search stage position deadline) founding = absurd founding
no_carried (Reported run verdict _) founding = absurd founding
no_carried (Skipped run _) founding = absurd founding
no_carried (Cancelled key search) founding = absurd founding
no_carried (Ordered key agent order commit search day) founding = absurd founding
no_carried (Carried commit day) founding = absurd founding
no_carried Closed founding = absurd founding

-- how many carried orders an entry is
abbrev one_in : What → ℕ
one_in w = length (cons_option (carried_in w) [])

length-carried : (H : List Entry) (e : Entry) → length (carried (H ++ e ∷ [])) ≡ length (carried H) + one_in e.what
length-carried H e = ap length (carried-grow H e) ∙ length-append (carried H) (cons_option (carried_in e.what) [])

length-founded : (w : What) → IsFounding w → one_in w ≡ 0
length-founded w founding = ap (λ (o : Option rules.Ordered). length (cons_option o [])) (no_carried w founding)

-- an entry past the founding that a farm begins with is a carried order
one-begun : (H : List Entry) (m : Moment) (w : What) → KindFacts H m w → is_beginning w ≡ true → one_in w ≡ 1
one-begun H m (Founded settings) facts begins = absurd facts
one-begun H m (Carried commit day) facts begins = refl
one-begun H m (Opened o) facts begins = absurd (true≢false (sym begins))
one-begun H m (Leased key worker run search stage position deadline) facts begins = absurd (true≢false (sym begins))
one-begun H m (Reported run verdict _) facts begins = absurd (true≢false (sym begins))
one-begun H m (Skipped run _) facts begins = absurd (true≢false (sym begins))
one-begun H m (Cancelled key search) facts begins = absurd (true≢false (sym begins))
one-begun H m (Ordered key agent order commit search day) facts begins = absurd (true≢false (sym begins))
one-begun H m Closed facts begins = absurd (true≢false (sym begins))

-- what is no carried order is none at all; before a carried order a farm only begins
record IsOne (H : List Entry) (m : Moment) (w : What) : Type 0 where
  begun : list_all (begins_at m) H ≡ true
  begins : is_beginning w ≡ true

one-or_none : (H : List Entry) (m : Moment) (w : What) → KindFacts H m w → one_in w ≢ 0 → IsOne H m w
one-or_none H m (Carried commit day) facts some = record { begun = facts.begun; begins = refl }
one-or_none H m (Founded settings) facts some = absurd (some refl)
one-or_none H m (Opened o) facts some = absurd (some refl)
one-or_none H m (Leased key worker run search stage position deadline) facts some = absurd (some refl)
one-or_none H m (Reported run verdict _) facts some = absurd (some refl)
one-or_none H m (Skipped run _) facts some = absurd (some refl)
one-or_none H m (Cancelled key search) facts some = absurd (some refl)
one-or_none H m (Ordered key agent order commit search day) facts some = absurd (some refl)
one-or_none H m Closed facts some = absurd (some refl)

-- an entry more, at a moment
begins-push : (H : List Entry) (e : Entry) (m : Moment) →
    list_all (begins_at m) (H ++ e ∷ []) ≡ (list_all (begins_at m) H && begins_at m e)
begins-push H e m =
    list_all-append (begins_at m) H (e ∷ [])
    ∙ ap (λ (b : Bool). list_all (begins_at m) H && b) (and-true (begins_at m e))

pub length-begun : (H : List Entry) (m : Moment) → IsLegal H → list_all (begins_at m) H ≡ true →
    length H ≡ 1 + length (carried H)
length-begun H m legal =
    each_legal (λ (G : List Entry). list_all (begins_at m) G ≡ true → length G ≡ 1 + length (carried G))
    (λ e founding begun. let none : one_in e.what ≡ 0 = length-founded e.what founding in omega arith)
    (λ G e legal' all step begun.
    let parts = and_parts (list_all (begins_at m) G) (begins_at m e) (sym (begins-push G e m) ∙ begun) in
    let one : one_in e.what ≡ 1 =
    one-begun G e.at e.what step.facts (and_parts (is_beginning e.what) _ parts.1).0 in
    let before : length G ≡ 1 + length (carried G) = all parts.0 in
    omega (arith, length-append G (e ∷ []), length-carried G e))
    H legal

-- the founding is no carried order
pub length-carried-lt : (H : List Entry) → IsLegal H → length (carried H) < length H
length-carried-lt =
    each_legal (λ (G : List Entry). length (carried G) < length G)
    (λ e founding. let none : one_in e.what ≡ 0 = length-founded e.what founding in omega arith)
    (λ G e legal fewer step.
    let one : one_in e.what ≤ 1 = length-cons_option-le (carried_in e.what) in
    omega (arith, length-append G (e ∷ []), length-carried G e))

-- what begins at a moment begins at each with the same number
begins-same : (m n : Moment) (H : List Entry) → moment_ms m ≡ moment_ms n → list_all (begins_at m) H ≡ true →
    list_all (begins_at n) H ≡ true
begins-same m n H same begun =
    subst (λ (ms : ℕ). list_all (λ (e : Entry). is_beginning e.what && moment_ms e.at == ms) H ≡ true) same begun

founded-begins : (w : What) → IsFounding w → is_beginning w ≡ true
founded-begins (Founded settings) founding = refl
founded-begins (Opened o) founding = absurd founding
founded-begins (Leased key worker run search stage position deadline) founding = absurd founding
founded-begins (Reported run verdict _) founding = absurd founding
founded-begins (Skipped run _) founding = absurd founding
founded-begins (Cancelled key search) founding = absurd founding
founded-begins (Ordered key agent order commit search day) founding = absurd founding
founded-begins (Carried commit day) founding = absurd founding
founded-begins Closed founding = absurd founding

begun-founded : (e : Entry) (m : Moment) → is_beginning e.what ≡ true → moment_ms e.at ≡ moment_ms m →
    list_all (begins_at m) (e ∷ []) ≡ true
begun-founded e m begins at = and_from _ _ (and_from _ _ begins (eq-eqb _ _ at)) refl

pub begun-from_length : (H : List Entry) (m : Moment) → IsLegal H → length H ≡ 1 + length (carried H) →
    moment_ms (last_moment m H) ≡ moment_ms m → list_all (begins_at m) H ≡ true
begun-from_length H m legal =
    each_legal
    (λ (G : List Entry). length G ≡ 1 + length (carried G) → moment_ms (last_moment m G) ≡ moment_ms m →
    list_all (begins_at m) G ≡ true)
    (λ e founding long last. begun-founded e m (founded-begins e.what founding) last)
    (λ G e legal' all step long last.
    let fewer : length (carried G) < length G = length-carried-lt G legal' in
    let some : one_in e.what ≢ 0 =
    λ none. omega (arith, none, long, fewer, length-append G (e ∷ []), length-carried G e) in
    let is = one-or_none G e.at e.what step.facts some in
    let at : moment_ms e.at ≡ moment_ms m = ap (λ (x : Moment). moment_ms x) (sym (last_moment-push m G e)) ∙ last in
    begins-push G e m
    ∙ and_from _ _ (begins-same e.at m G at is.begun) (and_from _ _ is.begins (eq-eqb _ _ at)))
    H legal

-- tests that hold together are the same
same-tests : (a b : Bool) → (a ≡ true → b ≡ true) → (b ≡ true → a ≡ true) → a ≡ b
same-tests true b to from = sym (to refl)
same-tests false true to from = from refl
same-tests false false to from = refl

-- so its length and its last moment tell
pub begun-by_length : (H : List Entry) (m : Moment) → IsLegal H →
    list_all (begins_at m) H ≡ (length H == 1 + length (carried H) && moment_ms (last_moment m H) == moment_ms m)
begun-by_length H m legal = same-tests _ _
    (λ begun.
    and_from _ _ (eq-eqb _ _ (length-begun H m legal begun)) (eq-eqb _ _ (last_moment-begun m m H refl begun)))
    (λ both.
    let parts = and_parts (length H == 1 + length (carried H)) _ both in
    begun-from_length H m legal (eqb-true _ _ parts.0) (eqb-true _ _ parts.1))

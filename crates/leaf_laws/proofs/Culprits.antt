-- Each order is for the culprit of a confirmed search, and no two orders are of the same search.
use Rattle.std.proofs.Common.{◌≡◌, ◌≢◌, ℕ, ◌≤◌, ◌<◌, List, [], ◌∷◌, ◌++◌, length, map, All, AllPairs, Contains, Some, Ok, refl, sym, ap, ◌∙◌, arith}
use Rattle.std.proofs.lemmas.Bool.{eqb-true}
use Rattle.std.proofs.lemmas.Bool.Decides.{Decides-eqb}
use Rattle.std.proofs.lemmas.Cmp.{nat_eq_equiv}
use Rattle.std.proofs.lemmas.List.{get_or-map, length-map}
use Rattle.std.proofs.lemmas.List.Elements.{All-contains, All-map}
use Rattle.std.proofs.lemmas.Map.Made.{IsDistinct-from_AllPairs, length-le_from_is_member}
use Rattle.std.proofs.lemmas.Map.Views.{Contains-from_any, list_any-from_Contains}
use Rattle.std.proofs.lemmas.Option.{none-some}
use Rattle.farm_rules.specs.declared.orders.Candidate.{Candidate}
use Rattle.farm_rules.specs.declared.orders.Draft.{Draft}
use Rattle.farm_types.specs.Moment.{moment_ms}
use Rattle.farm_types.specs.declared.commit_id.CommitId.{CommitId}
use Rattle.farm_rules.proofs.Drafts.{next_draft-ok}
use Rattle.farm_entry.specs.History.{daily_limit, opening_numbered, openings, order_in, order_lines}
use Rattle.farm_entry.specs.Legal.{IsLegal}
use Rattle.farm_entry.specs.Orders.{confirmed_at, confirmed_searches, day_in, next_order_at, orders}
use Rattle.farm_entry.specs.Setup.{commit_of}
use Rattle.farm_entry.specs.Standing.{is_active, standing}
use Rattle.farm_entry.specs.declared.entry.Entry.{Entry}
use Rattle.farm_entry.specs.declared.opening.Opening.{Opening}
use Rattle.farm_entry.specs.declared.order_page.OrderLine.{OrderLine}
use Rattle.farm_entry.specs.declared.standing.Standing.{Standing}
use Rattle.farm_entry.specs.declared.standing.Standing.TheVariants.{Searching, Verifying, Confirmed, Vindicated, NoCulprit, Inconclusive, Cancelled}
use Rattle.farm_laws.proofs.Ends.{end-kept}
use Rattle.farm_laws.proofs.EntryParts.{each_part, ordered-facts}
use Rattle.farm_laws.proofs.Filters.{All-imp}
use Rattle.farm_laws.proofs.Known.{MadeFrom, made-from}
use Rattle.farm_laws.proofs.Numbered.{no_order, opening-found}
use Rattle.farm_laws.proofs.OrdersOnce.{commits-once}
use Rattle.farm_laws.proofs.Pairs.{AllPairs-nil}
use Rattle.farm_laws.proofs.Stepped.{Stepped}

-- What gets the next order.

-- a search that is confirmed, as the rule for orders sees it
record IsConfirmed (s : Standing) (o : Opening) (c : Candidate) : Type 0 where
  pub culprit : ℕ
  pub stands : s ≡ Confirmed culprit
  pub number : o.search ≡ c.search
  pub commit : c.commit ≡ commit_of o culprit

confirmed-is : (s : Standing) (o : Opening) (c : Candidate) → confirmed_at s o ≡ Some c → IsConfirmed s o c
confirmed-is (Confirmed culprit) o c h =
    let same : record { search = o.search; commit = commit_of o culprit } ≡ c = cc in
    record {
      culprit = culprit;
      stands = refl;
      number = ap (λ (x : Candidate). x.search) same;
      commit = ap (λ (x : Candidate). x.commit) (sym same);
    }
confirmed-is Searching o c h = absurd (none-some c h)
confirmed-is (Verifying i) o c h = absurd (none-some c h)
confirmed-is (Vindicated i) o c h = absurd (none-some c h)
confirmed-is NoCulprit o c h = absurd (none-some c h)
confirmed-is Inconclusive o c h = absurd (none-some c h)
confirmed-is Cancelled o c h = absurd (none-some c h)

-- the search that gets an order comes from an opened one that is confirmed
best-from : (H : List Entry) (m : ℕ) (d : Draft) → next_order_at H m ≡ Ok d →
    MadeFrom (λ (o : Opening). confirmed_at (standing H o) o) (openings H) (record { search = d.search; commit = d.commit })
best-from H m d h =
    made-from (λ (o : Opening). confirmed_at (standing H o) o) (openings H) (record { search = d.search; commit = d.commit })
    (next_draft-ok (confirmed_searches H) (orders H) (length (order_lines H)) (day_in H m) (daily_limit H) d h).confirmed

-- What an order is for.

-- a search is opened under a number, its culprit is confirmed, and a commit is that culprit's
pub record IsForCulprit (H : List Entry) (search : ℕ) (commit : CommitId) : Type 0 where
  pub opening : Opening
  pub culprit : ℕ
  pub there : Contains (openings H) opening
  pub number : opening.search ≡ search
  pub stands : standing H opening ≡ Confirmed culprit
  pub is : commit ≡ commit_of opening culprit

-- it is so for the next order
next-is_for : (H : List Entry) (m : ℕ) (d : Draft) → next_order_at H m ≡ Ok d → IsForCulprit H d.search d.commit
next-is_for H m d h =
    let c : Candidate = record { search = d.search; commit = d.commit } in
    let from = best-from H m d h in
    let found = confirmed-is (standing H from.from) from.from c from.makes in
    record {
      opening = from.from;
      culprit = found.culprit;
      there = from.there;
      number = found.number;
      stands = found.stands;
      is = found.commit;
    }

-- and it stays with an entry appended
for-stays : (H : List Entry) (e : Entry) (search : ℕ) (commit : CommitId) → IsLegal H → Stepped H e.at e.what →
    IsForCulprit H search commit → IsForCulprit (H ++ e ∷ []) search commit
for-stays H e search commit legal s was =
    let kept = end-kept H H e was.opening (ap is_active was.stands) legal (record { opened = was.there; stands = refl; reruns_are = refl }) s in
    record {
      opening = was.opening;
      culprit = was.culprit;
      there = kept.opened;
      number = was.number;
      stands = kept.stands ∙ was.stands;
      is = was.is;
    }

pub orders-for_culprits : (H : List Entry) → IsLegal H → All (λ (x : OrderLine). IsForCulprit H x.search x.commit) (order_lines H)
orders-for_culprits =
    each_part order_in (λ (H : List Entry) (x : OrderLine). IsForCulprit H x.search x.commit) no_order
    (λ H e x legal s was. for-stays H e x.search x.commit legal s was)
    (λ H e x legal s is.
    for-stays H e x.search x.commit legal s
    (next-is_for H (moment_ms e.at) _ (ordered-facts H e.at e.what x is s).next))

-- the same in words of what a number finds
pub order-for_culprit : (H : List Entry) (x : OrderLine) → IsLegal H → Contains (order_lines H) x →
    (o : Opening) × (culprit : ℕ) × (opening_numbered H x.search ≡ Some o) × (standing H o ≡ Confirmed culprit)
    × (x.commit ≡ commit_of o culprit)
order-for_culprit H x legal there =
    let for = All-contains (λ (y : OrderLine). IsForCulprit H y.search y.commit) (order_lines H) x (orders-for_culprits H legal) there in
    let found : opening_numbered H x.search ≡ Some for.opening =
    ap (opening_numbered H) (sym for.number) ∙ opening-found H for.opening legal for.there in
    (for.opening, for.culprit, found, for.stands, for.is)

-- No two orders are of the same search.

-- a search has one culprit, so one commit
one-commit : (H : List Entry) (a b : ℕ) (p q : CommitId) → IsLegal H → IsForCulprit H a p → IsForCulprit H b q → a ≡ b → p ≡ q
one-commit H a b p q legal first second same =
    let found : opening_numbered H a ≡ Some first.opening =
    ap (opening_numbered H) (sym first.number) ∙ opening-found H first.opening legal first.there in
    let found_too : opening_numbered H b ≡ Some second.opening =
    ap (opening_numbered H) (sym second.number) ∙ opening-found H second.opening legal second.there in
    let searches : opening_numbered H a ≡ opening_numbered H b = ap (opening_numbered H) same in
    let openings_are : first.opening ≡ second.opening = cc (found, found_too, searches) in
    let standings : standing H first.opening ≡ standing H second.opening = ap (standing H) openings_are in
    let culprits : first.culprit ≡ second.culprit = cc (first.stands, second.stands, standings) in
    first.is ∙ (λ i. commit_of (openings_are i) (culprits i)) ∙ sym second.is

pub searches-differ : (H : List Entry) → IsLegal H → AllPairs (λ (a b : OrderLine). a.search ≢ b.search) (order_lines H)
searches-differ H legal =
    λ i j d before below same.
    let all = orders-for_culprits H legal in
    let first : i < length (order_lines H) = omega arith in
    commits-once H legal i j d before below (one-commit H _ _ _ _ legal (all i d first) (all j d below) same)

-- what differs in a part makes the parts differ
pub AllPairs-parts : {X : Type 0} (f : X → ℕ) (xs : List X) → AllPairs (λ (a b : X). f a ≢ f b) xs → AllPairs (λ (a b : ℕ). a ≢ b) (map f xs)
AllPairs-parts f [] pairs = AllPairs-nil (λ (a b : ℕ). a ≢ b)
AllPairs-parts f (x ∷ xs) pairs =
    λ i j d before below same.
    let short : j < length (x ∷ xs) = omega (arith, length-map (x ∷ xs) f) in
    let first : i < length (x ∷ xs) = omega arith in
    pairs i j x before short
    (sym (get_or-map f (x ∷ xs) i x d first) ∙ same ∙ get_or-map f (x ∷ xs) j x d short)

-- a part of a member is a member of the parts, and comes from one
pub part-there : {X : Type 0} (f : X → ℕ) (xs : List X) (x : X) (n : ℕ) → Contains xs x → f x ≡ n → Contains (map f xs) n
part-there f xs x n h e = (h.0, omega (arith, h.1, length-map xs f), get_or-map f xs h.0 x n h.1 ∙ ap f h.2 ∙ e)

-- the search of each order is opened
order-opened : (H : List Entry) → IsLegal H → All (λ (x : OrderLine). Contains (map (λ (o : Opening). o.search) (openings H)) x.search) (order_lines H)
order-opened H legal =
    All-imp (λ (x : OrderLine). IsForCulprit H x.search x.commit)
    (λ (x : OrderLine). Contains (map (λ (o : Opening). o.search) (openings H)) x.search) (order_lines H)
    (λ x for. part-there (λ (o : Opening). o.search) (openings H) for.opening x.search for.there for.number)
    (orders-for_culprits H legal)

pub few-orders : (H : List Entry) → IsLegal H → length (order_lines H) ≤ length (openings H)
few-orders H legal =
    let of_orders : List ℕ = map (λ (x : OrderLine). x.search) (order_lines H) in
    let of_openings : List ℕ = map (λ (o : Opening). o.search) (openings H) in
    let differ : AllPairs (λ (a b : ℕ). a ≢ b) of_orders = AllPairs-parts (λ (x : OrderLine). x.search) (order_lines H) (searches-differ H legal) in
    let each : All (Contains of_openings) of_orders = All-map (Contains of_openings) (λ (x : OrderLine). x.search) (order_lines H) (order-opened H legal) in
    let few : length of_orders ≤ length of_openings =
    length-le_from_is_member nat_eq_equiv of_orders of_openings (IsDistinct-from_AllPairs Decides-eqb of_orders differ)
    (λ q is. list_any-from_Contains nat_eq_equiv q of_openings
    (All-contains (Contains of_openings) of_orders q each (Contains-from_any (λ x y e. eqb-true x y e) q of_orders is))) in
    omega (arith, few, length-map (order_lines H) (λ (x : OrderLine). x.search), length-map (openings H) (λ (o : Opening). o.search))

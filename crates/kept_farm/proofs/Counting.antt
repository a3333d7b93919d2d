-- What is counted with an entry appended, by where its search stood and stands.
use Rattle.std.proofs.Common.{◌≡◌, ℕ, ◌+◌, ◌-◌, ◌≤◌, Bool, inr, is_some, List, [], ◌∷◌, ◌++◌, length, slice_get, count_by, Contains, Option, Some, None, refl, sym, ap, subst, ◌∙◌, arith, length-append}
use Rattle.std.specs.List.{cons_option}
use Rattle.std.specs.Option.{option_and_then, option_map, unwrap_or}
use Rattle.std.proofs.lemmas.List.Elements.{Contains-push}
use Rattle.std.proofs.lemmas.List.Sums.{count_by-le-length}
use Rattle.farm_entry.specs.History.{is_counted, lease_of, opening_in, opening_numbered, openings, order_in, report_in, reports}
use Rattle.farm_entry.specs.Legal.{IsLegal, ask_of}
use Rattle.farm_entry.specs.Pages.{is_ended_otherwise, searches_that, totals}
use Rattle.farm_entry.specs.Standing.{is_confirmed, is_searching, is_verifying, standing}
use Rattle.farm_entry.specs.declared.entry.Entry.{Entry}
use Rattle.farm_entry.specs.declared.entry.What.{What}
use Rattle.farm_entry.specs.declared.entry.What.TheVariants.{Founded, Opened, Leased, Reported, Skipped, Cancelled, Ordered, Carried, Closed}
use Rattle.farm_entry.specs.declared.lease.LeasedRun.{LeasedRun}
use Rattle.farm_entry.specs.declared.lease.ReportedRun.{ReportedRun}
use Rattle.farm_entry.specs.declared.limits.TheConstants.{MAX_ENTRIES, MAX_SEARCHES}
use Rattle.farm_entry.specs.declared.opening.Opening.{Opening}
use Rattle.farm_entry.specs.declared.reply.Totals.{Totals}
use Rattle.farm_entry.specs.declared.standing.Standing.{Standing}
use Rattle.farm_entry.specs.declared.standing.Standing.TheVariants.{Searching}
use Rattle.farm_entry.proofs.Growing.{openings-grow}
use Rattle.farm_laws.proofs.Bounds.{entries-unclosed, openings-bounded, parts-bounded}
use Rattle.farm_laws.proofs.Counts.{count_by-cons}
use Rattle.farm_laws.proofs.EntryParts.{opened-facts}
use Rattle.farm_laws.proofs.Filters.{lease_of-stays, opening_numbered-stays}
use Rattle.farm_laws.proofs.Induct.{IsLegal-pushed}
use Rattle.farm_laws.proofs.Made.{is_made}
use Rattle.farm_laws.proofs.Numbered.{opening-found, opening-there}
use Rattle.farm_laws.proofs.Replies.{slice_get-last}
use Rattle.farm_laws.proofs.Stepped.{KindFacts, Stepped, map-none, stepped}
use Rattle.farm_laws.specs.Steps.{IsAbout}
use Rattle.farm_laws.proofs.Counting.{counted-step, entries-step, none-changes, one-changes, orders-step, searches-step}
use Rattle.search_state.specs.Seen.{seen}
use Rattle.farm_state.proofs.Searches.{search-none, search-of_lease}
use Rattle.kept_farm.specs.Changes.{AreFew, CanMove, HasMoved, IsMoved, MayMove, counts_in, last_standing, one_if, one_that, search_in, standing_in, standing_of, with_entry}
use Rattle.kept_farm.specs.Rows.{AreSmall, row_of, row_with, totals_in}
use Rattle.kept_farm.specs.declared.row.Row.{Row}

-- Numbers.

plus-none : (n : ℕ) → n + 0 ≡ n
plus-none n = omega arith

part-le : (n a c b : ℕ) → n + a ≡ c + b → a ≤ c + b
part-le n a c b h = omega (arith, h)

same-left : (n m a c : ℕ) → n + a ≡ c → m + a ≡ c → n ≡ m
same-left n m a c h k = omega (arith, h, k)

-- Lists.

length-optional : {Y : Type 0} (o : Option Y) → length (cons_option o []) ≡ one_if (is_some o)
length-optional None = refl
length-optional (Some y) = refl

-- Where the search of an entry stands.

-- no search has the number of one that is opened
opened-new : (H : List Entry) (e : Entry) (o : Opening) → IsLegal H → Stepped H e.at e.what →
    opening_in e.what ≡ Some o → opening_numbered H o.search ≡ None
opened-new H e o legal step is =
    let number : length (openings H) + 1 ≡ o.search =
    (is_made (ask_of o) _ o (opened-facts H e.at e.what o is step).made).number in
    map-none (seen H) (opening_numbered H o.search) (search-none H o.search legal (inr (omega (arith, number))))

-- one that is opened is found by its number from then on
pub opened-found : (H : List Entry) (e : Entry) (o : Opening) → IsLegal (H ++ e ∷ []) → opening_in e.what ≡ Some o →
    opening_numbered (H ++ e ∷ []) o.search ≡ Some o
opened-found H e o longer is =
    opening-found (H ++ e ∷ []) o longer
    (subst (λ (os : List Opening). Contains os o)
    (sym (openings-grow H e ∙ ap (λ (x : Option Opening). openings H ++ cons_option x []) is))
    (Contains-push (openings H) o))

-- where it stands by what is found
pub standing-found : (H : List Entry) (n : ℕ) (found : Option Opening) → opening_numbered H n ≡ found →
    standing_of H (Some n) ≡ option_map (standing H) found
standing-found H n found is = ap (option_map (standing H)) is

-- the search of an entry is the same with it and before it
pub search-stays : (H : List Entry) (e : Entry) (what : What) → KindFacts H e.at what →
    search_in (H ++ e ∷ []) what ≡ search_in H what
search-stays H e (Reported run verdict _) facts =
    ap (option_map (λ (l : LeasedRun). l.search))
    (lease_of-stays H e run facts.lease facts.known ∙ sym facts.known)
search-stays H e (Skipped run _) facts =
    ap (option_map (λ (l : LeasedRun). l.search))
    (lease_of-stays H e run facts.lease facts.known ∙ sym facts.known)
search-stays H e (Founded settings) facts = refl
search-stays H e (Opened o) facts = refl
search-stays H e (Leased key worker run search stage position deadline) facts = refl
search-stays H e (Cancelled key search) facts = refl
search-stays H e (Ordered key agent order commit search day) facts = refl
search-stays H e (Carried commit day) facts = refl
search-stays H e Closed facts = refl

-- Searches that stand so.

-- where the entry is about no search, and opens one, if it does
quiet-moves : (H : List Entry) (e : Entry) (test : Standing → Bool) → IsLegal H → Stepped H e.at e.what →
    ((s : ℕ) → IsAbout H e.what s → ⊥) → (x : Option Opening) → opening_in e.what ≡ x →
    searches_that test (H ++ e ∷ []) ≡ searches_that test H + one_that test (option_map (standing (H ++ e ∷ [])) x)
quiet-moves H e test legal step none None is =
    none-changes H e test legal step (λ o there. none o.search)
    ∙ ap (λ (y : Option Opening). searches_that test H
    + count_by (λ (o : Opening). test (standing (H ++ e ∷ []) o)) (cons_option y [])) is
quiet-moves H e test legal step none (Some o) is =
    let t : Opening → Bool = λ x. test (standing (H ++ e ∷ []) x) in
    none-changes H e test legal step (λ x there. none x.search)
    ∙ ap (λ (y : Option Opening). searches_that test H + count_by t (cons_option y [])) is
    ∙ ap (λ (n : ℕ). searches_that test H + n) (count_by-cons t o [] ∙ plus-none (one_if (t o)))

-- where it is about one that was opened before
one-moves : (H : List Entry) (e : Entry) (test : Standing → Bool) (s : ℕ) (o : Opening) → IsLegal H →
    Stepped H e.at e.what → opening_numbered H s ≡ Some o → IsAbout H e.what s →
    IsMoved test (searches_that test H) (searches_that test (H ++ e ∷ [])) (standing_of H (Some s))
    (standing_of (H ++ e ∷ []) (Some s))
one-moves H e test s o legal step found about =
    let there = opening-there H s o found in
    let moves = one-changes H e o test legal step there.0 (subst (IsAbout H e.what) (sym there.1) about) in
    let before : one_that test (standing_of H (Some s)) ≡ one_if (test (standing H o)) =
    ap (one_that test) (standing-found H s (Some o) found) in
    let after : one_that test (standing_of (H ++ e ∷ []) (Some s)) ≡ one_if (test (standing (H ++ e ∷ []) o)) =
    ap (one_that test) (standing-found (H ++ e ∷ []) s (Some o) (opening_numbered-stays H e s o found)) in
    ap (λ (n : ℕ). searches_that test (H ++ e ∷ []) + n) before
    ∙ moves
    ∙ ap (λ (n : ℕ). searches_that test H + n) (sym after)

-- where it tells of a run that was handed out before
told-moves : (H : List Entry) (e : Entry) (test : Standing → Bool) (run : ℕ) (l : LeasedRun) → IsLegal H →
    Stepped H e.at e.what → lease_of H run ≡ Some l → IsAbout H e.what l.search →
    IsMoved test (searches_that test H) (searches_that test (H ++ e ∷ []))
    (standing_of H (option_map (λ (x : LeasedRun). x.search) (lease_of H run)))
    (standing_of (H ++ e ∷ []) (option_map (λ (x : LeasedRun). x.search) (lease_of H run)))
told-moves H e test run l legal step known about =
    let s = search-of_lease H run l legal known in
    let found : opening_numbered H l.search ≡ Some s.opening =
    ap (opening_numbered H) s.same ∙ opening-found H s.opening legal s.there in
    subst (λ (n : Option ℕ). IsMoved test (searches_that test H) (searches_that test (H ++ e ∷ [])) (standing_of H n)
    (standing_of (H ++ e ∷ []) n)) (sym (ap (option_map (λ (x : LeasedRun). x.search)) known))
    (one-moves H e test l.search s.opening legal step found about)

-- each kind of entry
moves-as : (H : List Entry) (e : Entry) (test : Standing → Bool) (what : What) → IsLegal H → IsLegal (H ++ e ∷ []) →
    Stepped H e.at e.what → KindFacts H e.at what → e.what ≡ what →
    IsMoved test (searches_that test H) (searches_that test (H ++ e ∷ [])) (standing_in H what)
    (standing_of (H ++ e ∷ []) (search_in H what))
moves-as H e test (Founded settings) legal longer step facts is = absurd facts
moves-as H e test (Opened o) legal longer step facts is =
    let opens : opening_in e.what ≡ Some o = ap opening_in is in
    let moves = quiet-moves H e test legal step
    (λ s about. subst (λ (w : What). IsAbout H w s) is about) (Some o) opens in
    let before : one_that test (standing_of H (Some o.search)) ≡ 0 =
    ap (one_that test) (standing-found H o.search None (opened-new H e o legal step opens)) in
    let after : one_that test (standing_of (H ++ e ∷ []) (Some o.search)) ≡ one_if (test (standing (H ++ e ∷ []) o)) =
    ap (one_that test) (standing-found (H ++ e ∷ []) o.search (Some o) (opened-found H e o longer opens)) in
    ap (λ (n : ℕ). searches_that test (H ++ e ∷ []) + n) before
    ∙ plus-none (searches_that test (H ++ e ∷ []))
    ∙ moves
    ∙ ap (λ (n : ℕ). searches_that test H + n) (sym after)
moves-as H e test (Leased key worker run search stage position deadline) legal longer step facts is =
    plus-none (searches_that test (H ++ e ∷ []))
    ∙ quiet-moves H e test legal step (λ s about. subst (λ (w : What). IsAbout H w s) is about) None (ap opening_in is)
moves-as H e test (Reported run verdict _) legal longer step facts is =
    let l = facts.lease in
    told-moves H e test run l legal step facts.known
    (subst (λ (w : What). IsAbout H w l.search) (sym is) (l, facts.known, refl))
moves-as H e test (Skipped run _) legal longer step facts is =
    let l = facts.lease in
    told-moves H e test run l legal step facts.known
    (subst (λ (w : What). IsAbout H w l.search) (sym is) (l, facts.known, refl))
moves-as H e test (Cancelled key search) legal longer step facts is =
    let about : IsAbout H e.what search = subst (λ (w : What). IsAbout H w search) (sym is) refl in
    one-moves H e test search facts.opening legal step facts.known about
moves-as H e test (Ordered key agent order commit search day) legal longer step facts is =
    plus-none (searches_that test (H ++ e ∷ []))
    ∙ quiet-moves H e test legal step (λ s about. subst (λ (w : What). IsAbout H w s) is about) None (ap opening_in is)
moves-as H e test (Carried commit day) legal longer step facts is =
    plus-none (searches_that test (H ++ e ∷ []))
    ∙ quiet-moves H e test legal step (λ s about. subst (λ (w : What). IsAbout H w s) is about) None (ap opening_in is)
moves-as H e test Closed legal longer step facts is =
    plus-none (searches_that test (H ++ e ∷ []))
    ∙ quiet-moves H e test legal step (λ s about. subst (λ (w : What). IsAbout H w s) is about) None (ap opening_in is)

pub moves : (H : List Entry) (e : Entry) (test : Standing → Bool) → IsLegal H → IsLegal (H ++ e ∷ []) →
    IsMoved test (searches_that test H) (searches_that test (H ++ e ∷ [])) (standing_in H e.what)
    (standing_of (H ++ e ∷ []) (search_in H e.what))
moves H e test legal longer =
    let step = stepped H e (IsLegal-pushed H e legal longer) in
    moves-as H e test e.what legal longer step step.facts refl

-- The totals.

-- no part of the entries is longer than the entries that no closing is among
few-counted : (H : List Entry) → IsLegal H → (totals H).counted ≤ MAX_ENTRIES
few-counted H legal =
    let reported : length (reports H) ≤ MAX_ENTRIES = parts-bounded report_in H refl legal in
    let counted : count_by (λ (r : ReportedRun). is_counted r.fate) (reports H) ≤ length (reports H) =
    count_by-le-length (λ (r : ReportedRun). is_counted r.fate) (reports H) in
    omega (arith, reported, counted)

-- there is room for one more of each, where one more entry may come
pub few : (H : List Entry) (e : Entry) → IsLegal H → IsLegal (H ++ e ∷ []) → AreFew (totals H)
few H e legal longer = record {
  entries = entries-unclosed H legal (stepped H e (IsLegal-pushed H e legal longer)).unclosed;
  searches = parts-bounded opening_in H refl legal;
  counted = few-counted H legal;
  orders = parts-bounded order_in H refl legal;
}

-- and no more than a farm may have
pub small : (H : List Entry) → IsLegal H → AreSmall (totals H)
small H legal =
    let all : length (openings H) ≤ MAX_SEARCHES = openings-bounded H legal in
    let stand : (test : Standing → Bool) → searches_that test H ≤ MAX_SEARCHES =
    λ test. (let some : searches_that test H ≤ length (openings H) =
    count_by-le-length (λ (o : Opening). test (standing H o)) (openings H) in omega (arith, some, all)) in
    record {
      searches = all;
      searching = stand is_searching;
      verifying = stand is_verifying;
      confirmed = stand is_confirmed;
      ended = stand is_ended_otherwise;
      counted = few-counted H legal;
      orders = parts-bounded order_in H refl legal;
    }

may-move : (H : List Entry) (e : Entry) (test : Standing → Bool) → IsLegal H → IsLegal (H ++ e ∷ []) →
    MayMove test (searches_that test H) (standing_in H e.what) (standing_of (H ++ e ∷ []) (search_in H e.what))
may-move H e test legal longer =
    let searches : length (openings H) ≤ MAX_ENTRIES = parts-bounded opening_in H refl legal in
    let so : searches_that test H ≤ length (openings H) =
    count_by-le-length (λ (o : Opening). test (standing H o)) (openings H) in
    record {
      few = omega (arith, searches, so);
      counted = part-le (searches_that test (H ++ e ∷ [])) _ (searches_that test H) _ (moves H e test legal longer);
    }

pub can-move : (H : List Entry) (e : Entry) → IsLegal H → IsLegal (H ++ e ∷ []) →
    CanMove (with_entry (totals H) e.what) (standing_in H e.what) (standing_of (H ++ e ∷ []) (search_in H e.what))
can-move H e legal longer = record {
  searching = may-move H e is_searching legal longer;
  verifying = may-move H e is_verifying legal longer;
  confirmed = may-move H e is_confirmed legal longer;
  ended = may-move H e is_ended_otherwise legal longer;
}

-- what an entry is counted as
counts-one : (what : What) →
    count_by (λ (r : ReportedRun). is_counted r.fate) (cons_option (report_in what) []) ≡ one_if (counts_in what)
counts-one (Reported run verdict fate) =
    count_by-cons (λ (r : ReportedRun). is_counted r.fate) (record { run = run; verdict = verdict; fate = fate }) []
    ∙ plus-none (one_if (is_counted fate))
counts-one (Skipped run _) = refl
counts-one (Founded settings) = refl
counts-one (Opened o) = refl
counts-one (Leased key worker run search stage position deadline) = refl
counts-one (Cancelled key search) = refl
counts-one (Ordered key agent order commit search day) = refl
counts-one (Carried commit day) = refl
counts-one Closed = refl

pub totals-moved : (H : List Entry) (e : Entry) (t : Totals) → IsLegal H → IsLegal (H ++ e ∷ []) →
    HasMoved (with_entry (totals H) e.what) t (standing_in H e.what) (standing_of (H ++ e ∷ []) (search_in H e.what)) →
    t ≡ totals (H ++ e ∷ [])
totals-moved H e t legal longer moved =
    let T = totals (H ++ e ∷ []) in
    let entries : t.entries ≡ T.entries = moved.entries ∙ sym (entries-step H e) in
    let searches : t.searches ≡ T.searches =
    moved.searches ∙ ap (λ (n : ℕ). (totals H).searches + n) (sym (length-optional (opening_in e.what)))
    ∙ sym (searches-step H e) in
    let orders : t.orders ≡ T.orders =
    moved.orders ∙ ap (λ (n : ℕ). (totals H).orders + n) (sym (length-optional (order_in e.what)))
    ∙ sym (orders-step H e) in
    let counted : t.counted ≡ T.counted =
    moved.counted ∙ ap (λ (n : ℕ). (totals H).counted + n) (sym (counts-one e.what)) ∙ sym (counted-step H e) in
    let searching : t.searching ≡ T.searching =
    same-left t.searching T.searching _ _ moved.searching (moves H e is_searching legal longer) in
    let verifying : t.verifying ≡ T.verifying =
    same-left t.verifying T.verifying _ _ moved.verifying (moves H e is_verifying legal longer) in
    let confirmed : t.confirmed ≡ T.confirmed =
    same-left t.confirmed T.confirmed _ _ moved.confirmed (moves H e is_confirmed legal longer) in
    let ended : t.ended ≡ T.ended =
    same-left t.ended T.ended _ _ moved.ended (moves H e is_ended_otherwise legal longer) in
    λ i. record {
      entries = entries i;
      searches = searches i;
      searching = searching i;
      verifying = verifying i;
      confirmed = confirmed i;
      ended = ended i;
      counted = counted i;
      orders = orders i;
    }

-- The standing that is kept.

-- that of the last entry
pub last_standing-push : (H : List Entry) (e : Entry) →
    last_standing (H ++ e ∷ []) ≡ unwrap_or (standing_in (H ++ e ∷ []) e.what) Searching
last_standing-push H e =
    let G : List Entry = H ++ e ∷ [] in
    let long : length G ≡ length H + 1 = length-append H (e ∷ []) in
    let back : length G - 1 ≡ length H = omega (arith, long) in
    let last : slice_get G (length G - 1) ≡ Some e = ap (slice_get G) back ∙ slice_get-last H e in
    ap (λ (x : Option Entry). unwrap_or (option_and_then (λ (y : Entry). standing_in G y.what) x) Searching) last

pub standing-kept : (H : List Entry) (e : Entry) (after : Option Standing) (s : Standing) → IsLegal H →
    IsLegal (H ++ e ∷ []) → after ≡ standing_of (H ++ e ∷ []) (search_in H e.what) →
    s ≡ unwrap_or after Searching → s ≡ last_standing (H ++ e ∷ [])
standing-kept H e after s legal longer is kept =
    let step = stepped H e (IsLegal-pushed H e legal longer) in
    let G : List Entry = H ++ e ∷ [] in
    kept
    ∙ ap (λ (x : Option Standing). unwrap_or x Searching)
    (is ∙ ap (standing_of G) (sym (search-stays H e e.what step.facts)))
    ∙ sym (last_standing-push H e)

-- An entry that is added.

-- what the code has read of it, before and after
pub record IsChange (H G : List Entry) (e : Entry) (t : Totals) (search : Option ℕ)
    (before after : Option Standing) : Type 0 where
  pub legal : IsLegal H
  pub longer : IsLegal (H ++ e ∷ [])
  pub pushed : G ≡ H ++ e ∷ []
  pub counted : t ≡ with_entry (totals H) e.what
  pub of_search : search ≡ search_in H e.what
  pub stood : before ≡ standing_of H search
  pub stands : after ≡ standing_of G search

stood-as : (H G : List Entry) (e : Entry) (t : Totals) (search : Option ℕ) (before after : Option Standing) →
    IsChange H G e t search before after → before ≡ standing_in H e.what
stood-as H G e t search before after c = c.stood ∙ ap (standing_of H) c.of_search

stands-as : (H G : List Entry) (e : Entry) (t : Totals) (search : Option ℕ) (before after : Option Standing) →
    IsChange H G e t search before after → after ≡ standing_of (H ++ e ∷ []) (search_in H e.what)
stands-as H G e t search before after c =
    c.stands ∙ ap (standing_of G) c.of_search ∙ ap (λ (X : List Entry). standing_of X (search_in H e.what)) c.pushed

pub change-moves : (H G : List Entry) (e : Entry) (t : Totals) (search : Option ℕ) (before after : Option Standing) →
    IsChange H G e t search before after → CanMove t before after
change-moves H G e t search before after c =
    subst (λ (u : Totals). CanMove u before after) (sym c.counted)
    (subst (λ (x : Option Standing). CanMove (with_entry (totals H) e.what) x after)
    (sym (stood-as H G e t search before after c))
    (subst (λ (x : Option Standing). CanMove (with_entry (totals H) e.what) (standing_in H e.what) x)
    (sym (stands-as H G e t search before after c)) (can-move H e c.legal c.longer)))

pub change-totals : (H G : List Entry) (e : Entry) (t u : Totals) (search : Option ℕ) (before after : Option Standing) →
    IsChange H G e t search before after → HasMoved t u before after → u ≡ totals (H ++ e ∷ [])
change-totals H G e t u search before after c moved =
    totals-moved H e u c.legal c.longer
    (subst (λ (x : Option Standing). HasMoved (with_entry (totals H) e.what) u (standing_in H e.what) x)
    (stands-as H G e t search before after c)
    (subst (λ (x : Option Standing). HasMoved (with_entry (totals H) e.what) u x after)
    (stood-as H G e t search before after c)
    (subst (λ (x : Totals). HasMoved x u before after) c.counted moved)))

-- there is a row for them
pub change-small : (H G : List Entry) (e : Entry) (t u : Totals) (search : Option ℕ) (before after : Option Standing) →
    IsChange H G e t search before after → HasMoved t u before after → AreSmall u
change-small H G e t u search before after c moved =
    subst AreSmall (sym (change-totals H G e t u search before after c moved)) (small (H ++ e ∷ []) c.longer)

pub change-standing : (H G : List Entry) (e : Entry) (t : Totals) (s : Standing) (search : Option ℕ)
    (before after : Option Standing) → IsChange H G e t search before after → s ≡ unwrap_or after Searching →
    s ≡ last_standing (H ++ e ∷ [])
change-standing H G e t s search before after c kept =
    standing-kept H e after s c.legal c.longer (stands-as H G e t search before after c) kept

-- the row that is kept of it
pub change-row : (H G : List Entry) (e : Entry) (t u : Totals) (s : Standing) (search : Option ℕ)
    (before after : Option Standing) → IsChange H G e t search before after → HasMoved t u before after →
    s ≡ unwrap_or after Searching → row_with u s ≡ row_of (H ++ e ∷ [])
change-row H G e t u s search before after c moved kept =
    ap (λ (x : Totals). row_with x s) (change-totals H G e t u search before after c moved)
    ∙ ap (row_with (totals (H ++ e ∷ []))) (change-standing H G e t s search before after c kept)

-- What is counted of a history by the row of its last entry.
pub row-totals : (H : List Entry) (r : Row) (n : ℕ) → r ≡ row_of H → n ≡ length H → totals_in n r ≡ totals H
row-totals H r n is count = ap (totals_in n) is ∙ ap (λ (k : ℕ). totals_in k (row_of H)) count

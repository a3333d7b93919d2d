-- What each kind of entry does to the order of turns, and that it can be undone.
use Rattle.std.proofs.Common.{◌≡◌, ℕ, ◌+◌, ◌-◌, ◌<◌, ◌⊎◌, Bool, true, false, if◌then◌else◌, List, [], ◌∷◌, ◌++◌, length, length-append, get_or, Contains, Option, Some, None, refl, sym, ap, subst, inl, inr, ◌∙◌, ⊎_elim, arith}
use Rattle.std.specs.List.{cons_option}
use Rattle.std.proofs.lemmas.Bool.{cases_Bool}
use Rattle.std.proofs.lemmas.List.Elements.{All-contains, Contains-append_right}
use Rattle.search_books.specs.Order.{has, strike}
use Rattle.search_books.proofs.Lists.{strike-absent, strike-gone}
use Rattle.farm_entry.specs.History.{all_leases, cancelled_in, lease_in, lease_of, opening_in, opening_numbered, openings, told_in}
use Rattle.farm_entry.specs.Legal.{IsLegal, ask_of}
use Rattle.farm_entry.specs.Standing.{is_active, standing}
use Rattle.farm_entry.specs.declared.entry.Entry.{Entry}
use Rattle.farm_entry.specs.declared.entry.What.{What}
use Rattle.farm_entry.specs.declared.entry.What.TheVariants.{Founded, Opened, Leased, Reported, Skipped, Cancelled, Ordered, Carried, Closed}
use Rattle.farm_entry.specs.declared.lease.LeasedRun.{LeasedRun}
use Rattle.farm_entry.specs.declared.opening.Opening.{Opening}
use Rattle.farm_entry.proofs.Growing.{openings-grow}
use Rattle.farm_laws.specs.Openings.{HasOpening}
use Rattle.farm_laws.proofs.Ends.{end-kept}
use Rattle.farm_laws.proofs.EntryParts.{cancelled-facts, opened-facts, told-facts}
use Rattle.farm_laws.proofs.Induct.{IsLegal-pushed}
use Rattle.farm_laws.proofs.Known.{leases-known}
use Rattle.farm_laws.proofs.Lists.{contains-head}
use Rattle.farm_laws.proofs.Made.{is_made}
use Rattle.farm_laws.proofs.Numbered.{lease-there, number-at, opening-found, opening-there, openings-numbered}
use Rattle.farm_laws.proofs.Opened.{opened-stays}
use Rattle.farm_laws.proofs.Stepped.{KindFacts, Stepped, stepped}
use Rattle.farm_laws.specs.Steps.{IsAbout}
use Rattle.farm_laws.proofs.Counting.{about-one, about-opens_none}
use Rattle.farm_state.specs.TurnOrder.{AreTurns, IsOfActive}
use Rattle.farm_state.proofs.NextTurns.{ended-turns, leased-there, leased-turns, opened-struck, opened-turns, opened_ended-turns, other-turns}
use Rattle.farm_state.proofs.Parts.{not-both, strike-snoc}
use Rattle.farm_state.specs.Moves.{MayMove, MayUndo, StandsIn, Turns, about_move, added, change_of, count_after, count_before, goes_on, is_going, joined, made, move_in, moved_last, place_of, reported_move, struck, undone}
use Rattle.farm_state.specs.Turns.{change_at, turns_after}
use Rattle.farm_state.specs.declared.moves.Change.{Change}
use Rattle.farm_state.specs.declared.moves.Change.TheVariants as change
use Rattle.farm_state.specs.declared.moves.Move.{Move}
use Rattle.farm_state.specs.declared.moves.Move.TheVariants.{Stay, Open, Lease, Touch}
use Rattle.farm_state.proofs.Places.{IsIn, IsOut, back, may-back, same_lists}

-- two lists are the order of turns of a history
abbrev pub AreTurnsOf : List Entry → Turns → Type 0
AreTurnsOf H t = AreTurns H t.never t.leased

-- the number that the next search gets
abbrev pub next_number : List Entry → ℕ
next_number H = length (openings H) + 1

-- A move leads from the order of a history to the order of a longer one, and what is kept of it leads back
pub record IsStep (H G : List Entry) (m : Move) (c : Change) (t u : Turns) : Type 0 where
  pub after : AreTurnsOf G u
  pub may : MayMove t (next_number H) m
  pub may_undo : MayUndo u (next_number G) c
  pub back_is : undone c (next_number G) u ≡ t
  pub count : count_after m (next_number H) ≡ next_number G
  pub count_back : count_before c (next_number G) ≡ next_number H

step-as : (H G : List Entry) (m n : Move) (c d : Change) (t u v : Turns) → m ≡ n → c ≡ d → u ≡ v → IsStep H G m c t u →
    IsStep H G n d t v
step-as H G m n c d t u v move_is change_is turns_is s =
    subst (λ (x : Move). IsStep H G x d t v) move_is
    (subst (λ (x : Change). IsStep H G m x t v) change_is (subst (λ (x : Turns). IsStep H G m c t x) turns_is s))

-- How many searches there are.

same-count : (H : List Entry) (e : Entry) → opening_in e.what ≡ None → next_number H ≡ next_number (H ++ e ∷ [])
same-count H e none =
    let more : length (openings (H ++ e ∷ [])) ≡ length (openings H) + length (cons_option (opening_in e.what) []) =
    ap length (openings-grow H e) ∙ length-append (openings H) (cons_option (opening_in e.what) []) in
    let no_more : length (cons_option (opening_in e.what) []) ≡ 0 =
    ap (λ (o : Option Opening). length (cons_option o [])) none in
    omega (arith, more, no_more)

one-more : (H : List Entry) (e : Entry) (o : Opening) → opening_in e.what ≡ Some o →
    next_number (H ++ e ∷ []) ≡ next_number H + 1
one-more H e o is =
    let more : length (openings (H ++ e ∷ [])) ≡ length (openings H) + length (cons_option (opening_in e.what) []) =
    ap length (openings-grow H e) ∙ length-append (openings H) (cons_option (opening_in e.what) []) in
    let one : length (cons_option (opening_in e.what) []) ≡ 1 =
    ap (λ (x : Option Opening). length (cons_option x [])) is in
    omega (arith, more, one)

-- A search that stands in the order.

pub within : (H : List Entry) (s : ℕ) → IsLegal H → IsOfActive H s → (0 < s) × (s < next_number H)
within H s legal a =
    let at : (get_or (openings H) a.there.0 a.opening).search ≡ 1 + a.there.0 =
    number-at (λ (x : Opening). x.search) 1 (openings H) (openings-numbered H legal) a.there.0 a.opening a.there.1 in
    let it : (get_or (openings H) a.there.0 a.opening).search ≡ a.opening.search =
    ap (λ (x : Opening). x.search) a.there.2 in
    (omega (arith, at, it, a.numbered), omega (arith, at, it, a.there.1, a.numbered))

-- what stands in no search's place
absent-if : (H : List Entry) (s : ℕ) (t : Turns) (xs : List ℕ) → (IsOfActive H s → ⊥) → AreTurnsOf H t →
    (has s xs ≡ true → StandsIn t s) → has s xs ≡ false
absent-if H s t xs never turns stands =
    ⊎_elim (λ (h : has s xs ≡ true). absurd (never (turns.only s (stands h)))) (λ (none : has s xs ≡ false). none)
    (cases_Bool (has s xs))

pub not-zero : (H : List Entry) → IsLegal H → IsOfActive H 0 → ⊥
not-zero H legal a = let low = (within H 0 legal a).0 in omega (arith, low)

-- a number stands in one of the two lists alone
apart : (H : List Entry) (t : Turns) (s : ℕ) → AreTurnsOf H t → has s t.never ≡ true → has s t.leased ≡ false
apart H t s turns l =
    ⊎_elim (λ (r : has s t.leased ≡ true). absurd (omega (arith, turns.fresh s l, turns.waiting s r)))
    (λ (none : has s t.leased ≡ false). none)
    (cases_Bool (has s t.leased))

pub is-in : (H : List Entry) (t : Turns) (s : ℕ) → IsLegal H → AreTurnsOf H t → StandsIn t s → IsIn t s (next_number H)
is-in H t s legal turns there =
    let low = within H s legal (turns.only s there) in
    let never : IsOfActive H 0 → ⊥ = not-zero H legal in
    record {
      there = there;
      above = low.0;
      below = low.1;
      never_once = (absent-if H 0 t t.never never turns (λ h. inl h), turns.never_once);
      leased_once = (absent-if H 0 t t.leased never turns (λ h. inr h), turns.leased_once);
      apart = apart H t s turns;
    }

-- An entry that leaves the order, and one that moves or strikes a search.

stay-step : (H G : List Entry) (t : Turns) → AreTurnsOf G t → next_number H ≡ next_number G →
    IsStep H G Stay change.Nothing t t
stay-step H G t turns same = record {
  after = turns;
  may = tt;
  may_undo = tt;
  back_is = refl;
  count = same;
  count_back = sym same;
}

touch-step : (H G : List Entry) (t : Turns) (s : ℕ) → AreTurnsOf G t → next_number H ≡ next_number G → StandsIn t s →
    IsStep H G (Touch s) change.Nothing t t
touch-step H G t s turns same there = record {
  after = turns;
  may = there;
  may_undo = tt;
  back_is = refl;
  count = same;
  count_back = sym same;
}

end-step : (H G : List Entry) (t : Turns) (s : ℕ) → AreTurnsOf G (struck s t) → next_number H ≡ next_number G →
    IsIn t s (next_number H) → IsStep H G (Touch s) (place_of s t) t (struck s t)
end-step H G t s turns same stands =
    let out : IsOut t (struck s t) s =
    record {
      never = refl;
      leased = strike-absent s (strike s t.leased) (strike-gone s t.leased stands.leased_once.1);
    } in
    let now : IsIn t s (next_number G) = subst (IsIn t s) same stands in
    record {
      after = turns;
      may = stands.there;
      may_undo = may-back t (struck s t) s (next_number G) now out;
      back_is = back t (struck s t) s (next_number G) now out;
      count = same;
      count_back = sym same;
    }

lease-step : (H G : List Entry) (t : Turns) (s : ℕ) → AreTurnsOf G (moved_last s t) → next_number H ≡ next_number G →
    IsIn t s (next_number H) → IsStep H G (Lease s) (place_of s t) t (moved_last s t)
lease-step H G t s turns same stands =
    let out : IsOut t (moved_last s t) s =
    record { never = refl; leased = strike-snoc s (strike s t.leased) (strike-gone s t.leased stands.leased_once.1) } in
    let now : IsIn t s (next_number G) = subst (IsIn t s) same stands in
    record {
      after = turns;
      may = stands.there;
      may_undo = may-back t (moved_last s t) s (next_number G) now out;
      back_is = back t (moved_last s t) s (next_number G) now out;
      count = same;
      count_back = sym same;
    }

-- An entry that opens a search.

open-step : (H G : List Entry) (t u : Turns) (s : ℕ) → AreTurnsOf G u → s ≡ next_number H →
    next_number G ≡ next_number H + 1 → strike s u.never ≡ t.never → u.leased ≡ t.leased → has s t.leased ≡ false →
    IsStep H G (Open s) change.Opened t u
open-step H G t u s turns next more never leased none =
    let last : next_number G - 1 ≡ s = omega (arith, more, next) in
    record {
      after = turns;
      may = next;
      may_undo = record {
        some = omega (arith, more);
        out = ap (λ (n : ℕ). has n u.leased) last ∙ ap (has s) leased ∙ none;
      };
      back_is =
          same_lists (undone change.Opened (next_number G) u) t (ap (λ (n : ℕ). strike n u.never) last ∙ never) leased;
      count = sym more;
      count_back = omega (arith, more);
    }

opened-now : (H : List Entry) (e : Entry) (o : Opening) → opening_in e.what ≡ Some o →
    Contains (openings (H ++ e ∷ [])) o
opened-now H e o is =
    subst (λ (os : List Opening). Contains os o) (sym (openings-grow H e))
    (Contains-append_right (openings H) (cons_option (opening_in e.what) []) o
    (subst (λ (x : Option Opening). Contains (cons_option x []) o) (sym is) (contains-head [] o o refl)))

opened-step : (H : List Entry) (e : Entry) (o : Opening) (t : Turns) → IsLegal H → IsLegal (H ++ e ∷ []) →
    AreTurnsOf H t → opening_in e.what ≡ Some o → (going : Bool) → is_active (standing (H ++ e ∷ []) o) ≡ going →
    IsStep H (H ++ e ∷ []) (Open o.search) change.Opened t (added going o.search t)
opened-step H e o t legal longer turns is going stands =
    let G = H ++ e ∷ [] in
    let s = o.search in
    let step : Stepped H e.at e.what = stepped H e (IsLegal-pushed H e legal longer) in
    let number : next_number H ≡ s =
    (is_made (ask_of o) (next_number H) o (opened-facts H e.at e.what o is step).made).number in
    let new : IsOfActive H s → ⊥ = λ a. (let high = (within H s legal a).1 in omega (arith, high, number)) in
    let never : has s t.never ≡ false = absent-if H s t t.never new turns (λ h. inl h) in
    let leased : has s t.leased ≡ false = absent-if H s t t.leased new turns (λ h. inr h) in
    let more = one-more H e o is in
    let back_to = opened-struck H e o t.never t.leased legal longer turns is in
    by going stands
    (λ active.
    open-step H G t (joined s t) s (opened-turns H e o t.never t.leased legal longer turns is active) (sym number) more
    back_to.0 refl leased)
    (λ ended.
    let same : t ≡ struck s (joined s t) = sym (same_lists (struck s (joined s t)) t back_to.0 back_to.1) in
    open-step H G t (struck s (joined s t)) s
    (subst (AreTurnsOf G) same (opened_ended-turns H e o t.never t.leased legal longer turns is ended)) (sym number)
    more (ap (strike s) back_to.0 ∙ strike-absent s t.never never) back_to.1 leased)
  where
    by : (b : Bool) → is_active (standing (H ++ e ∷ []) o) ≡ b →
        (is_active (standing (H ++ e ∷ []) o) ≡ true →
        IsStep H (H ++ e ∷ []) (Open o.search) change.Opened t (joined o.search t)) →
        (is_active (standing (H ++ e ∷ []) o) ≡ false →
        IsStep H (H ++ e ∷ []) (Open o.search) change.Opened t (struck o.search (joined o.search t))) →
        IsStep H (H ++ e ∷ []) (Open o.search) change.Opened t (added b o.search t)
    by true is_b on off = on is_b
    by false is_b on off = off is_b

-- An entry about a search.

one-opening : (H : List Entry) (o p : Opening) → IsLegal H → Contains (openings H) o → Contains (openings H) p →
    p.search ≡ o.search → o ≡ p
one-opening H o p legal there at same =
    let both : Some o ≡ Some p =
    sym (opening-found H o legal there) ∙ ap (opening_numbered H) (sym same) ∙ opening-found H p legal at in
    cc

-- what is left of the order where an entry about a search comes to it
abbrev moved_if : Bool → Bool → (search : ℕ) → Move
moved_if was is s = if was then Touch s else Stay

abbrev kept_if : Bool → Bool → (search : ℕ) → Turns → Change
kept_if was is s t = if was then (if is then change.Nothing else place_of s t) else change.Nothing

abbrev left_if : Bool → Bool → (search : ℕ) → Turns → Turns
left_if was is s t = if was then (if is then t else struck s t) else t

about-step : (was is : Bool) (H : List Entry) (e : Entry) (o : Opening) (t : Turns) → IsLegal H →
    IsLegal (H ++ e ∷ []) → AreTurnsOf H t → Contains (openings H) o → IsAbout H e.what o.search →
    lease_in e.what ≡ None → is_active (standing H o) ≡ was → is_active (standing (H ++ e ∷ []) o) ≡ is →
    IsStep H (H ++ e ∷ []) (moved_if was is o.search) (kept_if was is o.search t) t (left_if was is o.search t)
about-step true true H e o t legal longer turns there about leases_none was is =
    let none = about-opens_none H e.what o.search about in
    let going : (p : Opening) → Contains (openings H) p → IsAbout H e.what p.search →
    is_active (standing (H ++ e ∷ []) p) ≡ true =
    λ p at it.
    let same : o ≡ p = one-opening H o p legal there at (about-one H e.what p.search o.search it about) in
    ap (λ (x : Opening). is_active (standing (H ++ e ∷ []) x)) (sym same) ∙ is in
    touch-step H (H ++ e ∷ []) t o.search (other-turns H e t.never t.leased legal longer turns none leases_none going)
    (same-count H e none) (turns.all o there was)
about-step true false H e o t legal longer turns there about leases_none was is =
    end-step H (H ++ e ∷ []) t o.search (ended-turns H e o t.never t.leased legal longer turns there about is)
    (same-count H e (about-opens_none H e.what o.search about))
    (is-in H t o.search legal turns (turns.all o there was))
about-step false is H e o t legal longer turns there about leases_none was at =
    let s = o.search in
    let step : Stepped H e.at e.what = stepped H e (IsLegal-pushed H e legal longer) in
    let kept = end-kept H H e o was legal (record { opened = there; stands = refl; reruns_are = refl }) step in
    let ended : is_active (standing (H ++ e ∷ []) o) ≡ false = ap is_active kept.stands ∙ was in
    let gone : IsOfActive H s → ⊥ =
    λ a.
    let same : o ≡ a.opening = one-opening H o a.opening legal there a.there a.numbered in
    not-both _ (ap (λ (x : Opening). is_active (standing H x)) same ∙ a.active) was in
    let same : struck s t ≡ t =
    same_lists (struck s t) t (strike-absent s t.never (absent-if H s t t.never gone turns (λ h. inl h)))
    (strike-absent s t.leased (absent-if H s t t.leased gone turns (λ h. inr h))) in
    stay-step H (H ++ e ∷ []) t
    (subst (AreTurnsOf (H ++ e ∷ [])) same (ended-turns H e o t.never t.leased legal longer turns there about ended))
    (same-count H e (about-opens_none H e.what s about))

-- as it is told by the moves
change-about : (G : List Entry) (s : ℕ) (t : Turns) (was is : Bool) → is_going G s ≡ is →
    change_of G (moved_if was is s) t ≡ kept_if was is s t
change-about G s t true is same = ap (λ (b : Bool). if b then change.Nothing else place_of s t) same
change-about G s t false is same = refl

made-about : (G : List Entry) (s : ℕ) (t : Turns) (was is : Bool) → is_going G s ≡ is →
    made G (moved_if was is s) t ≡ left_if was is s t
made-about G s t true is same = ap (λ (b : Bool). if b then t else struck s t) same
made-about G s t false is same = refl

abbrev IsMadeBy : List Entry → Entry → Move → Turns → Type 0
IsMadeBy H e m t = IsStep H (H ++ e ∷ []) m (change_of (H ++ e ∷ []) m t) t (made (H ++ e ∷ []) m t)

about-made : (H : List Entry) (e : Entry) (o : Opening) (t : Turns) → IsLegal H → IsLegal (H ++ e ∷ []) →
    AreTurnsOf H t → Contains (openings H) o → IsAbout H e.what o.search → lease_in e.what ≡ None →
    IsMadeBy H e (about_move H o.search) t
about-made H e o t legal longer turns there about leases_none =
    let G = H ++ e ∷ [] in
    let s = o.search in
    let was = is_active (standing H o) in
    let is = is_active (standing G o) in
    let was_is : is_going H s ≡ was = ap (goes_on H) (opening-found H o legal there) in
    let is_is : is_going G s ≡ is = ap (goes_on G) (opening-found G o longer (opened-stays H e o there)) in
    let move_is : about_move H s ≡ moved_if was is s = ap (λ (b : Bool). moved_if b is s) was_is in
    step-as H G (moved_if was is s) (about_move H s) (kept_if was is s t) (change_of G (about_move H s) t) t
    (left_if was is s t) (made G (about_move H s) t) (sym move_is)
    (sym (ap (λ (m : Move). change_of G m t) move_is ∙ change-about G s t was is is_is))
    (sym (ap (λ (m : Move). made G m t) move_is ∙ made-about G s t was is is_is))
    (about-step was is H e o t legal longer turns there about leases_none refl refl)

about-number : (H : List Entry) (e : Entry) (s : ℕ) (o : Opening) (t : Turns) → IsLegal H → IsLegal (H ++ e ∷ []) →
    AreTurnsOf H t → opening_numbered H s ≡ Some o → IsAbout H e.what s → lease_in e.what ≡ None →
    IsMadeBy H e (about_move H s) t
about-number H e s o t legal longer turns known about leases_none =
    let at = opening-there H s o known in
    subst (λ (n : ℕ). IsMadeBy H e (about_move H n) t) at.1
    (about-made H e o t legal longer turns at.0 (subst (IsAbout H e.what) (sym at.1) about) leases_none)

-- an entry that reports a run, with a verdict or not
told-made : (H : List Entry) (e : Entry) (run : ℕ) (t : Turns) → IsLegal H → IsLegal (H ++ e ∷ []) → AreTurnsOf H t →
    told_in e.what ≡ Some run → lease_in e.what ≡ None →
    ((l : LeasedRun) → lease_of H run ≡ Some l → IsAbout H e.what l.search) →
    IsMadeBy H e (reported_move H (lease_of H run)) t
told-made H e run t legal longer turns is leases_none about =
    let step : Stepped H e.at e.what = stepped H e (IsLegal-pushed H e legal longer) in
    let facts = told-facts H e.at e.what run is step in
    let l = facts.lease in
    let known : HasOpening H l.search =
    All-contains (λ (x : LeasedRun). HasOpening H x.search) (all_leases H) l (leases-known H legal)
    (lease-there H run l facts.known).0 in
    subst (λ (x : Option LeasedRun). IsMadeBy H e (reported_move H x) t) (sym facts.known)
    (about-number H e l.search known.0 t legal longer turns known.1 (about l facts.known) leases_none)

-- By what the entry is.

made-by : (H : List Entry) (e : Entry) (w : What) (t : Turns) → IsLegal H → IsLegal (H ++ e ∷ []) → AreTurnsOf H t →
    e.what ≡ w → IsMadeBy H e (move_in H w) t
made-by H e (Founded settings) t legal longer turns is =
    let step : Stepped H e.at e.what = stepped H e (IsLegal-pushed H e legal longer) in
    absurd (subst (KindFacts H e.at) is step.facts)
made-by H e (Opened o) t legal longer turns is =
    let opens : opening_in e.what ≡ Some o = ap opening_in is in
    let found : is_going (H ++ e ∷ []) o.search ≡ is_active (standing (H ++ e ∷ []) o) =
    ap (goes_on (H ++ e ∷ [])) (opening-found (H ++ e ∷ []) o longer (opened-now H e o opens)) in
    opened-step H e o t legal longer turns opens (is_going (H ++ e ∷ []) o.search) (sym found)
made-by H e (Leased key worker run search stage position deadline) t legal longer turns is =
    let l : LeasedRun =
    record { run = run; search = search; stage = stage; position = position; deadline = deadline } in
    let leases : lease_in e.what ≡ Some l = ap lease_in is in
    lease-step H (H ++ e ∷ []) t search (leased-turns H e l t.never t.leased legal longer turns leases)
    (same-count H e (ap opening_in is))
    (is-in H t search legal turns (leased-there H e l t.never t.leased legal longer turns leases))
made-by H e (Reported run _ _) t legal longer turns is =
    told-made H e run t legal longer turns (ap told_in is) (ap lease_in is)
    (λ l known. subst (λ (w : What). IsAbout H w l.search) (sym is) (l, known, refl))
made-by H e (Skipped run _) t legal longer turns is =
    told-made H e run t legal longer turns (ap told_in is) (ap lease_in is)
    (λ l known. subst (λ (w : What). IsAbout H w l.search) (sym is) (l, known, refl))
made-by H e (Cancelled key search) t legal longer turns is =
    let step : Stepped H e.at e.what = stepped H e (IsLegal-pushed H e legal longer) in
    let facts = cancelled-facts H e.at e.what search (ap cancelled_in is) step in
    about-number H e search facts.opening t legal longer turns facts.known
    (subst (λ (w : What). IsAbout H w search) (sym is) refl) (ap lease_in is)
made-by H e (Ordered key agent order commit search day) t legal longer turns is =
    stay-step H (H ++ e ∷ []) t
    (other-turns H e t.never t.leased legal longer turns (ap opening_in is) (ap lease_in is)
    (λ o there about. absurd (subst (λ (w : What). IsAbout H w o.search) is about)))
    (same-count H e (ap opening_in is))
made-by H e (Carried commit day) t legal longer turns is =
    stay-step H (H ++ e ∷ []) t
    (other-turns H e t.never t.leased legal longer turns (ap opening_in is) (ap lease_in is)
    (λ o there about. absurd (subst (λ (w : What). IsAbout H w o.search) is about)))
    (same-count H e (ap opening_in is))
made-by H e Closed t legal longer turns is =
    stay-step H (H ++ e ∷ []) t
    (other-turns H e t.never t.leased legal longer turns (ap opening_in is) (ap lease_in is)
    (λ o there about. absurd (subst (λ (w : What). IsAbout H w o.search) is about)))
    (same-count H e (ap opening_in is))

pub step-of : (H : List Entry) (e : Entry) (t : Turns) → IsLegal H → IsLegal (H ++ e ∷ []) → AreTurnsOf H t →
    IsStep H (H ++ e ∷ []) (move_in H e.what) (change_at H e t) t (turns_after H e t)
step-of H e t legal longer turns = made-by H e e.what t legal longer turns refl

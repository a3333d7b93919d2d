-- The order of turns with an entry appended.
use Rattle.std.proofs.Common.{◌≡◌, ◌≢◌, ℕ, ◌+◌, ◌<◌, ◌==◌, ◌⊎◌, Bool, true, false, if◌then◌else◌, List, [], ◌∷◌, ◌++◌, length, get_or, Contains, Option, Some, None, refl, sym, ap, subst, inl, inr, ◌∙◌, ⊎_elim, arith, true≢false}
use Rattle.std.specs.List.{cons_option}
use Rattle.std.proofs.lemmas.Bool.{cases_Bool, cases_eq, ne_eqb}
use Rattle.std.proofs.lemmas.Bool.Decides.{nat_tests}
use Rattle.std.proofs.lemmas.List.Elements.{All-contains, Contains-append_right}
use Rattle.std.proofs.lemmas.Option.{none-some}
use Rattle.farm_types.specs.Moment.{moment_ms}
use Rattle.search_books.specs.Order.{has, strike, IsOnce}
use Rattle.search_books.proofs.Lists.{strike-absent, strike-gone, strike-once, strike-other}
use Rattle.farm_entry.specs.History.{all_leases, is_lease_for, is_of_search, last_lease, last_place, lease_in, opening_in, opening_numbered, openings}
use Rattle.farm_entry.specs.Legal.{IsLegal, ask_of}
use Rattle.farm_entry.specs.Standing.{is_active, standing}
use Rattle.farm_entry.specs.declared.entry.Entry.{Entry}
use Rattle.farm_entry.specs.declared.entry.What.{What}
use Rattle.farm_entry.specs.declared.entry.What.TheVariants.{Founded, Opened, Leased, Reported, Skipped, Cancelled, Ordered, Carried, Closed}
use Rattle.farm_entry.specs.declared.lease.LeasedRun.{LeasedRun}
use Rattle.farm_entry.specs.declared.opening.Opening.{Opening}
use Rattle.farm_entry.proofs.Growing.{openings-grow}
use Rattle.farm_laws.specs.Openings.{HasOpening}
use Rattle.farm_laws.proofs.Ends.{end-kept}
use Rattle.farm_laws.proofs.EntryParts.{leased-facts, opened-facts}
use Rattle.farm_laws.proofs.Induct.{IsLegal-pushed}
use Rattle.farm_laws.proofs.Known.{leases-known, next_run-due}
use Rattle.farm_laws.proofs.Lists.{contains-head, contains-nil, nil-filter}
use Rattle.farm_laws.proofs.Made.{is_made}
use Rattle.farm_laws.proofs.Numbered.{no_opening, number-at, opening-found, opening-there, openings-numbered}
use Rattle.farm_laws.proofs.Opened.{opened-cases, opened-stays}
use Rattle.farm_laws.proofs.Stepped.{Stepped, stepped}
use Rattle.farm_laws.specs.Steps.{IsAbout}
use Rattle.farm_laws.proofs.Counting.{about-one, about-opens_none}
use Rattle.farm_state.proofs.NeverLeased.{never_leased}
use Rattle.farm_laws.proofs.OneMore.{last_lease-step, standing-same}
use Rattle.farm_state.specs.TurnOrder.{AreTurns, IsOfActive}
use Rattle.farm_state.proofs.Along.{due-active}
use Rattle.farm_state.proofs.Parts.{has-either, has-left, kept-turns, not-both, one-has, snoc-here, snoc-once, snoc-turns, strike-snoc, strike-turns, struck-has, struck-other}

same-number : (a b : ℕ) → a ≡ b → a == b ≡ true
same-number a b e = grind (arith, nat_tests)

-- Last leases.

unleased : (H : List Entry) (e : Entry) (s : ℕ) → is_lease_for s e ≡ false →
    last_lease (H ++ e ∷ []) s ≡ last_lease H s
unleased H e s not_it =
    last_lease-step H e s ∙ ap (λ (b : Bool). if b then length H else last_lease H s) not_it

no-lease_kept : (H : List Entry) (e : Entry) → lease_in e.what ≡ None → (s : ℕ) →
    last_lease (H ++ e ∷ []) s ≡ last_lease H s
no-lease_kept H e none s = unleased H e s (ap (is_of_search s) none)

if-below : (b : Bool) (p f n : ℕ) → p < n → f < n → (if b then p else f) < n
if-below true p f n low high = low
if-below false p f n low high = high

last_place-below : (test : Entry → Bool) (place found : ℕ) (H : List Entry) → found < place + length H →
    last_place test place found H < place + length H
last_place-below test place found [] h = h
last_place-below test place found (e ∷ H) h =
    let next = if test e then place else found in
    let low : next < place + 1 + length H =
    if-below (test e) place found (place + 1 + length H) (omega arith) (omega (arith, h)) in
    omega (arith, last_place-below test (place + 1) next H low)

some-length : (H : List Entry) → IsLegal H → 0 < length H
some-length [] legal = absurd legal
some-length (e ∷ H) legal = omega arith

last_lease-below : (H : List Entry) (s : ℕ) → IsLegal H → last_lease H s < length H
last_lease-below H s legal =
    omega (arith, last_place-below (is_lease_for s) 0 0 H (omega (arith, some-length H legal)))

-- What an entry holds.

opens-no_lease : (w : What) (o : Opening) → opening_in w ≡ Some o → lease_in w ≡ None
opens-no_lease (Opened x) o h = refl
opens-no_lease (Founded x) o h = refl
opens-no_lease (Leased k w r q t p d) o h = absurd (none-some o h)
opens-no_lease (Reported r v _) o h = refl
opens-no_lease (Skipped r _) o h = refl
opens-no_lease (Cancelled k q) o h = refl
opens-no_lease (Ordered k a n c q d) o h = refl
opens-no_lease (Carried c d) o h = refl
opens-no_lease Closed o h = refl

about-no_lease : (H : List Entry) (w : What) (s : ℕ) → IsAbout H w s → lease_in w ≡ None
about-no_lease H (Reported run v _) s a = refl
about-no_lease H (Skipped run _) s a = refl
about-no_lease H (Cancelled key q) s a = refl
about-no_lease H (Founded settings) s a = absurd a
about-no_lease H (Opened o) s a = absurd a
about-no_lease H (Leased k w q u p d y) s a = absurd a
about-no_lease H (Ordered k a n c q d) s x = absurd x
about-no_lease H (Carried c d) s x = absurd x
about-no_lease H Closed s x = absurd x

leases-no_opening : (w : What) (l : LeasedRun) → lease_in w ≡ Some l → opening_in w ≡ None
leases-no_opening (Leased k w r q t p d) l h = refl
leases-no_opening (Founded x) l h = refl
leases-no_opening (Opened o) l h = absurd (none-some l h)
leases-no_opening (Reported r v _) l h = refl
leases-no_opening (Skipped r _) l h = refl
leases-no_opening (Cancelled k q) l h = refl
leases-no_opening (Ordered k a n c q d) l h = refl
leases-no_opening (Carried c d) l h = refl
leases-no_opening Closed l h = refl

abbrev IsStepTo : List Entry → Entry → Type 0
IsStepTo H e = Stepped H e.at e.what

step-of : (H : List Entry) (e : Entry) → IsLegal H → IsLegal (H ++ e ∷ []) → IsStepTo H e
step-of H e legal longer = stepped H e (IsLegal-pushed H e legal longer)

-- Where no search is opened, those of before are all.
opened-before : (H : List Entry) (e : Entry) (o : Opening) → opening_in e.what ≡ None →
    Contains (openings (H ++ e ∷ [])) o → Contains (openings H) o
opened-before H e o none there =
    ⊎_elim (λ (before : Contains (openings H) o). before)
    (λ (now : opening_in e.what ≡ Some o). absurd (none-some o (sym none ∙ now)))
    (opened-cases H e o there)

-- Where a search isn't the one that an entry is about, it stands as before.
unabout : (H : List Entry) (e : Entry) (o : Opening) → IsLegal H → IsStepTo H e → (IsAbout H e.what o.search → ⊥) →
    is_active (standing (H ++ e ∷ []) o) ≡ is_active (standing H o)
unabout H e o legal step other = ap is_active (standing-same H e o legal step other)

-- a search that is active was so before
active-before : (H : List Entry) (e : Entry) (o : Opening) → IsLegal H → IsStepTo H e → Contains (openings H) o →
    is_active (standing (H ++ e ∷ []) o) ≡ true → is_active (standing H o) ≡ true
active-before H e o legal step there active =
    ⊎_elim (λ (h : is_active (standing H o) ≡ true). h)
    (λ (ended : is_active (standing H o) ≡ false).
    let kept = end-kept H H e o ended legal (record { opened = there; stands = refl; reruns_are = refl }) step in
    absurd (not-both _ active (ap is_active kept.stands ∙ ended)))
    (cases_Bool (is_active (standing H o)))

still-active : (H : List Entry) (e : Entry) (s : ℕ) → (a : IsOfActive H s) →
    is_active (standing (H ++ e ∷ []) a.opening) ≡ true → IsOfActive (H ++ e ∷ []) s
still-active H e s a active = record {
  opening = a.opening;
  there = opened-stays H e a.opening a.there;
  numbered = a.numbered;
  active = active;
}

-- The founding.

pub founded-turns : (e : Entry) → IsLegal (e ∷ []) → AreTurns (e ∷ []) [] []
founded-turns e legal = record {
  never_once = tt;
  leased_once = tt;
  fresh = λ s h. absurd (true≢false (sym h));
  waiting = λ s h. absurd (true≢false (sym h));
  all = λ o there active.
      absurd (contains-nil o (subst (λ (n : Option Opening). Contains (cons_option n []) o)
      (no_opening e.what legal.0) there));
  only = λ s h.
      absurd (⊎_elim (λ (l : false ≡ true). true≢false (sym l)) (λ (r : false ≡ true). true≢false (sym r)) h);
  never_by_turns = tt;
  leased_by_turns = tt;
}

-- An entry that neither opens, leases nor ends a search.

-- where the searches of before that are active are as before, and no lease is added
same-turns : (H : List Entry) (e : Entry) (never leased : List ℕ) → AreTurns H never leased →
    lease_in e.what ≡ None →
    ((o : Opening) → Contains (openings (H ++ e ∷ [])) o → is_active (standing (H ++ e ∷ []) o) ≡ true →
    Contains (openings H) o × (is_active (standing H o) ≡ true)) →
    ((o : Opening) → Contains (openings H) o → is_active (standing H o) ≡ true →
    is_active (standing (H ++ e ∷ []) o) ≡ true) →
    AreTurns (H ++ e ∷ []) never leased
same-turns H e never leased turns none before after =
    let kept = no-lease_kept H e none in
    record {
      never_once = turns.never_once;
      leased_once = turns.leased_once;
      fresh = λ s h. kept s ∙ turns.fresh s h;
      waiting = λ s h. subst (λ (n : ℕ). 0 < n) (sym (kept s)) (turns.waiting s h);
      all = λ o there active. let was = before o there active in turns.all o was.0 was.1;
      only = λ s h.
          let a = turns.only s h in still-active H e s a (after a.opening a.there a.active);
      never_by_turns = kept-turns H (H ++ e ∷ []) never (λ t h. kept t) turns.never_by_turns;
      leased_by_turns = kept-turns H (H ++ e ∷ []) leased (λ t h. kept t) turns.leased_by_turns;
    }

pub other-turns : (H : List Entry) (e : Entry) (never leased : List ℕ) → IsLegal H → IsLegal (H ++ e ∷ []) →
    AreTurns H never leased → opening_in e.what ≡ None → lease_in e.what ≡ None →
    ((o : Opening) → Contains (openings H) o → IsAbout H e.what o.search →
    is_active (standing (H ++ e ∷ []) o) ≡ true) →
    AreTurns (H ++ e ∷ []) never leased
other-turns H e never leased legal longer turns unopened_by none go_on =
    let step = step-of H e legal longer in
    same-turns H e never leased turns none
    (λ o there active.
    let was = opened-before H e o unopened_by there in (was, active-before H e o legal step was active))
    (λ o there active.
    ⊎_elim (λ (h : is_active (standing (H ++ e ∷ []) o) ≡ true). h)
    (λ (ended : is_active (standing (H ++ e ∷ []) o) ≡ false).
    absurd (not-both _ active
    (sym (unabout H e o legal step (λ about. not-both _ (go_on o there about) ended)) ∙ ended)))
    (cases_Bool (is_active (standing (H ++ e ∷ []) o))))

-- An entry that ends a search.

strike-in : (s t : ℕ) (never leased : List ℕ) → t ≢ s → (has t never ≡ true) ⊎ (has t leased ≡ true) →
    (has t (strike s never) ≡ true) ⊎ (has t (strike s leased) ≡ true)
strike-in s t never leased ne (inl h) = inl (strike-other s t never ne ∙ h)
strike-in s t never leased ne (inr h) = inr (strike-other s t leased ne ∙ h)

record IsLeft (s t : ℕ) (never leased : List ℕ) : Type 0 where
  other : t ≢ s
  within : (has t never ≡ true) ⊎ (has t leased ≡ true)

in-strike : (H : List Entry) (s t : ℕ) (never leased : List ℕ) → AreTurns H never leased →
    (has t (strike s never) ≡ true) ⊎ (has t (strike s leased) ≡ true) → IsLeft s t never leased
in-strike H s t never leased turns (inl h) =
    record { other = struck-other s t never turns.never_once h; within = inl (struck-has s t never h) }
in-strike H s t never leased turns (inr h) =
    record { other = struck-other s t leased turns.leased_once h; within = inr (struck-has s t leased h) }

pub ended-turns : (H : List Entry) (e : Entry) (o : Opening) (never leased : List ℕ) → IsLegal H →
    IsLegal (H ++ e ∷ []) → AreTurns H never leased → Contains (openings H) o → IsAbout H e.what o.search →
    is_active (standing (H ++ e ∷ []) o) ≡ false →
    AreTurns (H ++ e ∷ []) (strike o.search never) (strike o.search leased)
ended-turns H e o never leased legal longer turns at about ended =
    let step = step-of H e legal longer in
    let G = H ++ e ∷ [] in
    let s = o.search in
    let kept = no-lease_kept H e (about-no_lease H e.what s about) in
    let unopened_by = about-opens_none H e.what s about in
    let same_one : (p : Opening) → Contains (openings H) p → p.search ≡ s → is_active (standing G p) ≡ false =
    λ p there is.
    let one : Some o ≡ Some p =
    sym (opening-found H o legal at) ∙ ap (opening_numbered H) (sym is) ∙ opening-found H p legal there in
    let equal : o ≡ p = cc in
    ap (λ (x : Opening). is_active (standing G x)) (sym equal) ∙ ended in
    record {
      never_once = strike-once s never turns.never_once;
      leased_once = strike-once s leased turns.leased_once;
      fresh = λ t h. kept t ∙ turns.fresh t (struck-has s t never h);
      waiting = λ t h. subst (λ (n : ℕ). 0 < n) (sym (kept t)) (turns.waiting t (struck-has s t leased h));
      all = λ p there active.
          let was = opened-before H e p unopened_by there in
          strike-in s p.search never leased (λ is. not-both _ active (same_one p was is))
          (turns.all p was (active-before H e p legal step was active));
      only = λ t h.
          let left = in-strike H s t never leased turns h in
          let a = turns.only t left.within in
          still-active H e t a
          (unabout H e a.opening legal step
          (λ other. left.other (sym a.numbered ∙ about-one H e.what a.opening.search s other about))
          ∙ a.active);
      never_by_turns =
          kept-turns H G (strike s never) (λ t h. kept t) (strike-turns H s never turns.never_by_turns);
      leased_by_turns =
          kept-turns H G (strike s leased) (λ t h. kept t) (strike-turns H s leased turns.leased_by_turns);
    }

-- An entry that leases a run.

not_about-lease : (H : List Entry) (w : What) (s : ℕ) (l : LeasedRun) → lease_in w ≡ Some l → IsAbout H w s → ⊥
not_about-lease H w s l is about = none-some l (sym (about-no_lease H w s about) ∙ is)

leased-active : (H : List Entry) (e : Entry) (l : LeasedRun) → IsStepTo H e → lease_in e.what ≡ Some l →
    IsOfActive H l.search
leased-active H e l step is =
    let found = next_run-due H (moment_ms e.at) _ (leased-facts H e.at e.what l is step).due in
    record {
      opening = found.opening;
      there = found.there;
      numbered = sym found.of_search;
      active = due-active (standing H found.opening) H found.opening (moment_ms e.at) _ found.is_due;
    }

snoc-in : (s t : ℕ) (never leased : List ℕ) → (has t never ≡ true) ⊎ (has t leased ≡ true) →
    (has t never ≡ true) ⊎ (has t (leased ++ s ∷ []) ≡ true)
snoc-in s t never leased (inl h) = inl h
snoc-in s t never leased (inr h) = inr (has-left t leased (s ∷ []) h)

in-snoc : (s t : ℕ) (never leased : List ℕ) → (has t never ≡ true) ⊎ (has t (leased ++ s ∷ []) ≡ true) →
    ((has t never ≡ true) ⊎ (has t leased ≡ true)) ⊎ (t ≡ s)
in-snoc s t never leased (inl h) = inl (inl h)
in-snoc s t never leased (inr h) =
    ⊎_elim (λ (l : has t leased ≡ true). inl (inr l)) (λ (r : has t (s ∷ []) ≡ true). inr (one-has t s r))
    (has-either t leased (s ∷ []) h)

pub leased-there : (H : List Entry) (e : Entry) (l : LeasedRun) (never leased : List ℕ) → IsLegal H →
    IsLegal (H ++ e ∷ []) → AreTurns H never leased → lease_in e.what ≡ Some l →
    (has l.search never ≡ true) ⊎ (has l.search leased ≡ true)
leased-there H e l never leased legal longer turns is =
    let a = leased-active H e l (step-of H e legal longer) is in
    subst (λ (n : ℕ). (has n never ≡ true) ⊎ (has n leased ≡ true)) a.numbered
    (turns.all a.opening a.there a.active)

pub leased-turns : (H : List Entry) (e : Entry) (l : LeasedRun) (never leased : List ℕ) → IsLegal H →
    IsLegal (H ++ e ∷ []) → AreTurns H never leased → lease_in e.what ≡ Some l →
    AreTurns (H ++ e ∷ []) (strike l.search never) (strike l.search leased ++ l.search ∷ [])
leased-turns H e l never leased legal longer turns is =
    let step = step-of H e legal longer in
    let G = H ++ e ∷ [] in
    let s = l.search in
    let here : last_lease G s ≡ length H =
    last_lease-step H e s
    ∙ ap (λ (b : Bool). if b then length H else last_lease H s)
    (ap (is_of_search s) is ∙ same-number s s refl) in
    let kept : (t : ℕ) → t ≢ s → last_lease G t ≡ last_lease H t =
    λ t ne. unleased H e t (ap (is_of_search t) is ∙ ne_eqb s t (λ bad. ne (sym bad))) in
    let as_before : (p : Opening) → is_active (standing G p) ≡ is_active (standing H p) =
    λ p. unabout H e p legal step (not_about-lease H e.what p.search l is) in
    let keeps : (t : ℕ) (xs : List ℕ) → IsOnce xs → has t (strike s xs) ≡ true → last_lease G t ≡ last_lease H t =
    λ t xs once h. kept t (struck-other s t xs once h) in
    let some = some-length H legal in
    record {
      never_once = strike-once s never turns.never_once;
      leased_once =
          snoc-once s (strike s leased) (strike-once s leased turns.leased_once)
          (strike-gone s leased turns.leased_once);
      fresh = λ t h. keeps t never turns.never_once h ∙ turns.fresh t (struck-has s t never h);
      waiting = λ t h.
          ⊎_elim
          (λ (old : has t (strike s leased) ≡ true).
          subst (λ (n : ℕ). 0 < n) (sym (keeps t leased turns.leased_once old))
          (turns.waiting t (struck-has s t leased old)))
          (λ (new : has t (s ∷ []) ≡ true).
          subst (λ (n : ℕ). 0 < n) (sym (ap (last_lease G) (one-has t s new) ∙ here)) some)
          (has-either t (strike s leased) (s ∷ []) h);
      all = λ p there active.
          ⊎_elim
          (λ (it : p.search ≡ s).
          inr (ap (λ (n : ℕ). has n (strike s leased ++ s ∷ [])) it ∙ snoc-here s (strike s leased)))
          (λ (ne : p.search ≢ s).
          let was = opened-before H e p (leases-no_opening e.what l is) there in
          snoc-in s p.search (strike s never) (strike s leased)
          (strike-in s p.search never leased ne (turns.all p was (sym (as_before p) ∙ active))))
          (cases_eq p.search s);
      only = λ t h.
          let a : IsOfActive H t =
          ⊎_elim
          (λ (old : (has t (strike s never) ≡ true) ⊎ (has t (strike s leased) ≡ true)).
          turns.only t (in-strike H s t never leased turns old).within)
          (λ (it : t ≡ s). subst (IsOfActive H) (sym it) (leased-active H e l step is))
          (in-snoc s t (strike s never) (strike s leased) h) in
          still-active H e t a (as_before a.opening ∙ a.active);
      never_by_turns =
          kept-turns H G (strike s never) (λ t h. keeps t never turns.never_once h)
          (strike-turns H s never turns.never_by_turns);
      leased_by_turns =
          snoc-turns G s (strike s leased)
          (kept-turns H G (strike s leased) (λ t h. keeps t leased turns.leased_once h)
          (strike-turns H s leased turns.leased_by_turns))
          (λ t h.
          inl (omega (arith, keeps t leased turns.leased_once h, last_lease-below H t legal, here)));
    }

-- An entry that opens a search.

not_about-opening : (H : List Entry) (w : What) (s : ℕ) (o : Opening) → opening_in w ≡ Some o → IsAbout H w s → ⊥
not_about-opening H w s o is about = none-some o (sym (about-opens_none H w s about) ∙ is)

-- the new search has the next number, and was never leased
next-number : (H : List Entry) (e : Entry) (o : Opening) → IsStepTo H e → opening_in e.what ≡ Some o →
    length (openings H) + 1 ≡ o.search
next-number H e o step is =
    (is_made (ask_of o) (length (openings H) + 1) o (opened-facts H e.at e.what o is step).made).number

number-below : (H : List Entry) (o : Opening) → IsLegal H → Contains (openings H) o →
    o.search < length (openings H) + 1
number-below H o legal there =
    let at : (get_or (openings H) there.0 o).search ≡ 1 + there.0 =
    number-at (λ (x : Opening). x.search) 1 (openings H) (openings-numbered H legal) there.0 o there.1 in
    let it : (get_or (openings H) there.0 o).search ≡ o.search = ap (λ (x : Opening). x.search) there.2 in
    omega (arith, at, it, there.1)

active-below : (H : List Entry) (t : ℕ) → IsLegal H → IsOfActive H t → t < length (openings H) + 1
active-below H t legal a = omega (arith, number-below H a.opening legal a.there, a.numbered)

next-unopened : (H : List Entry) (s : ℕ) (n : Option Opening) → IsLegal H → opening_numbered H s ≡ n →
    length (openings H) + 1 ≡ s → n ≡ None
next-unopened H s None legal e next = refl
next-unopened H s (Some o) legal e next =
    let at : Contains (openings H) o × (o.search ≡ s) = opening-there H s o e in
    absurd (omega (arith, number-below H o legal at.0, at.1, next))

other-search : (H : List Entry) (s : ℕ) (l : LeasedRun) → opening_numbered H s ≡ None → HasOpening H l.search →
    l.search == s ≡ false
other-search H s l none known =
    ne_eqb l.search s
    (λ it. none-some known.0 (sym none ∙ ap (opening_numbered H) (sym it) ∙ known.1))

unopened-last : (H : List Entry) (s : ℕ) → IsLegal H → opening_numbered H s ≡ None → last_lease H s ≡ 0
unopened-last H s legal none =
    (never_leased H s legal).1
    (nil-filter (λ (l : LeasedRun). l.search == s) (all_leases H)
    (λ l there. other-search H s l none
    (All-contains (λ (x : LeasedRun). HasOpening H x.search) (all_leases H) l (leases-known H legal) there)))

opened-was : (H : List Entry) (e : Entry) (o p : Opening) → opening_in e.what ≡ Some o →
    Contains (openings (H ++ e ∷ [])) p → Contains (openings H) p ⊎ (o ≡ p)
opened-was H e o p is there =
    ⊎_elim (λ (before : Contains (openings H) p). inl before)
    (λ (now : opening_in e.what ≡ Some p).
    let both : Some o ≡ Some p = sym is ∙ now in let equal : o ≡ p = cc in inr equal)
    (opened-cases H e p there)

-- what an entry opens is opened with it
now-in : (n : Option Opening) (o : Opening) → n ≡ Some o → Contains (cons_option n []) o
now-in None o h = absurd (none-some o h)
now-in (Some x) o h = let same : x ≡ o = cc in contains-head [] x o same

opened-now : (H : List Entry) (e : Entry) (o : Opening) → opening_in e.what ≡ Some o →
    Contains (openings (H ++ e ∷ [])) o
opened-now H e o is =
    subst (λ (xs : List Opening). Contains xs o) (sym (openings-grow H e))
    (Contains-append_right (openings H) (cons_option (opening_in e.what) []) o (now-in (opening_in e.what) o is))

pub opened_ended-turns : (H : List Entry) (e : Entry) (o : Opening) (never leased : List ℕ) → IsLegal H →
    IsLegal (H ++ e ∷ []) → AreTurns H never leased → opening_in e.what ≡ Some o →
    is_active (standing (H ++ e ∷ []) o) ≡ false → AreTurns (H ++ e ∷ []) never leased
opened_ended-turns H e o never leased legal longer turns is ended =
    let step = step-of H e legal longer in
    let G = H ++ e ∷ [] in
    let as_before : (p : Opening) → is_active (standing G p) ≡ is_active (standing H p) =
    λ p. unabout H e p legal step (not_about-opening H e.what p.search o is) in
    same-turns H e never leased turns (opens-no_lease e.what o is)
    (λ p there active.
    ⊎_elim (λ (before : Contains (openings H) p). (before, sym (as_before p) ∙ active))
    (λ (it : o ≡ p).
    absurd (not-both _ active (ap (λ (x : Opening). is_active (standing G x)) (sym it) ∙ ended)))
    (opened-was H e o p is there))
    (λ p there active. as_before p ∙ active)

pub opened-turns : (H : List Entry) (e : Entry) (o : Opening) (never leased : List ℕ) → IsLegal H →
    IsLegal (H ++ e ∷ []) → AreTurns H never leased → opening_in e.what ≡ Some o →
    is_active (standing (H ++ e ∷ []) o) ≡ true → AreTurns (H ++ e ∷ []) (never ++ o.search ∷ []) leased
opened-turns H e o never leased legal longer turns is active_now =
    let step = step-of H e legal longer in
    let G = H ++ e ∷ [] in
    let s = o.search in
    let kept = no-lease_kept H e (opens-no_lease e.what o is) in
    let number = next-number H e o step is in
    let none : opening_numbered H s ≡ None = next-unopened H s (opening_numbered H s) legal refl number in
    let last : last_lease G s ≡ 0 = kept s ∙ unopened-last H s legal none in
    let as_before : (p : Opening) → is_active (standing G p) ≡ is_active (standing H p) =
    λ p. unabout H e p legal step (not_about-opening H e.what p.search o is) in
    let low : (t : ℕ) → has t never ≡ true → t < s =
    λ t h. omega (arith, number, active-below H t legal (turns.only t (inl h))) in
    let fresh : has s never ≡ false =
    ⊎_elim (λ (h : has s never ≡ true). absurd (omega (arith, low s h))) (λ (h : has s never ≡ false). h)
    (cases_Bool (has s never)) in
    record {
      never_once = snoc-once s never turns.never_once fresh;
      leased_once = turns.leased_once;
      fresh = λ t h.
          ⊎_elim (λ (old : has t never ≡ true). kept t ∙ turns.fresh t old)
          (λ (new : has t (s ∷ []) ≡ true). ap (last_lease G) (one-has t s new) ∙ last)
          (has-either t never (s ∷ []) h);
      waiting = λ t h. subst (λ (n : ℕ). 0 < n) (sym (kept t)) (turns.waiting t h);
      all = λ p there active.
          ⊎_elim
          (λ (before : Contains (openings H) p).
          ⊎_elim (λ (l : has p.search never ≡ true). inl (has-left p.search never (s ∷ []) l))
          (λ (r : has p.search leased ≡ true). inr r)
          (turns.all p before (sym (as_before p) ∙ active)))
          (λ (it : o ≡ p).
          inl (ap (λ (x : Opening). has x.search (never ++ s ∷ [])) (sym it) ∙ snoc-here s never))
          (opened-was H e o p is there);
      only = λ t h.
          let old : (has t never ≡ true) ⊎ (has t leased ≡ true) → IsOfActive G t =
          λ within. let a = turns.only t within in still-active H e t a (as_before a.opening ∙ a.active) in
          ⊎_elim
          (λ (l : has t (never ++ s ∷ []) ≡ true).
          ⊎_elim (λ (before : has t never ≡ true). old (inl before))
          (λ (new : has t (s ∷ []) ≡ true). record {
            opening = o;
            there = opened-now H e o is;
            numbered = sym (one-has t s new);
            active = active_now;
          })
          (has-either t never (s ∷ []) l))
          (λ (r : has t leased ≡ true). old (inr r)) h;
      never_by_turns =
          snoc-turns G s never (kept-turns H G never (λ t h. kept t) turns.never_by_turns)
          (λ t h. inr (kept t ∙ turns.fresh t h ∙ sym last, omega (arith, low t h)));
      leased_by_turns = kept-turns H G leased (λ t h. kept t) turns.leased_by_turns;
    }

-- the new search stands in neither part yet
absent-if : (H : List Entry) (s : ℕ) (never leased xs : List ℕ) → IsLegal H → AreTurns H never leased →
    length (openings H) + 1 ≡ s →
    (has s xs ≡ true → (has s never ≡ true) ⊎ (has s leased ≡ true)) → has s xs ≡ false
absent-if H s never leased xs legal turns next within =
    ⊎_elim
    (λ (h : has s xs ≡ true). absurd (omega (arith, next, active-below H s legal (turns.only s (within h)))))
    (λ (none : has s xs ≡ false). none)
    (cases_Bool (has s xs))

pub opened-struck : (H : List Entry) (e : Entry) (o : Opening) (never leased : List ℕ) → IsLegal H →
    IsLegal (H ++ e ∷ []) → AreTurns H never leased → opening_in e.what ≡ Some o →
    (strike o.search (never ++ o.search ∷ []) ≡ never) × (strike o.search leased ≡ leased)
opened-struck H e o never leased legal longer turns is =
    let next = next-number H e o (step-of H e legal longer) is in (
      strike-snoc o.search never (absent-if H o.search never leased never legal turns next (λ h. inl h)),
      strike-absent o.search leased (absent-if H o.search never leased leased legal turns next (λ h. inr h)),
    )

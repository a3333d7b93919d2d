-- The last entry of a history, that is taken away.
use Rattle.std.proofs.Common.{◌≡◌, ℕ, ◌+◌, ◌-◌, ◌<◌, List, [], ◌∷◌, ◌++◌, length, take, set, get_or, length-append, Contains, Some, None, refl, sym, ap, subst, ◌∙◌, arith, length-take-le, set-set}
use Rattle.std.proofs.Math.Seq.{take-append_seam}
use Rattle.std.proofs.lemmas.List.{set-get_or}
use Rattle.std.proofs.lemmas.List.Elements.{All-contains}
use Rattle.std.proofs.lemmas.Option.{none-some}
use Rattle.farm_entry.specs.History.{all_leases, cancelled_in, lease_of, opening_in, opening_numbered, openings, told_in}
use Rattle.farm_entry.specs.Legal.{IsLegal}
use Rattle.farm_entry.specs.declared.entry.Entry.{Entry}
use Rattle.farm_entry.specs.declared.entry.What.{What}
use Rattle.farm_entry.specs.declared.entry.What.TheVariants.{Founded, Opened, Leased, Reported, Skipped, Cancelled, Ordered, Carried, Closed}
use Rattle.farm_entry.specs.declared.lease.LeasedRun.{LeasedRun}
use Rattle.farm_entry.specs.declared.opening.Opening.{Opening}
use Rattle.farm_laws.specs.Openings.{HasOpening}
use Rattle.farm_laws.proofs.EntryParts.{cancelled-facts, told-facts}
use Rattle.farm_laws.proofs.Filters.{lease_of-stays, opening_numbered-stays}
use Rattle.farm_laws.proofs.Induct.{IsLegal-first, IsLegal-pushed}
use Rattle.farm_laws.proofs.Known.{leases-known}
use Rattle.farm_laws.proofs.Numbered.{lease-there, opening-found, opening-there}
use Rattle.farm_laws.proofs.Stepped.{stepped}
use Rattle.farm_books.proofs.Entries.{IsLast, last-of}
use Rattle.farm_laws.specs.Steps.{IsAbout}
use Rattle.search_state.specs.SearchView.{SearchView}
use Rattle.search_state.specs.Seen.{all_seen, seen}
use Rattle.search_state.proofs.AllStates.{set-seen}
use Rattle.search_state.proofs.Changes.{cancelled-not_opened}
use Rattle.farm_state.specs.Telling.{IsEnd, IsEndOf}
use Rattle.farm_state.proofs.Searches.{IsSearchOf, search-of_opening, search-state}

-- it may come next, after those before it
pub end-last : (H : List Entry) (e : Entry) → IsLegal H → 1 < length H → IsEnd H e → IsLast H (take (length H - 1) H) e
end-last H e legal some split =
    let n : ℕ = length H - 1 in
    let long : length (take n H) ≡ n = length-take-le n H (omega arith) in
    let whole : IsLegal (take n H ++ e ∷ []) = subst IsLegal split legal in
    let first : IsLegal (take n H) =
    IsLegal-first (take n H) (e ∷ []) (λ h. (let none : length (take n H) ≡ 0 = ap length h in
    absurd (omega (arith, none, long, some)))) whole in
    record { split = split; legal = first; step = stepped (take n H) e (IsLegal-pushed (take n H) e first whole) }

-- a search that was opened before is opened with it
pub search-after : (H G : List Entry) (e : Entry) (search : ℕ) → H ≡ G ++ e ∷ [] → (s : IsSearchOf G search) → IsLegal G →
    Contains (openings H) s.opening
search-after H G e search split s legal =
    let found = opening_numbered-stays G e s.opening.search s.opening (opening-found G s.opening legal s.there) in
    (opening-there H s.opening.search s.opening (ap (λ (X : List Entry). opening_numbered X s.opening.search) split ∙ found)).0

-- the states before an entry about a search: its own is as it was
pub popped-all : (H G : List Entry) (e : Entry) (search : ℕ) → IsLast H G e → (s : IsSearchOf G search) →
    opening_in e.what ≡ None → IsAbout G e.what search →
    set (all_seen H) (search - 1) (seen G s.opening) ≡ all_seen G
popped-all H G e search l s no_opening about =
    let o : Opening = s.opening in
    let k : ℕ = search - 1 in
    let place : o.search - 1 ≡ k = ap (λ (n : ℕ). n - 1) (sym s.same) in
    let more : all_seen (G ++ e ∷ []) ≡ set (all_seen G) (o.search - 1) (seen (G ++ e ∷ []) o) =
    set-seen G e o l.legal l.step s.there no_opening (subst (IsAbout G e.what) s.same about) in
    ap (λ (X : List Entry). set (all_seen X) k (seen G o)) l.split
    ∙ ap (λ (xs : List SearchView). set xs k (seen G o)) more
    ∙ ap (λ (n : ℕ). set (set (all_seen G) n (seen (G ++ e ∷ []) o)) k (seen G o)) place
    ∙ set-set (all_seen G) k (seen (G ++ e ∷ []) o) (seen G o)
    ∙ ap (set (all_seen G) k) (sym (search-state G search (seen G o) l.legal s))
    ∙ set-get_or (all_seen G) k (seen G o)

-- What is left.

pub last-on : (H G L : List Entry) (e : Entry) → IsLegal H → H ≡ G → 1 < length G → IsEnd G e → L ≡ take (length H - 1) H →
    IsLast H L e
last-on H G L e legal same some is left =
    subst (λ (X : List Entry). IsLast H X e) (sym left)
    (end-last H e legal (subst (λ (X : List Entry). 1 < length X) (sym same) some)
    (subst (λ (X : List Entry). IsEnd X e) (sym same) is))

-- where it opens a search, the states but the last
pub popped-end : (all before : List SearchView) (x : SearchView) (n : ℕ) → n ≡ length all → all ≡ before ++ x ∷ [] →
    take (n - 1) all ≡ before
popped-end all before x n count is =
    let long : length (before ++ x ∷ []) ≡ length before + 1 = length-append before (x ∷ []) in
    let less : n - 1 ≡ length before = omega (arith, long, count, ap length is) in
    ap (take (n - 1)) is
    ∙ ap (λ (n : ℕ). take n (before ++ x ∷ [])) less
    ∙ take-append_seam before (x ∷ [])

-- where it is about a search: that search, with the last entry and before it
pub record Left (H G : List Entry) (search : ℕ) : Type 0 where
  pub entry : Entry
  pub last : IsLast H G entry
  pub before : IsSearchOf G search
  pub now : IsSearchOf H search
  pub state : (d : SearchView) → get_or (all_seen H) (search - 1) d ≡ seen H before.opening
  pub all : set (all_seen H) (search - 1) (seen G before.opening) ≡ all_seen G

pub left-of : (H F G : List Entry) (search : ℕ) → IsLegal H → H ≡ F → 1 < length F → IsEndOf F search →
    G ≡ take (length H - 1) H → Left H G search
left-of H F G search legal same some is left =
    let e : Entry = is.last in
    let last : IsLast H G e = last-on H F G e legal same some is.is_last left in
    let there : G ≡ take (length F - 1) F = left ∙ ap (λ (X : List Entry). take (length X - 1) X) same in
    let before : IsSearchOf G search =
    search-of_opening G search (subst (λ (X : List Entry). HasOpening X search) (sym there) is.known) in
    let now : IsSearchOf H search =
    record {
      opening = before.opening;
      there = search-after H G e search last.split before last.legal;
      same = before.same;
    } in
    record {
      entry = e;
      last = last;
      before = before;
      now = now;
      state = λ d. search-state H search d legal now;
      all =
          popped-all H G e search last before is.opens_none
          (subst (λ (X : List Entry). IsAbout X e.what search) (sym there) is.about);
    }

-- An entry at the end, by its place.

pub end-at : (H L : List Entry) (e : Entry) (place : ℕ) → IsLegal H → 1 < length H → L ≡ H → place ≡ length L - 1 →
    e ≡ get_or L place e → IsLast H (take (length H - 1) H) e
end-at H L e place legal some same last at =
    let n : ℕ = length H - 1 in
    let here : place ≡ n = last ∙ ap (λ (X : List Entry). length X - 1) same in
    last-of H n e e legal some (omega (arith, some))
    (sym (at ∙ ap (λ (k : ℕ). get_or L k e) here ∙ ap (λ (X : List Entry). get_or X n e) same))

pub about-cancel : (H : List Entry) (w : What) (q : ℕ) → cancelled_in w ≡ Some q → IsAbout H w q
about-cancel H (Cancelled k x) q is = cc
about-cancel H (Founded x) q is = absurd (none-some q is)
about-cancel H (Opened o) q is = absurd (none-some q is)
about-cancel H (Leased k w n x t p d) q is = absurd (none-some q is)
about-cancel H (Reported run v _) q is = absurd (none-some q is)
about-cancel H (Skipped run _) q is = absurd (none-some q is)
about-cancel H (Ordered k a n c x d) q is = absurd (none-some q is)
about-cancel H (Carried c d) q is = absurd (none-some q is)
about-cancel H Closed q is = absurd (none-some q is)

pub about-told : (H : List Entry) (w : What) (run : ℕ) (l : LeasedRun) → told_in w ≡ Some run → lease_of H run ≡ Some l →
    IsAbout H w l.search
about-told H (Reported n v f) run l is known = let same : n ≡ run = cc in (l, ap (lease_of H) same ∙ known, refl)
about-told H (Skipped n f) run l is known = let same : n ≡ run = cc in (l, ap (lease_of H) same ∙ known, refl)
about-told H (Founded x) run l is known = absurd (none-some run is)
about-told H (Opened o) run l is known = absurd (none-some run is)
about-told H (Leased k w n q t p d) run l is known = absurd (none-some run is)
about-told H (Cancelled k q) run l is known = absurd (none-some run is)
about-told H (Ordered k a n c q d) run l is known = absurd (none-some run is)
about-told H (Carried c d) run l is known = absurd (none-some run is)
about-told H Closed run l is known = absurd (none-some run is)

told-not_opened : (w : What) (run : ℕ) → told_in w ≡ Some run → opening_in w ≡ None
told-not_opened (Reported n v _) run is = refl
told-not_opened (Skipped n _) run is = refl
told-not_opened (Founded x) run is = absurd (none-some run is)
told-not_opened (Opened o) run is = absurd (none-some run is)
told-not_opened (Leased k w n q t p d) run is = absurd (none-some run is)
told-not_opened (Cancelled k q) run is = absurd (none-some run is)
told-not_opened (Ordered k a n c q d) run is = absurd (none-some run is)
told-not_opened (Carried c d) run is = absurd (none-some run is)
told-not_opened Closed run is = absurd (none-some run is)

-- a cancellation at the end
pub end-cancels : (H : List Entry) (e : Entry) (q : ℕ) → IsLast H (take (length H - 1) H) e → cancelled_in e.what ≡ Some q →
    IsEndOf H q
end-cancels H e q l is =
    let facts = cancelled-facts (take (length H - 1) H) e.at e.what q is l.step in
    record {
      last = e;
      is_last = l.split;
      opens_none = cancelled-not_opened e.what q is;
      known = (facts.opening, facts.known);
      about = about-cancel (take (length H - 1) H) e.what q is;
    }

-- a report at the end: its run was handed out, to the search that the lease names
pub end-known : (H G : List Entry) (e : Entry) (run : ℕ) → IsLast H G e → told_in e.what ≡ Some run →
    (l : LeasedRun) × (lease_of G run ≡ Some l) × (lease_of H run ≡ Some l)
end-known H G e run l is =
    let facts = told-facts G e.at e.what run is l.step in (
      facts.lease,
      facts.known,
      ap (λ (X : List Entry). lease_of X run) l.split ∙ lease_of-stays G e run facts.lease facts.known,
    )

pub end-reports : (H : List Entry) (e : Entry) (run : ℕ) (l : LeasedRun) → IsLast H (take (length H - 1) H) e →
    told_in e.what ≡ Some run → lease_of H run ≡ Some l → IsEndOf H l.search
end-reports H e run l last is known =
    let G : List Entry = take (length H - 1) H in
    let it = end-known H G e run last is in
    let both : Some it.0 ≡ Some l = sym it.2 ∙ known in
    let same : it.0 ≡ l = cc in
    let before : lease_of G run ≡ Some l = it.1 ∙ ap Some same in
    record {
      last = e;
      is_last = last.split;
      opens_none = told-not_opened e.what run is;
      known =
          All-contains (λ (x : LeasedRun). HasOpening G x.search) (all_leases G) l (leases-known G last.legal)
          (lease-there G run l before).0;
      about = about-told G e.what run l is before;
    }

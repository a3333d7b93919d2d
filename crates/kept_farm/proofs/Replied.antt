-- The reply of an entry is made of what is kept: what came later changes none of it.
use Rattle.std.proofs.Common.{◌≡◌, ℕ, ◌+◌, ◌==◌, List, [], ◌∷◌, ◌++◌, length, find, take, drop, slice_get, Contains, Option, Some, refl, sym, ap, subst, ◌∙◌, arith, length-append}
use Rattle.std.specs.List.{cons_option}
use Rattle.std.specs.Option.{option_and_then, option_map, option_or, unwrap_or}
use Rattle.std.proofs.lemmas.List.{take-append-drop, take_more}
use Rattle.std.proofs.lemmas.List.Elements.{All-contains, Contains-push, filter_map-append}
use Rattle.std.proofs.lemmas.List.Folds.{find-append}
use Rattle.std.proofs.lemmas.Option.{get_or_from_slice_get, slice_get_within}
use Rattle.flake_rate.specs.Miss.{FitsRate}
use Rattle.farm_entry.specs.History.{all_leases, lease_in, lease_of, opening_in, opening_numbered, openings, told_in, told_runs}
use Rattle.farm_entry.specs.Legal.{IsLegal}
use Rattle.farm_entry.specs.Reply.{reply_at, reply_to}
use Rattle.farm_entry.specs.Reply as entry
use Rattle.farm_entry.specs.Standing.{standing}
use Rattle.farm_entry.specs.declared.entry.Entry.{Entry}
use Rattle.farm_entry.specs.declared.entry.What.{What}
use Rattle.farm_entry.specs.declared.entry.What.TheVariants.{Founded, Opened, Leased, Reported, Skipped, Cancelled, Ordered, Carried, Closed}
use Rattle.farm_entry.specs.declared.lease.LeasedRun.{LeasedRun}
use Rattle.farm_entry.specs.declared.lease.ReportedRun.{ReportedRun}
use Rattle.farm_entry.specs.declared.lease.SkippedRun.{SkippedRun}
use Rattle.farm_entry.specs.declared.opening.Opening.{Opening}
use Rattle.farm_entry.specs.declared.reply.Reply.TheVariants as reply
use Rattle.farm_entry.specs.declared.standing.Standing.{Standing}
use Rattle.farm_entry.specs.declared.standing.Standing.TheVariants.{Searching}
use Rattle.farm_entry.proofs.Growing.{all_leases-grow, openings-grow, told_runs-grow}
use Rattle.farm_laws.specs.Openings.{HasOpening}
use Rattle.farm_laws.proofs.Filters.{HasLease}
use Rattle.farm_laws.proofs.Induct.{IsLegal-first}
use Rattle.farm_laws.proofs.Known.{leases-known, told_runs-known}
use Rattle.farm_laws.proofs.Numbered.{lease-there}
use Rattle.farm_laws.proofs.OpenLimits.{open_within}
use Rattle.kept_farm.specs.Changes.{last_standing, search_in, standing_of}
use Rattle.kept_farm.specs.Replying.{reply_to_lease, reply_to_report, reply_to_skip, reply_with}
use Rattle.kept_farm.proofs.Counting.{last_standing-push, opened-found, standing-found}

-- What is known stays known.

opening-later : (G K : List Entry) (s : ℕ) (o : Opening) → opening_numbered G s ≡ Some o →
    opening_numbered (G ++ K) s ≡ Some o
opening-later G K s o h =
    ap (find (λ (x : Opening). x.search == s)) (filter_map-append (λ (e : Entry). opening_in e.what) G K)
    ∙ find-append (λ (x : Opening). x.search == s) (openings G) (openings K)
    ∙ ap (λ (x : Option Opening). option_or x (find (λ (x : Opening). x.search == s) (openings K))) h

lease-later : (G K : List Entry) (run : ℕ) (l : LeasedRun) → lease_of G run ≡ Some l → lease_of (G ++ K) run ≡ Some l
lease-later G K run l h =
    ap (find (λ (x : LeasedRun). x.run == run)) (filter_map-append (λ (e : Entry). lease_in e.what) G K)
    ∙ find-append (λ (x : LeasedRun). x.run == run) (all_leases G) (all_leases K)
    ∙ ap (λ (x : Option LeasedRun). option_or x (find (λ (x : LeasedRun). x.run == run) (all_leases K))) h

-- What the last entry speaks of.

-- the search of a lease
leased-search : (F : List Entry) (e : Entry) (l : LeasedRun) → IsLegal (F ++ e ∷ []) → lease_in e.what ≡ Some l →
    HasOpening (F ++ e ∷ []) l.search
leased-search F e l legal is =
    let there : Contains (all_leases (F ++ e ∷ [])) l =
    subst (λ (ls : List LeasedRun). Contains ls l)
    (sym (all_leases-grow F e ∙ ap (λ (x : Option LeasedRun). all_leases F ++ cons_option x []) is))
    (Contains-push (all_leases F) l) in
    All-contains (λ (x : LeasedRun). HasOpening (F ++ e ∷ []) x.search) (all_leases (F ++ e ∷ [])) l
    (leases-known (F ++ e ∷ []) legal) there

-- the lease of a report, with a verdict or not, and its search
told-lease : (F : List Entry) (e : Entry) (run : ℕ) → IsLegal (F ++ e ∷ []) → told_in e.what ≡ Some run →
    HasLease (F ++ e ∷ []) run
told-lease F e run legal is =
    let there : Contains (told_runs (F ++ e ∷ [])) run =
    subst (λ (runs : List ℕ). Contains runs run)
    (sym (told_runs-grow F e ∙ ap (λ (x : Option ℕ). told_runs F ++ cons_option x []) is))
    (Contains-push (told_runs F) run) in
    All-contains (λ (told : ℕ). HasLease (F ++ e ∷ []) told) (told_runs (F ++ e ∷ [])) run
    (told_runs-known (F ++ e ∷ []) legal) there

lease-search : (G : List Entry) (run : ℕ) (l : LeasedRun) → IsLegal G → lease_of G run ≡ Some l → HasOpening G l.search
lease-search G run l legal known =
    All-contains (λ (x : LeasedRun). HasOpening G x.search) (all_leases G) l (leases-known G legal)
    (lease-there G run l known).0

-- where its search stands
stood : (F : List Entry) (e : Entry) (n : ℕ) (o : Opening) → search_in (F ++ e ∷ []) e.what ≡ Some n →
    opening_numbered (F ++ e ∷ []) n ≡ Some o → last_standing (F ++ e ∷ []) ≡ standing (F ++ e ∷ []) o
stood F e n o is found =
    let G : List Entry = F ++ e ∷ [] in
    last_standing-push F e
    ∙ ap (λ (x : Option Standing). unwrap_or x Searching) (ap (standing_of G) is ∙ standing-found G n (Some o) found)

-- The reply to each kind of entry.
replied-as : (F K : List Entry) (e : Entry) (what : What) → IsLegal (F ++ e ∷ []) → e.what ≡ what →
    reply_with ((F ++ e ∷ []) ++ K) (last_standing (F ++ e ∷ [])) what ≡ reply_to (F ++ e ∷ []) what
replied-as F K e (Founded settings) legal is = refl
replied-as F K e (Opened o) legal is =
    let G : List Entry = F ++ e ∷ [] in
    let stands = stood F e o.search o (ap (search_in G) is) (opened-found F e o legal (ap opening_in is)) in
    ap (λ (s : Standing). reply_with (G ++ K) s (Opened o)) stands
replied-as F K e (Leased key worker run search stage position deadline) legal is =
    let G : List Entry = F ++ e ∷ [] in
    let l : LeasedRun =
    record { run = run; search = search; stage = stage; position = position; deadline = deadline } in
    let found = leased-search F e l legal (ap lease_in is) in
    ap (reply_to_lease l) (opening-later G K search found.0 found.1 ∙ sym found.1)
replied-as F K e (Reported run verdict ruled) legal is =
    let G : List Entry = F ++ e ∷ [] in
    let r : ReportedRun = record { run = run; verdict = verdict; fate = ruled } in
    let leased = told-lease F e run legal (ap told_in is) in
    let l : LeasedRun = leased.0 in
    let found = lease-search G run l legal leased.1 in
    let of_search : search_in G e.what ≡ Some l.search =
    ap (search_in G) is ∙ ap (option_map (λ (x : LeasedRun). x.search)) leased.1 in
    let stands = stood F e l.search found.0 of_search found.1 in
    ap (reply_to_report r (last_standing G)) (lease-later G K run l leased.1)
    ∙ ap (λ (s : Standing). reply_to_report r s (Some l)) stands
    ∙ sym (ap (option_map (λ (o : Opening). reply.Reported l.run l.search verdict ruled (standing G o))) found.1)
    ∙ sym (ap (option_and_then (entry.reply_to_report G verdict ruled)) leased.1)
replied-as F K e (Skipped run ruled) legal is =
    let G : List Entry = F ++ e ∷ [] in
    let r : SkippedRun = record { run = run; fate = ruled } in
    let leased = told-lease F e run legal (ap told_in is) in
    let l : LeasedRun = leased.0 in
    let found = lease-search G run l legal leased.1 in
    let of_search : search_in G e.what ≡ Some l.search =
    ap (search_in G) is ∙ ap (option_map (λ (x : LeasedRun). x.search)) leased.1 in
    let stands = stood F e l.search found.0 of_search found.1 in
    ap (reply_to_skip r (last_standing G)) (lease-later G K run l leased.1)
    ∙ ap (λ (s : Standing). reply_to_skip r s (Some l)) stands
    ∙ sym (ap (option_map (λ (o : Opening). reply.Skipped l.run l.search ruled (standing G o))) found.1)
    ∙ sym (ap (option_and_then (entry.reply_to_skip G ruled)) leased.1)
replied-as F K e (Cancelled key search) legal is = refl
replied-as F K e (Ordered key agent order commit search day) legal is = refl
replied-as F K e (Carried commit day) legal is = refl
replied-as F K e Closed legal is = refl

-- the beginning up to an entry and with it
pub front-at : (H : List Entry) (k : ℕ) (e : Entry) → slice_get H k ≡ Some e → take (k + 1) H ≡ take k H ++ e ∷ []
front-at H k e is =
    take_more H k e (slice_get_within H k e is)
    ∙ ap (λ (x : Entry). take k H ++ x ∷ []) (get_or_from_slice_get H k e e is)

-- and is legal
front-legal : (H : List Entry) (k : ℕ) (e : Entry) → IsLegal H → slice_get H k ≡ Some e → IsLegal (take k H ++ e ∷ [])
front-legal H k e legal is =
    let F : List Entry = take k H in
    let K : List Entry = drop (k + 1) H in
    let whole : (F ++ e ∷ []) ++ K ≡ H =
    ap (λ (X : List Entry). X ++ K) (sym (front-at H k e is)) ∙ take-append-drop (k + 1) H in
    IsLegal-first (F ++ e ∷ []) K (λ none. (let long : length (F ++ e ∷ []) ≡ 0 = ap length none in
    absurd (omega (arith, long, length-append F (e ∷ []))))) (subst IsLegal (sym whole) legal)

-- a search that it opens was opened within the limits
pub opened-fits : (H : List Entry) (k : ℕ) (e : Entry) (o : Opening) → IsLegal H → slice_get H k ≡ Some e →
    opening_in e.what ≡ Some o → FitsRate o.miss o.rate
opened-fits H k e o legal is opens =
    let F : List Entry = take k H in
    let there : Contains (openings (F ++ e ∷ [])) o =
    subst (λ (os : List Opening). Contains os o)
    (sym (openings-grow F e ∙ ap (λ (x : Option Opening). openings F ++ cons_option x []) opens))
    (Contains-push (openings F) o) in
    (open_within (F ++ e ∷ []) o (front-legal H k e legal is) there).miss

pub replied : (H : List Entry) (k : ℕ) (e : Entry) → IsLegal H → slice_get H k ≡ Some e →
    reply_with H (last_standing (take (k + 1) H)) e.what ≡ reply_at H k
replied H k e legal is =
    let F : List Entry = take k H in
    let K : List Entry = drop (k + 1) H in
    let G : List Entry = F ++ e ∷ [] in
    let front = front-at H k e is in
    let whole : G ++ K ≡ H = ap (λ (X : List Entry). X ++ K) (sym front) ∙ take-append-drop (k + 1) H in
    ap (λ (X : List Entry). reply_with H (last_standing X) e.what) front
    ∙ ap (λ (X : List Entry). reply_with X (last_standing G) e.what) (sym whole)
    ∙ replied-as F K e e.what (front-legal H k e legal is) refl
    ∙ ap (λ (X : List Entry). reply_to X e.what) (sym front)
    ∙ sym (ap (option_and_then (λ (x : Entry). reply_to (take (k + 1) H) x.what)) is)

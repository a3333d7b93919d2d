-- The steps by which a turn goes on from one caller to another keep the rule of the lock.
use Rattle.std.proofs.Common.{◌≡◌, ◌≢◌, ◌⊎◌, ◌++◌, ◌∷◌, [], Bool, List, Option, Some, None, ℕ, ◌<◌, length, take, get_or, set, ◌≤◌, arith, sym, refl, ap, ◌∙◌, subst, inl, inr, ⊎_elim, le_refl}
use Rattle.std.specs.Prelude.{IfSome}
use Rattle.std.proofs.lemmas.Option.{same_Some}
use mathlib.Core.Option.{some, none}
use lib.ListN.{get_elem?}
use lib.Seq.{set-get_or}
use Rattle.atomic_table.specs.Table.{State, Me, keeps, step, Allows, Splits, Joins}
use Rattle.atomic_table.proofs.Lists.{at_set, set_else, set_here, at_longer}
use Rattle.farm_entry.specs.declared.entry.Entry.{Entry}
use Rattle.common_types.specs.Prefix.{IsPrefix}
use Rattle.common_types.proofs.Prefixes.{IsPrefix-refl}
use Rattle.common_types.specs.Rows.{AreAmong, IsOlder}
use Rattle.common_types.specs.declared.row.Row.{Row}
use Rattle.common_types.proofs.Rows.{AreAmong-append, AreAmong-newest, AreAmong-older}
use Rattle.turn_lock.specs.Known.{AccountsFor, IsSettled}
use Rattle.turn_lock.specs.Places.{ArePlaces}
use Rattle.turn_lock.specs.Rule.{HasTicket, HasPlace, AreLent, AreOwned, ArePlacesApart, IsSeenBy, IsHome, IsOut, IsKept}
use Rattle.turn_lock.specs.Steps.{Notes, Meets}
use Rattle.turn_lock.specs.Views.{idle_again, no_stake, noted, spent, turn_alone, taken_over}
use Rattle.turn_lock.specs.declared.view.Home.{Home}
use Rattle.turn_lock.specs.declared.view.Stake.{Stake}
use Rattle.turn_lock.specs.declared.view.Taken.{Taken}
use Rattle.turn_lock.specs.declared.view.View.{View}
use Rattle.turn_lock.proofs.Keeps.{IsSomewhere-set, IsSomewhere-push, spent-knows, unmoved}
use Rattle.turn_lock.proofs.Loans.{AreLent-moved, AreLent-set, AreLent-two, Trades-moved}
use Rattle.turn_lock.proofs.Parts.{both_ways, AreTickets-same, AreTickets-push, ArePlacesApart-set, ArePlacesApart-recorded, Knows, IsSeenBy-knows, IsSeenBy-set, IsSeenBy-grown}
use Rattle.turn_lock.proofs.Stakes.{AreOwned-moved, AreOwned-set, AreOwned-turned, AreStakes-moved, AreStakes-set, AreStakes-two, OwnsAll-nothing, OwnsAll-same}
use Rattle.turn_lock.proofs.Rows.{at-end, at-lt-length, set-comm, set-snoc, Each-set, Each-set_else, Each-push, Some_seat-set, Some_seat-here, Apart-push_new}

module _ {T : Type 0} (entries : T → List Entry) (count : T → ℕ) (pending : T → List Entry) (log : T → List Row) where
  abbrev St : Type 0
  St = State (Option (Home T)) View

  abbrev Seat : Type 0
  Seat = Me (Option (Home T)) View

  abbrev table : List ℕ → List (mathlib.Core.Option.Option (Option (Home T))) → List View → St
  table words homes views = record { words = words; homes = homes; views = views }

  abbrev IsKeptIn : St → Type 0
  IsKeptIn = IsKept entries count pending log

  abbrev IsSomewhere : St → Type 0
  IsSomewhere s = IsHome entries count pending log s ⊎ IsOut s

  abbrev Joined : View → Type 0
  Joined v = IfSome v.joined (λ two. IsPrefix two.0 v.seen × IsPrefix two.1 v.seen)

  -- a seat took the value for which a number stands, if it took it
  abbrev Serves : ℕ → Taken → List Row → View → Type 0
  Serves served taken told v = (t : Taken) → v.taken ≡ Some t → (t ≡ taken) × HasTicket v served × (v.log ≡ told)

  -- the value stays where it is while what a seat knows changes and its turn doesn't
  IsSomewhere-same : (s : St) (id : ℕ) (v w : View) → get_elem? s.views id ≡ some v → v.ticket ≡ w.ticket
      → v.taken ≡ w.taken → v.log ≡ w.log
      → ((all : List Entry) (c : ℕ) (o : List Entry) (told : List Row) → IsSeenBy s.views all c o told
      → Knows w all c o told)
      → ((all o : List Entry) → AreOwned s.views all o → AreOwned (set s.views id w) all o)
      → IsSomewhere s → IsSomewhere (table s.words s.homes (set s.views id w))
  IsSomewhere-same s id v w at number turn logged sees owned where_it_is = ⊎_elim
      (λ (h : IsHome entries count pending log s).
      let r = sees (entries h.home.value) (count h.home.value) (pending h.home.value) (log h.home.value) h.seen in
      inl record {
        home = h.home;
        there = h.there;
        seen = IsSeenBy-set s.views (entries h.home.value) (count h.home.value) (pending h.home.value)
            (log h.home.value) id w r h.seen;
        owned = owned (entries h.home.value) (pending h.home.value) h.owned;
        nobody = Each-set s.views (λ u. u.taken ≡ None) id w h.nobody (sym turn ∙ h.nobody id v at);
      })
      (λ (o : IsOut s).
      let r = sees o.taken.entries o.taken.count o.taken.pending o.log o.seen in
      inr record {
        taken = o.taken;
        log = o.log;
        holder = Some_seat-set s.views (λ u. u.taken ≡ Some o.taken) id v w at (λ has. sym turn ∙ has) o.holder;
        seen = IsSeenBy-set s.views o.taken.entries o.taken.count o.taken.pending o.log id w r o.seen;
        owned = owned o.taken.entries o.taken.pending o.owned;
        served = Each-set s.views (Serves (get_or s.words 1 0) o.taken o.log) id w o.served
            (λ t has. let it = o.served id v at t (turn ∙ has) in (it.0, sym number ∙ it.1, sym logged ∙ it.2));
      })
      where_it_is

  noting : (s : St) (k : IsKeptIn s) (id : ℕ) (v : View) (now : List Entry) (own : List ℕ) (c : ℕ) (p : List Entry)
      (told : List Row) (o : IsOut s) → get_elem? s.views id ≡ some v → HasTicket v (get_or s.words 1 0)
      → IsPrefix o.taken.entries now
      → o.taken.count ≤ c → IsSettled (Some o.taken.pending) o.taken.count c p
      → ArePlaces (length o.taken.entries) (length now) own → IsOlder o.log told
      → (failed : Bool) → AccountsFor o.taken now p own failed → 0 < v.stake.parts
      → IsKeptIn (table s.words s.homes (set s.views id (noted now own c p told failed v)))
  noting s k id v now own c p told o at mine grown at_least settled places older failed goes has_part =
      let served : ℕ = get_or s.words 1 0 in
      let w : View = noted now own c p told failed v in
      let t : Taken = record { entries = now; count = c; pending = p } in
      record {
        words = k.words;
        tickets = AreTickets-same served (get_or s.words 0 0) s.views id v w at refl k.tickets;
        places = ArePlacesApart-recorded s.views id v w o.taken.entries now own at refl refl o.seen.seen grown places
            k.places;
        stakes = AreStakes-set s.views id v w at refl (λ bare. absurd (omega (arith, bare, has_part))) k.stakes;
        lent = AreLent-set s.views id v w at refl k.lent;
        value = inr record {
          taken = t;
          log = told;
          holder = Some_seat-here s.views (λ u. u.taken ≡ Some t) id v w at refl;
          seen = IsSeenBy-set s.views now c p told id w
              (record {
                begins = IsPrefix-refl now;
                at_most = le_refl c;
                settled = λ e _ _. same_Some p [] e;
                among = AreAmong-append (take 1 told) v.rows told (AreAmong-newest told)
                    (AreAmong-older v.rows o.log told older (o.seen.rows id v at));
              })
              (IsSeenBy-grown s.views o.taken.entries now o.taken.count c o.taken.pending p o.log told grown at_least
              settled older o.seen);
          owned = AreOwned-turned s.views id v w o.taken now p own failed at refl refl goes o.owned;
          served = Each-set_else s.views (Serves served t told) id w
              (λ i u ne a x has. absurd (ne (k.tickets.apart i id u v served a at (o.served i u a x has).1 mine)))
              (λ x has. (sym (same_Some t x has), mine, refl));
        };
        joined = Each-set s.views Joined id w k.joined tt;
      }

  -- note what the value stands for now
  pub notes : (id : ℕ) (v : View) (home : Home T) (t : Taken) → v.taken ≡ Some t
      → IsPrefix t.entries (take home.shown (entries home.value)) → t.count ≤ count home.value
      → IsSettled (Some t.pending) t.count (count home.value) (pending home.value)
      → ArePlaces (length t.entries) (length (take home.shown (entries home.value))) home.own
      → IsOlder v.log (log home.value)
      → AccountsFor t (take home.shown (entries home.value)) (pending home.value) home.own home.failed
      → 0 < v.stake.parts
      → Allows IsKeptIn 1 id (v, (0, Some home) ∷ []) 1 (λ n. n)
      (Notes entries count pending log (step 1 1 0 0 none) (v, (0, Some home) ∷ []))
  notes id v home t has grown at_least settled own told goes has_part s k one at fits = ⊎_elim
      (λ (h : IsHome entries count pending log s). absurd (both_ways v.taken t (h.nobody id v at) has))
      (λ (o : IsOut s).
      let it = o.served id v at t has in
      let now : List Entry = take home.shown (entries home.value) in
      let w : View = noted now home.own (count home.value) (pending home.value) (log home.value) home.failed v in (
        w,
        keeps,
        tt,
        subst (λ (ws : List ℕ). IsKeptIn (table ws s.homes (set s.views id w))) (sym (set-get_or s.words 1 0))
            (noting s k id v now home.own (count home.value) (pending home.value) (log home.value) o at it.1
            (subst (λ (x : Taken). IsPrefix x.entries now) it.0 grown)
            (subst (λ (x : Taken). x.count ≤ count home.value) it.0 at_least)
            (subst (λ (x : Taken). IsSettled (Some x.pending) x.count (count home.value) (pending home.value)) it.0
            settled)
            (subst (λ (x : Taken). ArePlaces (length x.entries) (length now) home.own) it.0 own)
            (subst (λ (l : List Row). IsOlder l (log home.value)) it.2 told) home.failed
            (subst (λ (x : Taken). AccountsFor x now (pending home.value) home.own home.failed) it.0 goes) has_part),
        (home, refl, refl),
      ))
      k.value

  -- what a seat knows goes to a new one, and its turn stays
  pub leaves : (id : ℕ) (v : View) → Splits IsKeptIn id v (turn_alone v) (idle_again v)
  leaves id v s k at =
      let u : View = turn_alone v in
      let w : View = idle_again v in
      let views : List View = set s.views id u in
      let in_both : get_elem? (s.views ++ w ∷ []) id ≡ some v = at_longer s.views (w ∷ []) id v at in
      record {
        words = k.words;
        tickets = AreTickets-push (get_or s.words 1 0) (get_or s.words 0 0) views w refl
            (AreTickets-same (get_or s.words 1 0) (get_or s.words 0 0) s.views id v u at refl k.tickets);
        places = record {
          within = Each-push views (λ x. ArePlaces 0 (length x.seen) x.mine) w
              (Each-set s.views (λ x. ArePlaces 0 (length x.seen) x.mine) id u k.places.within tt)
              (k.places.within id v at);
          apart = Apart-push_new views HasPlace w
              (ArePlacesApart-set s.views id v u at tt (λ n one. absurd one) k.places).apart
              (λ n i x had a one. ⊎_elim
              (λ (e : (i ≡ id) × (u ≡ x)). subst (λ (y : View). HasPlace y n) (sym e.1) one)
              (λ (e : (i ≢ id) × (get_elem? s.views i ≡ some x)). e.0 (k.places.apart i id x v n e.1 at one had))
              (at_set s.views id i u x a));
        };
        stakes = AreStakes-moved s.views id v u w at (omega arith) (λ _. (refl, refl)) (k.stakes.backed id v at)
            k.stakes;
        lent = AreLent-moved s.views id v u w at
            (Trades-moved v spent u w (k.lent.lenders id v at) refl refl refl) k.lent;
        value = subst (λ (vs : List View). IsSomewhere (table s.words s.homes vs))
            (set-snoc s.views id u w (at-lt-length s.views id v at))
            (IsSomewhere-same (table s.words s.homes (s.views ++ w ∷ [])) id v u in_both refl refl refl
            (λ all c o told _. spent-knows entries count pending log all c o told)
            (λ all o. AreOwned-moved (s.views ++ w ∷ []) all o id (length s.views) v u w in_both (at-end s.views w)
            (λ e. let lt = at-lt-length s.views id v at in omega (arith, lt, e)) (OwnsAll-same v w refl refl))
            (IsSomewhere-push entries count pending log s w refl
            (λ all c o told sees. IsSeenBy-knows s.views all c o told id v at sees) k.value));
        joined = Each-push views Joined w (Each-set s.views Joined id u k.joined tt) tt;
      }

  -- the places of the seat that takes over a turn move with it
  moved_places : (s : St) (k : IsKeptIn s) (id other : ℕ) (v w : View) → get_elem? s.views id ≡ some v
      → get_elem? s.views other ≡ some w → other ≢ id
      → ArePlacesApart (set (set s.views other spent) id (taken_over v w))
  moved_places s k id other v w at there ne =
      ArePlacesApart-set (set s.views other spent) id v (taken_over v w)
      (set_else s.views other id spent (λ e. ne (sym e)) ∙ at)
      (k.places.within other w there)
      (λ n theirs. inr (λ i u a had. ⊎_elim
      (λ (e : (i ≡ other) × (spent ≡ u)). subst (λ (x : View). HasPlace x n) (sym e.1) had)
      (λ (e : (i ≢ other) × (get_elem? s.views i ≡ some u)). e.0 (k.places.apart i other u w n e.1 there had theirs))
      (at_set s.views other i spent u a)))
      (ArePlacesApart-set s.views other w spent there tt (λ n one. absurd one) k.places)

  -- another seat takes over a turn
  pub takes_over : (id : ℕ) (v : View) (other : ℕ) (w : View) → w ≡ idle_again w → v.mine ≡ [] → v.stake ≡ no_stake
      → Joins IsKeptIn id v other w (taken_over v w) spent
  takes_over id v other w idles bare nothing s k at ne there_then =
      let b : View = taken_over v w in
      let views : List View = set s.views id b in
      let there : get_elem? s.views other ≡ some w = sym (set_else s.views id other b ne) ∙ there_then in
      record {
        words = k.words;
        tickets = AreTickets-same (get_or s.words 1 0) (get_or s.words 0 0) views other w spent there_then
            (ap (λ (x : View). x.ticket) idles)
            (AreTickets-same (get_or s.words 1 0) (get_or s.words 0 0) s.views id v b at refl k.tickets);
        places = subst (λ (vs : List View). ArePlacesApart vs) (set-comm s.views other id spent b ne)
            (moved_places s k id other v w at there ne);
        stakes =
            let no_parts : v.stake.parts ≡ 0 = ap (λ (t : Stake). t.parts) nothing in
            AreStakes-two s.views id other v w b spent (λ e. ne (sym e)) at there (omega (arith, no_parts))
            (k.stakes.backed other w there) (λ _. (refl, refl)) k.stakes;
        lent = subst (λ (vs : List View). AreLent vs) (set-comm s.views other id spent b ne)
            (AreLent-two s.views other id w v spent b ne there at
            (Trades-moved w v spent b (k.lent.lenders other w there) refl (ap (λ (t : Stake). t.lending) nothing) refl)
            k.lent);
        value = IsSomewhere-set entries count pending log (table s.words s.homes views) s.words other w spent there_then
            (ap (λ (x : View). x.taken) idles) refl refl
            (λ all c o told _. spent-knows entries count pending log all c o told)
            (λ all o. AreOwned-moved views all o other id w spent b there_then
            (set_here s.views id b (at-lt-length s.views id v at)) (λ e. ne (sym e)) (OwnsAll-same w b refl refl))
            (IsSomewhere-same s id v b at refl refl refl
            (λ all c o told sees. record {
              begins = sees.seen other w there;
              at_most = sees.faults other w there;
              settled = sees.settled other w there;
              among = sees.rows other w there;
            })
            (λ all o. AreOwned-set s.views all o id v b at
            (OwnsAll-nothing v b bare (ap (λ (t : Stake). t.undecided) nothing))) k.value);
        joined = Each-set views Joined other spent
            (Each-set s.views Joined id b k.joined (k.joined other w there)) tt;
      }

  -- the seat that took over a turn is told how what it has seen goes with what the turn began with
  pub meets : (id : ℕ) (m : Seat) (t : Taken) → m.0.taken ≡ Some t
      → Allows IsKeptIn 1 id m 1 (λ n. n) (Meets (step 1 1 0 0 none) m)
  meets id m t has s k one at fits = ⊎_elim
      (λ (h : IsHome entries count pending log s). absurd (both_ways m.0.taken t (h.nobody id m.0 at) has))
      (λ (o : IsOut s).
      let v : View = m.0 in
      let it : o.taken ≡ t = sym (o.served id v at t has).0 in (
        v,
        keeps,
        tt,
        unmoved entries count pending log s k 1 id m at,
        (
          record {
            taken = t;
            is = has;
            seen = subst (λ (x : Taken). IsPrefix v.seen x.entries) it (o.seen.seen id v at);
            faults = subst (λ (x : Taken). v.faults ≤ x.count) it (o.seen.faults id v at);
            settled = subst (λ (x : Taken). IsSettled v.pending v.faults x.count x.pending) it
                (o.seen.settled id v at);
            places = k.places.within id v at;
            rows = subst (λ (l : List Row). AreAmong v.rows l) (sym (o.served id v at t has).2) (o.seen.rows id v at);
          },
          refl,
        ),
      ))
      k.value

-- What the books ask of the entry that is added, or taken away, and what they are then.
use Rattle.std.proofs.Common.{◌≡◌, ℕ, zero, suc, ◌+◌, ◌<◌, ◌≤◌, true, false, List, [], ◌∷◌, ◌++◌, length, take, get_or, Option, Some, None, refl, sym, ap, subst, ◌∙◌, arith, length-append}
use Rattle.std.specs.FinMap.{get}
use Rattle.std.specs.Option.{IfSome}
use Rattle.std.proofs.lemmas.List.{length-take-le}
use Rattle.farm_types.specs.declared.key.Key.{Key}
use Rattle.search_books.specs.Leases.{Held}
use Rattle.farm_entry.specs.History.{all_leases, key_in, lease_in, told_in}
use Rattle.farm_entry.specs.Legal.{IsLegal}
use Rattle.farm_entry.specs.declared.entry.Entry.{Entry}
use Rattle.farm_entry.specs.declared.lease.LeasedRun.{LeasedRun}
use Rattle.farm_laws.proofs.EntryParts.{leased-facts, told-facts}
use Rattle.farm_laws.proofs.Filters.{HasLease, lease_of-stays}
use Rattle.farm_laws.proofs.Induct.{IsLegal-first, IsLegal-pushed}
use Rattle.farm_laws.proofs.Stepped.{Stepped, stepped}
use Rattle.farm_books.specs.BooksInside.{AreBooks}
use Rattle.farm_books.specs.Kept.{AreKeys, AreLeases, AreReports, Places, booked, with_key, with_lease, with_mark, with_report, without_key, without_lease, without_report}
use Rattle.farm_books.specs.declared.books.Books.TheInside.{Inside}
use Rattle.farm_books.proofs.Bookings.{lease-low, leases-count, leases-pop, leases-push, marked-length, more-leases}
use Rattle.farm_books.proofs.Lookups.{key-there, keys-pop, keys-push, report-there, reports-pop, reports-push}

-- An entry that is added.

-- it may come next
pub entry-steps : (H G : List Entry) (e : Entry) → IsLegal H → H ≡ G → IsLegal (G ++ e ∷ []) → Stepped H e.at e.what
entry-steps H G e legal same longer =
    stepped H e (IsLegal-pushed H e legal (subst (λ (X : List Entry). IsLegal (X ++ e ∷ [])) (sym same) longer))

-- its key stands nowhere
pub key-absent : (H : List Entry) (e : Entry) (keys : Places) (part : Option Key) → AreKeys H keys →
    Stepped H e.at e.what → part ≡ key_in e.what → IfSome part (λ k. get keys k.0 ≡ None)
key-absent H e keys None are step is = tt
key-absent H e keys (Some k) are step is = are k ∙ step.fresh k (sym is)

-- its run has no report
pub report-absent : (H : List Entry) (e : Entry) (runs : Places) (part : Option ℕ) → AreReports H runs →
    Stepped H e.at e.what → part ≡ told_in e.what → IfSome part (λ told. get runs told ≡ None)
report-absent H e runs None are step is = tt
report-absent H e runs (Some told) are step is = are told ∙ (told-facts H e.at e.what told (sym is) step).first

-- its lease has the next number
pub lease-next : (H : List Entry) (e : Entry) (helds : List Held) (part : Option LeasedRun) → AreLeases H helds →
    Stepped H e.at e.what → part ≡ lease_in e.what → IfSome part (λ l. l.run ≡ length helds + 1)
lease-next H e helds None are step is = tt
lease-next H e helds (Some l) are step is =
    (leased-facts H e.at e.what l (sym is) step).number ∙ ap (λ (n : ℕ). n + 1) (sym (leases-count H helds are))

-- its report is of a run that was handed out
pub report-known : (H : List Entry) (e : Entry) (helds : List Held) (part : Option ℕ) (n : ℕ) → IsLegal H →
    AreLeases H helds → Stepped H e.at e.what → part ≡ told_in e.what → length helds ≤ n →
    IfSome part (λ told. (0 < told) × (told ≤ n))
report-known H e helds None n legal are step is long = tt
report-known H e helds (Some told) n legal are step is long =
    let facts = told-facts H e.at e.what told (sym is) step in
    let low = lease-low H told legal (facts.lease, facts.known) in
    (omega (arith, low.0), omega (arith, low.1, long, leases-count H helds are))

pub with_lease-long : (helds : List Held) (part : Option LeasedRun) →
    length helds ≤ length (with_lease helds part)
with_lease-long helds None = omega arith
with_lease-long helds (Some l) =
    let long : length (helds ++ booked l ∷ []) ≡ length helds + 1 = length-append helds (booked l ∷ []) in
    omega (arith, long)

-- the books with it
pub pushed-books : (s t : Inside) (e : Entry) (place : ℕ) → AreBooks s → Stepped s.entries.items e.at e.what →
    IsLegal (s.entries.items ++ e ∷ []) → place ≡ length s.entries.items →
    t.entries.items ≡ s.entries.items ++ e ∷ [] → t.inbox.keys ≡ with_key s.inbox.keys (key_in e.what) place →
    t.inbox.runs ≡ with_report s.inbox.runs (told_in e.what) place →
    t.leases.leases ≡ with_mark true (with_lease s.leases.leases (lease_in e.what)) (told_in e.what) → AreBooks t
pushed-books s t e place b step longer at entries keys runs leases =
    let H : List Entry = s.entries.items in
    let more = sym entries in
    record {
      legal = subst IsLegal more longer;
      keys =
          subst (λ (X : List Entry). AreKeys X t.inbox.keys) more
          (subst (AreKeys (H ++ e ∷ [])) (sym (keys ∙ ap (with_key s.inbox.keys (key_in e.what)) at))
          (keys-push H e s.inbox.keys b.keys step.fresh));
      reports =
          subst (λ (X : List Entry). AreReports X t.inbox.runs) more
          (subst (AreReports (H ++ e ∷ [])) (sym (runs ∙ ap (with_report s.inbox.runs (told_in e.what)) at))
          (reports-push H e s.inbox.runs b.reports (λ told is. (told-facts H e.at e.what told is step).first)));
      leases =
          subst (λ (X : List Entry). AreLeases X t.leases.leases) more
          (subst (AreLeases (H ++ e ∷ [])) (sym leases) (leases-push H e s.leases.leases b.legal step b.leases));
    }

-- The last entry, that is taken away.

pub record IsLast (H G : List Entry) (e : Entry) : Type 0 where
  pub split : H ≡ G ++ e ∷ []
  pub legal : IsLegal G
  pub step : Stepped G e.at e.what

split-at : {X : Type 0} (xs : List X) (n : ℕ) (d : X) → n + 1 ≡ length xs → xs ≡ take n xs ++ get_or xs n d ∷ []
split-at [] n d h = absurd (omega (arith, h))
split-at (x ∷ []) zero d h = refl
split-at (x ∷ y ∷ xs) zero d h = absurd (omega (arith, h))
split-at (x ∷ xs) (suc n) d h = ap (λ l. x ∷ l) (split-at xs n d (omega (arith, h)))

pub last-of : (H : List Entry) (n : ℕ) (e d : Entry) → IsLegal H → 1 < length H → n + 1 ≡ length H → get_or H n d ≡ e →
    IsLast H (take n H) e
last-of H n e d legal some last at =
    let split : H ≡ take n H ++ e ∷ [] = split-at H n d last ∙ ap (λ (x : Entry). take n H ++ x ∷ []) at in
    let long : length (take n H) ≡ n = length-take-le n H (omega (arith, last)) in
    let whole : IsLegal (take n H ++ e ∷ []) = subst IsLegal split legal in
    let first : IsLegal (take n H) =
    IsLegal-first (take n H) (e ∷ []) (λ h. (let none : length (take n H) ≡ 0 = ap length h in
    absurd (omega (arith, none, long, last, some)))) whole in
    record { split = split; legal = first; step = stepped (take n H) e (IsLegal-pushed (take n H) e first whole) }

-- its key is there
pub key-present : (H G : List Entry) (e : Entry) (keys : Places) (part : Option Key) → IsLast H G e → AreKeys H keys →
    part ≡ key_in e.what → IfSome part (λ k. (place : ℕ) × (get keys k.0 ≡ Some place))
key-present H G e keys None l are is = tt
key-present H G e keys (Some k) l are is =
    (length G, key-there G e keys k (subst (λ (X : List Entry). AreKeys X keys) l.split are) (sym is) (l.step.fresh k (sym is)))

pub report-present : (H G : List Entry) (e : Entry) (runs : Places) (part : Option ℕ) → IsLast H G e →
    AreReports H runs → part ≡ told_in e.what → IfSome part (λ told. (place : ℕ) × (get runs told ≡ Some place))
report-present H G e runs None l are is = tt
report-present H G e runs (Some told) l are is = (
  length G,
  report-there G e runs told (subst (λ (X : List Entry). AreReports X runs) l.split are) (sym is)
      (told-facts G e.at e.what told (sym is) l.step).first,
)

-- its report is of a run that was handed out
pub report-booked : (H G : List Entry) (e : Entry) (helds : List Held) (part : Option ℕ) → IsLegal H →
    IsLast H G e → AreLeases H helds → part ≡ told_in e.what → IfSome part (λ told. (0 < told) × (told ≤ length helds))
report-booked H G e helds None legal l are is = tt
report-booked H G e helds (Some told) legal l are is =
    let facts = told-facts G e.at e.what told (sym is) l.step in
    let known : HasLease (G ++ e ∷ []) told =
    (facts.lease, lease_of-stays G e told facts.lease facts.known) in
    let low = lease-low H told legal (subst (λ (X : List Entry). HasLease X told) (sym l.split) known) in
    (omega (arith, low.0), omega (arith, low.1, leases-count H helds are))

-- its lease is there
pub lease-present : (H G : List Entry) (e : Entry) (helds more : List Held) (part : Option LeasedRun) (report : Option ℕ) →
    IsLast H G e → AreLeases H helds → part ≡ lease_in e.what → more ≡ with_mark false helds report →
    IfSome part (λ x. 0 < length more)
lease-present H G e helds more None report l are is marks = tt
lease-present H G e helds more (Some x) report l are is marks =
    let all : all_leases H ≡ all_leases G ++ x ∷ [] = ap all_leases l.split ∙ more-leases G e x (sym is) in
    let long : length (all_leases G ++ x ∷ []) ≡ length (all_leases G) + 1 = length-append (all_leases G) (x ∷ []) in
    omega (arith, ap length marks, marked-length false helds report, leases-count H helds are, ap length all, long)

-- the books without it
pub popped-books : (s t : Inside) (G : List Entry) (e : Entry) → AreBooks s → IsLast s.entries.items G e →
    t.entries.items ≡ G → t.inbox.keys ≡ without_key s.inbox.keys (key_in e.what) →
    t.inbox.runs ≡ without_report s.inbox.runs (told_in e.what) →
    t.leases.leases ≡ without_lease (with_mark false s.leases.leases (told_in e.what)) (lease_in e.what) → AreBooks t
popped-books s t G e b l entries keys runs leases =
    let less = sym entries in
    record {
      legal = subst IsLegal less l.legal;
      keys =
          subst (λ (X : List Entry). AreKeys X t.inbox.keys) less
          (subst (AreKeys G) (sym keys)
          (keys-pop G e s.inbox.keys (subst (λ (X : List Entry). AreKeys X s.inbox.keys) l.split b.keys) l.step.fresh));
      reports =
          subst (λ (X : List Entry). AreReports X t.inbox.runs) less
          (subst (AreReports G) (sym runs)
          (reports-pop G e s.inbox.runs (subst (λ (X : List Entry). AreReports X s.inbox.runs) l.split b.reports)
          (λ told is. (told-facts G e.at e.what told is l.step).first)));
      leases =
          subst (λ (X : List Entry). AreLeases X t.leases.leases) less
          (subst (AreLeases G) (sym leases)
          (leases-pop G e s.leases.leases l.legal l.step
          (subst (λ (X : List Entry). AreLeases X s.leases.leases) l.split b.leases)));
    }

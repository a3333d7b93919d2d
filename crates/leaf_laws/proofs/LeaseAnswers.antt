-- What a farm says of a lease is so, and stays so.
use Rattle.std.proofs.Common.{◌≡◌, ◌+◌, ◌==◌, ℕ, List, [], ◌∷◌, ◌++◌, find, drop, take, slice_get, Option, Some, None, refl, sym, ap, subst, ◌∙◌, take-append-drop}
use Rattle.std.specs.List.{filter_map}
use Rattle.std.specs.Option.{option_and_then, option_map, option_or}
use Rattle.std.proofs.lemmas.List.Elements.{Contains-append_left, filter_map-append}
use Rattle.std.proofs.lemmas.List.Folds.{find-append}
use Rattle.std.proofs.lemmas.Option.{none-some, same_Some}
use Rattle.weight_exact.specs.declared.run.Verdict.{Verdict}
use Rattle.worker_core.specs.declared.tested.Tested.{Tested}
use Rattle.farm_types.specs.declared.key.Key.{Key}
use Rattle.farm_types.specs.declared.stage.Stage.{Stage}
use Rattle.farm_entry.specs.History.{lease_in, lease_of, opening_in, opening_numbered, openings}
use Rattle.farm_entry.specs.Legal.{IsLegal}
use Rattle.farm_entry.specs.Reply.{reply_at, reply_to, reply_to_report, reply_to_skip}
use Rattle.farm_entry.specs.Setup.{commit_of}
use Rattle.farm_entry.specs.declared.entry.Entry.{Entry}
use Rattle.farm_entry.specs.declared.entry.Fate.{Fate}
use Rattle.farm_entry.specs.declared.entry.SkipFate.{SkipFate}
use Rattle.farm_entry.specs.declared.entry.What.{What}
use Rattle.farm_entry.specs.declared.entry.What.TheVariants.{Founded, Opened, Leased, Reported, Skipped, Cancelled, Ordered, Carried, Closed}
use Rattle.farm_entry.specs.declared.lease.LeasedRun.{LeasedRun}
use Rattle.farm_entry.specs.declared.opening.Opening.{Opening}
use Rattle.farm_entry.specs.declared.reply.Reply.{Reply}
use Rattle.farm_entry.specs.declared.reply.Reply.TheVariants as reply
use Rattle.farm_laws.proofs.Filters.{lease_of-stays, opening_numbered-stays}
use Rattle.farm_laws.proofs.Lists.{filter_map-at}
use Rattle.farm_laws.proofs.Numbered.{lease-found}
use Rattle.leaf_laws.specs.Given.{IsGiven}
use Rattle.leaf_laws.specs.Workers.{lease_in_answer}
use Rattle.leaf_laws.specs.World.{LeaseAnswer, Made, replied}

-- a lease answer tells the test and the commit of the run that it names
pub record IsTrueLease (H : List Entry) (a : LeaseAnswer) : Type 0 where
  pub lease : LeasedRun
  pub leased : lease_of H a.run ≡ Some lease
  pub search : Opening
  pub opened : opening_numbered H lease.search ≡ Some search
  pub test : a.test ≡ search.test
  pub commit : a.commit ≡ commit_of search lease.position

pub true-stays : (H : List Entry) (e : Entry) (a : LeaseAnswer) → IsTrueLease H a → IsTrueLease (H ++ e ∷ []) a
true-stays H e a is = record {
  lease = is.lease;
  leased = lease_of-stays H e a.run is.lease is.leased;
  search = is.search;
  opened = opening_numbered-stays H e is.lease.search is.search is.opened;
  test = is.test;
  commit = is.commit;
}

pub given-stays : (H : List Entry) (e : Entry) (made : List Made) (run : ℕ) (t : Tested) → IsGiven H made run t →
    IsGiven (H ++ e ∷ []) made run t
given-stays H e made run t is = record {
  lease = is.lease;
  leased = lease_of-stays H e run is.lease is.leased;
  search = is.search;
  opened = opening_numbered-stays H e is.lease.search is.search is.opened;
  given = is.given;
}

pub given-more : (H : List Entry) (made more : List Made) (run : ℕ) (t : Tested) → IsGiven H made run t →
    IsGiven H (made ++ more) run t
given-more H made more run t is = record {
  lease = is.lease;
  leased = is.leased;
  search = is.search;
  opened = is.opened;
  given = Contains-append_left made more _ is.given;
}

-- Replies.

-- the lease in a reply, if it is there and is one
abbrev pub lease_in_reply : Option Reply → Option LeaseAnswer
lease_in_reply None = None
lease_in_reply (Some r) = lease_in_answer (replied r)

-- what is known of a search at a beginning of a history is known of it later
opened-later : (G K : List Entry) (s : ℕ) (o : Opening) → opening_numbered G s ≡ Some o → opening_numbered (G ++ K) s ≡ Some o
opened-later G K s o h =
    ap (find (λ (x : Opening). x.search == s)) (filter_map-append (λ (e : Entry). opening_in e.what) G K)
    ∙ find-append (λ (x : Opening). x.search == s) (openings G) (filter_map (λ (e : Entry). opening_in e.what) K)
    ∙ ap (λ (x : Option Opening). option_or x (find (λ (y : Opening). y.search == s) (filter_map (λ (e : Entry). opening_in e.what) K))) h

opened-at : (H : List Entry) (n s : ℕ) (o : Opening) → opening_numbered (take n H) s ≡ Some o → opening_numbered H s ≡ Some o
opened-at H n s o h =
    subst (λ (G : List Entry). opening_numbered G s ≡ Some o) (take-append-drop n H) (opened-later (take n H) (drop n H) s o h)

-- the reply that is made of a value that may be there, where each such reply tells no lease
mapped-untold : {X : Type 0} (make : X → Reply) → ((x : X) → lease_in_answer (replied (make x)) ≡ None) → (o : Option X) →
    lease_in_reply (option_map make o) ≡ None
mapped-untold make none None = refl
mapped-untold make none (Some x) = none x

report-untold : (H : List Entry) (v : Verdict) (fate : Fate) (l : Option LeasedRun) →
    lease_in_reply (option_and_then (reply_to_report H v fate) l) ≡ None
report-untold H v _ None = refl
report-untold H v _ (Some l) = mapped-untold _ (λ o. refl) (opening_numbered H l.search)

skip-untold : (H : List Entry) (fate : SkipFate) (l : Option LeasedRun) →
    lease_in_reply (option_and_then (reply_to_skip H fate) l) ≡ None
skip-untold H _ None = refl
skip-untold H _ (Some l) = mapped-untold _ (λ o. refl) (opening_numbered H l.search)

-- the lease that an entry records, as its reply tells it by the history up to it
record IsTold (G : List Entry) (w : What) (a : LeaseAnswer) : Type 0 where
  lease : LeasedRun
  recorded : lease_in w ≡ Some lease
  run : lease.run ≡ a.run
  search : Opening
  opened : opening_numbered G lease.search ≡ Some search
  test : a.test ≡ search.test
  commit : a.commit ≡ commit_of search lease.position

lease-told : (G : List Entry) (key : Key) (worker : List ℕ) (run s : ℕ) (stage : Stage) (position deadline : ℕ) (o : Option Opening) →
    opening_numbered G s ≡ o → (a : LeaseAnswer) →
    lease_in_reply (option_map (λ x. reply.Leased run s stage position (commit_of x position) x.test deadline) o) ≡ Some a →
    IsTold G (Leased key worker run s stage position deadline) a
lease-told G key worker run s stage position deadline None known a is = absurd (none-some a is)
lease-told G key worker run s stage position deadline (Some o) known a is =
    let told : LeaseAnswer = record { run = run; test = o.test; commit = commit_of o position } in
    let same : told ≡ a = same_Some told a is in
    subst (IsTold G (Leased key worker run s stage position deadline)) same (record {
      lease = record { run = run; search = s; stage = stage; position = position; deadline = deadline };
      recorded = refl;
      run = refl;
      search = o;
      opened = known;
      test = refl;
      commit = refl;
    })

entry-told : (G : List Entry) (w : What) (a : LeaseAnswer) → lease_in_reply (reply_to G w) ≡ Some a → IsTold G w a
entry-told G (Founded settings) a is = absurd (none-some a is)
entry-told G (Opened o) a is = absurd (none-some a is)
entry-told G (Leased key worker run s stage position deadline) a is =
    lease-told G key worker run s stage position deadline (opening_numbered G s) refl a is
entry-told G (Reported run v fate) a is = absurd (none-some a (sym (report-untold G v fate (lease_of G run)) ∙ is))
entry-told G (Skipped run fate) a is = absurd (none-some a (sym (skip-untold G fate (lease_of G run)) ∙ is))
entry-told G (Cancelled key s) a is = absurd (none-some a is)
entry-told G (Ordered key agent order commit s day) a is = absurd (none-some a is)
entry-told G (Carried commit day) a is = absurd (none-some a is)
entry-told G Closed a is = absurd (none-some a is)

at-true : (H : List Entry) (place : ℕ) (a : LeaseAnswer) (o : Option Entry) → IsLegal H → slice_get H place ≡ o →
    lease_in_reply (option_and_then (λ (e : Entry). reply_to (take (place + 1) H) e.what) o) ≡ Some a → IsTrueLease H a
at-true H place a None legal there is = absurd (none-some a is)
at-true H place a (Some e) legal there is =
    let told = entry-told (take (place + 1) H) e.what a is in
    let l = told.lease in
    let stands = filter_map-at (λ (x : Entry). lease_in x.what) H place e l there told.recorded in
    record {
      lease = l;
      leased = subst (λ (run : ℕ). lease_of H run ≡ Some l) told.run (lease-found H l legal stands);
      search = told.search;
      opened = opened-at H (place + 1) l.search told.search told.opened;
      test = told.test;
      commit = told.commit;
    }

-- the reply of an entry tells the truth of its lease
pub reply-true : (H : List Entry) (place : ℕ) (a : LeaseAnswer) → IsLegal H → lease_in_reply (reply_at H place) ≡ Some a →
    IsTrueLease H a
reply-true H place a legal is = at-true H place a (slice_get H place) legal refl is

-- What a report of the caller comes to.
use Rattle.std.proofs.Common.{◌≡◌, ℕ, ◌==◌, nat_le, Bool, true, false, ◌||◌, List, [], ◌∷◌, ◌++◌, length, position, Contains, Option, Some, None, refl, sym, ap, subst, ◌∙◌, ⊎_elim, append-nil, arith}
use Rattle.std.specs.List.{cons_option, list_any}
use Rattle.std.proofs.Math.Bool.{or-true}
use Rattle.std.proofs.lemmas.Bool.{cases_Bool}
use Rattle.std.proofs.lemmas.Bool.Decides.{nat_tests}
use Rattle.farm_types.specs.declared.key.Key.{Key}
use Rattle.farm_types.specs.declared.moment.Moment.{Moment}
use Rattle.weight_exact.specs.declared.run.Verdict.{Verdict}
use Rattle.farm_entry.specs.Decision.{decide, fate_of, moment_used, report_decision}
use Rattle.farm_entry.specs.History.{all_leases, has_key, is_closed, is_of_run, is_report_of, is_reported, lease_of, opening_numbered, place_of_key, place_of_report, told_in, told_runs}
use Rattle.farm_entry.specs.Legal.{IsLegal}
use Rattle.farm_entry.specs.Playing.{after}
use Rattle.farm_entry.specs.declared.command.Command.TheVariants.{Report}
use Rattle.farm_entry.specs.declared.decision.Decision.{Decision}
use Rattle.farm_entry.specs.declared.decision.Decision.TheVariants.{Refuse, Repeat}
use Rattle.farm_entry.specs.declared.entry.Entry.{Entry}
use Rattle.farm_entry.specs.declared.entry.What.TheVariants.{Reported}
use Rattle.farm_entry.specs.declared.lease.LeasedRun.{LeasedRun}
use Rattle.farm_entry.specs.declared.limits.TheConstants.{MAX_ENTRIES}
use Rattle.farm_entry.specs.declared.refusal.Refusal.{Refusal}
use Rattle.farm_entry.specs.declared.refusal.Refusal.TheVariants.{Full}
use Rattle.farm_entry.specs.declared.reply.Reply.{Reply}
use Rattle.farm_entry.proofs.Growing.{all_leases-grow}
use Rattle.farm_laws.proofs.Numbered.{lease-found}
use Rattle.farm_entry.specs.Answer.{IsAnswer}
use Rattle.farm_entry.specs.declared.answer.Answer.TheVariants as answer
use Rattle.farm_drill.specs.Asked.{IsDone, IsRefused}
use Rattle.farm_drill.specs.Ends.{IsFull}
use Rattle.farm_drill.proofs.Lists.{any-append, any-from_none, any-none}
use Rattle.farm_drill.proofs.Leases.{full-is}

-- Whether a run is reported, entry by entry.

one-report : (run : ℕ) (o : Option ℕ) (runs : List ℕ)
    → list_any (λ (told : ℕ). told == run) (cons_option o runs)
    ≡ (is_of_run run o || list_any (λ (told : ℕ). told == run) runs)
one-report run None runs = refl
one-report run (Some told) runs = refl

pub reported-any : (run : ℕ) (H : List Entry) → is_reported H run ≡ list_any (is_report_of run) H
reported-any run [] = refl
reported-any run (e ∷ H) =
    one-report run (told_in e.what) (told_runs H)
    ∙ ap (λ (b : Bool). is_of_run run (told_in e.what) || b) (reported-any run H)

-- what is reported stays so
pub reported-stays : (run : ℕ) (H more : List Entry) → is_reported H run ≡ true → is_reported (H ++ more) run ≡ true
reported-stays run H more is =
    reported-any run (H ++ more) ∙ any-append (is_report_of run) H more
    ∙ ap (λ (b : Bool). b || list_any (is_report_of run) more) (sym (reported-any run H) ∙ is)

pub reported-last : (run : ℕ) (H : List Entry) (e : Entry) → is_report_of run e ≡ true
    → is_reported (H ++ e ∷ []) run ≡ true
reported-last run H e is =
    reported-any run (H ++ e ∷ []) ∙ any-append (is_report_of run) H (e ∷ [])
    ∙ ap (λ (b : Bool). list_any (is_report_of run) H || (b || false)) is ∙ or-true (list_any (is_report_of run) H)

-- an entry at a place reports the run
placed : (run place : ℕ) (H : List Entry) → position (is_report_of run) H ≡ Some place
    → list_any (is_report_of run) H ≡ true
placed run place H at =
    ⊎_elim (λ (there : list_any (is_report_of run) H ≡ true). there)
    (λ (none : list_any (is_report_of run) H ≡ false).
    let both : Some place ≡ None = sym at ∙ any-none (is_report_of run) H none in cc both)
    (cases_Bool (list_any (is_report_of run) H))

-- The decision on a report.

report-again : (H : List Entry) (run : ℕ) (v : Verdict) (at : Moment) (place : ℕ) → place_of_report H run ≡ Some place
    → decide H (Report run v) at ≡ Repeat place
report-again H run v at place there = rw there refl

report-own : (H : List Entry) (run : ℕ) (v : Verdict) (at : Moment) → place_of_report H run ≡ None
    → nat_le MAX_ENTRIES (length H) ≡ false → is_closed H ≡ false
    → decide H (Report run v) at ≡ report_decision H run v (moment_used H at) (lease_of H run)
report-own H run v at none room unclosed = rw (none, room, unclosed) refl

report-full : (H : List Entry) (run : ℕ) (v : Verdict) (at : Moment) → place_of_report H run ≡ None
    → nat_le MAX_ENTRIES (length H) ≡ true → decide H (Report run v) at ≡ Refuse Full
report-full H run v at none full = rw (none, full) refl

-- the run is reported, and no run was handed out and no key taken
pub record IsReportedThen (H : List Entry) (run : ℕ) (new : List Entry) : Type 0 where
  pub reported : is_reported new run ≡ true
  pub leases : all_leases new ≡ all_leases H
  pub keys : (key : Key) → place_of_key H key ≡ None → place_of_key new key ≡ None

-- an entry without a key takes none
keyless : (H : List Entry) (e : Entry) (key : Key) → has_key key e ≡ false → place_of_key H key ≡ None
    → place_of_key (H ++ e ∷ []) key ≡ None
keyless H e key other none =
    any-none (has_key key) (H ++ e ∷ [])
    (any-append (has_key key) H (e ∷ [])
    ∙ ap (λ (b : Bool). b || (has_key key e || false)) (any-from_none (has_key key) H none)
    ∙ ap (λ (b : Bool). b || false) other)

reported-new : (H : List Entry) (l : LeasedRun) (v : Verdict) (m : Moment) (new : List Entry)
    → new ≡ after H (report_decision H l.run v m (Some l)) → IsReportedThen H l.run new
reported-new H l v m new is =
    let e : Entry = record { at = m; what = Reported l.run v (fate_of H l v (opening_numbered H l.search)) } in
    let same : l.run == l.run ≡ true = grind (arith, nat_tests) in
    let there : is_reported (H ++ e ∷ []) l.run ≡ true = reported-last l.run H e same in
    let leases : all_leases (H ++ e ∷ []) ≡ all_leases H = all_leases-grow H e ∙ append-nil (all_leases H) in
    record {
      reported = ap (λ (G : List Entry). is_reported G l.run) is ∙ there;
      leases = ap all_leases is ∙ leases;
      keys = λ key none. ap (λ (G : List Entry). place_of_key G key) is ∙ keyless H e key refl none;
    }

done-again : (H : List Entry) (run place : ℕ) (new : List Entry) → place_of_report H run ≡ Some place → new ≡ H
    → IsReportedThen H run new
done-again H run place new at is =
    record {
      reported = ap (λ (G : List Entry). is_reported G run) is ∙ reported-any run H ∙ placed run place H at;
      leases = ap all_leases is;
      keys = λ key none. ap (λ (G : List Entry). place_of_key G key) is ∙ none;
    }

report-by : (H : List Entry) (l : LeasedRun) (v : Verdict) (at : Moment) (r : Reply) (new : List Entry) (p : Option ℕ)
    → is_closed H ≡ false → place_of_report H l.run ≡ p → lease_of H l.run ≡ Some l → IsDone H (Report l.run v) at r new
    → IsReportedThen H l.run new
report-by H l v at r new (Some place) unclosed is leased done =
    done-again H l.run place new is (done.history ∙ ap (after H) (report-again H l.run v at place is))
report-by H l v at r new None unclosed is leased done =
    ⊎_elim
    (λ (full : nat_le MAX_ENTRIES (length H) ≡ true).
    absurd (subst (λ (d : Decision). IsAnswer H d (answer.Done r)) (report-full H l.run v at is full) done.answers))
    (λ (room : nat_le MAX_ENTRIES (length H) ≡ false).
    reported-new H l v (moment_used H at) new
    (done.history
    ∙ ap (after H) (report-own H l.run v at is room unclosed
    ∙ ap (report_decision H l.run v (moment_used H at)) leased)))
    (cases_Bool (nat_le MAX_ENTRIES (length H)))

pub report-done : (H : List Entry) (l : LeasedRun) (v : Verdict) (at : Moment) (r : Reply) (new : List Entry)
    → IsLegal H → is_closed H ≡ false
    → Contains (all_leases H) l → IsDone H (Report l.run v) at r new → IsReportedThen H l.run new
report-done H l v at r new legal unclosed there done =
    report-by H l v at r new (place_of_report H l.run) unclosed refl (lease-found H l legal there) done

refused-by : (H : List Entry) (l : LeasedRun) (v : Verdict) (at : Moment) (cause : Refusal) (p : Option ℕ) → IsLegal H
    → is_closed H ≡ false → place_of_report H l.run ≡ p → lease_of H l.run ≡ Some l → decide H (Report l.run v) at ≡ Refuse cause → IsFull H
refused-by H l v at cause (Some place) legal unclosed is leased refused =
    let both : Repeat place ≡ Refuse cause = sym (report-again H l.run v at place is) ∙ refused in cc both
refused-by H l v at cause None legal unclosed is leased refused =
    ⊎_elim
    (λ (full : nat_le MAX_ENTRIES (length H) ≡ true). full-is H legal unclosed full)
    (λ (room : nat_le MAX_ENTRIES (length H) ≡ false).
    let both : report_decision H l.run v (moment_used H at) (Some l) ≡ Refuse cause =
    sym (report-own H l.run v at is room unclosed ∙ ap (report_decision H l.run v (moment_used H at)) leased) ∙ refused in
    cc both)
    (cases_Bool (nat_le MAX_ENTRIES (length H)))

pub report-refused : (H : List Entry) (l : LeasedRun) (v : Verdict) (at : Moment) (cause : Refusal) (new : List Entry)
    → IsLegal H → is_closed H ≡ false → Contains (all_leases H) l → IsRefused H (Report l.run v) at cause new → IsFull H
report-refused H l v at cause new legal unclosed there refused =
    refused-by H l v at cause (place_of_report H l.run) legal unclosed refl (lease-found H l legal there) refused.decided

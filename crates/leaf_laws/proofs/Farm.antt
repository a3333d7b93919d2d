-- Each command that the farm takes keeps what holds of a world.
use Rattle.std.proofs.Common.{◌≡◌, ℕ, Bool, true, false, List, [], ◌∷◌, ◌++◌, All, length, slice_get, if◌then◌else◌, Option, Some, None, refl, sym, ap, subst, ◌∙◌}
use Rattle.std.specs.List.{cons_option}
use Rattle.std.specs.Option.{option_map}
use Rattle.std.proofs.lemmas.List.Elements.{All-append, All-cons, All-nil, All-weaker}
use Rattle.std.proofs.lemmas.Option.{none-some, same_Some}
use Rattle.farm_types.specs.declared.commit_id.CommitId.{CommitId}
use Rattle.farm_types.specs.declared.moment.Moment.{Moment}
use Rattle.farm_entry.specs.Closing.{may_carry, may_close}
use Rattle.farm_entry.specs.Decision.{decide}
use Rattle.farm_entry.specs.History.{report_in, reports, skip_in, skips}
use Rattle.farm_entry.specs.Legal.{IsLegal, IsNext}
use Rattle.farm_entry.specs.Playing.{after}
use Rattle.farm_entry.specs.Reply.{reply_at}
use Rattle.farm_entry.specs.declared.command.Command.{Command}
use Rattle.farm_entry.specs.declared.command.Command.TheVariants as command
use Rattle.farm_entry.specs.declared.decision.Decision.{Decision}
use Rattle.farm_entry.specs.declared.decision.Decision.TheVariants.{New, Refuse, Repeat, Show}
use Rattle.farm_entry.specs.declared.entry.Entry.{Entry}
use Rattle.farm_entry.specs.declared.entry.What.TheVariants.{Carried, Closed}
use Rattle.farm_entry.specs.declared.lease.ReportedRun.{ReportedRun}
use Rattle.farm_entry.specs.declared.lease.SkippedRun.{SkippedRun}
use Rattle.farm_entry.specs.declared.reply.Reply.{Reply}
use Rattle.farm_entry.proofs.Growing.{reports-grow, skips-grow}
use Rattle.farm_laws.proofs.Induct.{IsLegal-push}
use Rattle.leaf_laws.proofs.Played.{decided-legal}
use Rattle.worker_core.specs.declared.tested.Tested.TheVariants.{Untestable, Verdict}
use Rattle.leaf_laws.specs.Given.{IsGiven}
use Rattle.leaf_laws.specs.Happenings.{Reach, answer_to, answered, decides, farm_is_asked, farm_takes, is_report, nothing_appended, nothing_sent, said_of, unasked}
use Rattle.leaf_laws.specs.Workers.{lease_in_answer}
use Rattle.leaf_laws.specs.World.{LeaseAnswer, Made, Request, Said, SentAnswer, Worker, World, refused, replied}
use Rattle.leaf_laws.proofs.Decided.{IsPlain, decide-plain}
use Rattle.leaf_laws.proofs.LeaseAnswers.{given-stays, lease_in_reply, reply-true}
use Rattle.leaf_laws.proofs.Sound.{IsBacked, IsHonest, IsSound, IsTruthful, backed-stays, got, honest-stays, truthful-stays}

-- What is answered.

-- the lease in what is said is that in the reply
said-reply : (o : Option Reply) (said : Said) (a : LeaseAnswer) → option_map replied o ≡ Some said → lease_in_answer said ≡ Some a →
    lease_in_reply o ≡ Some a
said-reply None said a is tells = absurd (none-some said is)
said-reply (Some r) said a is tells = ap lease_in_answer (same_Some (replied r) said is) ∙ tells

said-true : (H : List Entry) (q : Command) (d : Decision) (said : Said) → IsLegal (after H d) → IsPlain q d →
    said_of H d ≡ Some said → IsTruthful (after H d) said
said-true H q (Refuse cause) said legal plain is a tells =
    absurd (none-some a (ap lease_in_answer (same_Some (refused cause) said is) ∙ tells))
said-true H q (Repeat place) said legal plain is a tells =
    reply-true H place a legal (said-reply (reply_at H place) said a is tells)
said-true H q (Show page) said legal plain is a tells =
    absurd (none-some a (sym plain ∙ ap lease_in_answer (same_Some (replied page) said is) ∙ tells))
said-true H q (New e) said legal plain is a tells =
    reply-true (H ++ e ∷ []) (length H) a legal (said-reply (reply_at (H ++ e ∷ []) (length H)) said a is tells)

sent-true : (G : List Entry) (to : ℕ) (o : Option Said) → ((said : Said) → o ≡ Some said → IsTruthful G said) →
    All (λ (a : SentAnswer). IsTruthful G a.said) (answer_to to o)
sent-true G to None so = All-nil (λ (a : SentAnswer). IsTruthful G a.said)
sent-true G to (Some said) so =
    All-cons (λ (a : SentAnswer). IsTruthful G a.said) (record { to = to; said = said }) [] (so said refl)
    (All-nil (λ (a : SentAnswer). IsTruthful G a.said))

-- What is recorded.

-- what holds of the report of an entry, if it has one, holds of the list of it
optional : {X : Type 0} (P : X → Type 0) (o : Option X) → ((x : X) → o ≡ Some x → P x) → All P (cons_option o [])
optional P None h = All-nil P
optional P (Some x) h = All-cons P x [] (h x refl) (All-nil P)

-- one entry more, which reports nothing but what a runner said
more-sound : (world : World) (e : Entry) → IsSound world → IsLegal (world.history ++ e ∷ []) →
    ((r : ReportedRun) → report_in e.what ≡ Some r → IsGiven world.history world.made r.run (Verdict r.verdict)) →
    ((s : SkippedRun) → skip_in e.what ≡ Some s → IsGiven world.history world.made s.run Untestable) →
    IsSound (record {
      history = world.history ++ e ∷ [];
      workers = world.workers;
      requests = world.requests;
      answers = world.answers;
      made = world.made;
    })
more-sound world e sound legal given untestable =
    let H = world.history in
    let G = H ++ e ∷ [] in
    let made = world.made in
    let P : ReportedRun → Type 0 = λ r. IsGiven G made r.run (Verdict r.verdict) in
    let old : All P (reports H) =
    All-weaker (λ (r : ReportedRun). IsGiven H made r.run (Verdict r.verdict)) P
    (λ r is. given-stays H e made r.run (Verdict r.verdict) is) (reports H) sound.reported in
    let new : All P (cons_option (report_in e.what) []) =
    optional P (report_in e.what) (λ r is. given-stays H e made r.run (Verdict r.verdict) (given r is)) in
    let S : SkippedRun → Type 0 = λ s. IsGiven G made s.run Untestable in
    let old_said : All S (skips H) =
    All-weaker (λ (s : SkippedRun). IsGiven H made s.run Untestable) S
    (λ s is. given-stays H e made s.run Untestable is) (skips H) sound.said in
    let new_said : All S (cons_option (skip_in e.what) []) =
    optional S (skip_in e.what) (λ s is. given-stays H e made s.run Untestable (untestable s is)) in
    record {
      legal = legal;
      reported = subst (All P) (sym (reports-grow H e)) (All-append P (reports H) (cons_option (report_in e.what) []) old new);
      said = subst (All S) (sym (skips-grow H e))
          (All-append S (skips H) (cons_option (skip_in e.what) []) old_said new_said);
      requested =
          All-weaker (λ (r : Request). IsBacked H made r.command) (λ (r : Request). IsBacked G made r.command)
          (λ r is. backed-stays H e made r.command is) world.requests sound.requested;
      answered =
          All-weaker (λ (a : SentAnswer). IsTruthful H a.said) (λ (a : SentAnswer). IsTruthful G a.said)
          (λ a is. truthful-stays H e a.said is) world.answers sound.answered;
      staffed =
          All-weaker (λ (w : Worker). IsHonest H made w) (λ (w : Worker). IsHonest G made w)
          (λ w is. honest-stays H e made w is) world.workers sound.staffed;
    }

after-sound : (world : World) (q : Command) (d : Decision) → IsSound world → IsLegal (after world.history d) → IsPlain q d →
    IsBacked world.history world.made q →
    IsSound (record {
      history = after world.history d;
      workers = world.workers;
      requests = world.requests;
      answers = world.answers;
      made = world.made;
    })
after-sound world q (Refuse cause) sound legal plain backed = sound
after-sound world q (Repeat place) sound legal plain backed = sound
after-sound world q (Show page) sound legal plain backed = sound
after-sound world q (New e) sound legal plain backed =
    more-sound world e sound legal
    (λ r is. backed r.run (Verdict r.verdict) (plain.0 r is)) (λ s is. backed s.run Untestable (plain.1 s is))

decides-sound : (world : World) (sender : ℕ) (q : Command) (d : Decision) (reach : Reach) → IsSound world →
    IsLegal (after world.history d) → IsPlain q d → IsBacked world.history world.made q → IsSound (decides world sender d reach)
decides-sound world sender q d nothing_appended sound legal plain backed = sound
decides-sound world sender q d nothing_sent sound legal plain backed = after-sound world q d sound legal plain backed
decides-sound world sender q d answered sound legal plain backed =
    let next = after-sound world q d sound legal plain backed in
    let G = after world.history d in
    record {
      legal = next.legal;
      reported = next.reported;
      said = next.said;
      requested = next.requested;
      answered = All-append (λ (a : SentAnswer). IsTruthful G a.said) world.answers
          (answer_to sender (said_of world.history d)) next.answered
          (sent-true G sender (said_of world.history d) (λ said is. said-true world.history q d said legal plain is));
      staffed = next.staffed;
    }

asked-sound : (world : World) (sender : ℕ) (q : Command) (m : Moment) (reach : Reach) → IsSound world →
    IsBacked world.history world.made q → IsSound (decides world sender (decide world.history q m) reach)
asked-sound world sender q m reach sound backed =
    decides-sound world sender q (decide world.history q m) reach sound (decided-legal world.history q m sound.legal)
    (decide-plain world.history q m) backed

takes-at : (world : World) (place : ℕ) (m : Moment) (reach : Reach) → IsSound world → (o : Option Request) →
    slice_get world.requests place ≡ o → IsSound (farm_takes world o m reach)
takes-at world place m reach sound None there = sound
takes-at world place m reach sound (Some r) there =
    asked-sound world r.sender r.command m reach sound
    (got (λ (x : Request). IsBacked world.history world.made x.command) world.requests place r sound.requested there)

pub takes-sound : (world : World) (place : ℕ) (m : Moment) (reach : Reach) → IsSound world →
    IsSound (farm_takes world (slice_get world.requests place) m reach)
takes-sound world place m reach sound = takes-at world place m reach sound (slice_get world.requests place) refl

-- a command that isn't a report has nothing to be backed
unreported : (H : List Entry) (made : List Made) (q : Command) → is_report q ≡ false → IsBacked H made q
unreported H made q other run (Verdict v) is =
    let both : is_report (command.Report run v) ≡ false = ap is_report (sym is) ∙ other in absurd cc
unreported H made q other run Untestable is =
    let both : is_report (command.Skip run) ≡ false = ap is_report (sym is) ∙ other in absurd cc

asked-at : (world : World) (sender : ℕ) (q : Command) (m : Moment) (reach : Reach) → IsSound world → (b : Bool) →
    is_report q ≡ b → IsSound (if b then world else decides world sender (decide world.history q m) reach)
asked-at world sender q m reach sound true is = sound
asked-at world sender q m reach sound false is =
    asked-sound world sender q m reach sound (unreported world.history world.made q is)

pub is_asked-sound : (world : World) (sender : ℕ) (q : Command) (m : Moment) (reach : Reach) → IsSound world →
    IsSound (farm_is_asked world sender q m reach)
is_asked-sound world sender q m reach sound = asked-at world sender q m reach sound (is_report q) refl

-- Entries that no command adds.

unasked-sound : (world : World) (may : Bool) (e : Entry) → IsSound world → (may ≡ true → IsNext world.history e) →
    report_in e.what ≡ None → skip_in e.what ≡ None → IsSound (unasked world may e)
unasked-sound world true e sound next untold unsaid =
    more-sound world e sound (IsLegal-push world.history e sound.legal (next refl))
    (λ r is. absurd (none-some r (sym untold ∙ is))) (λ s is. absurd (none-some s (sym unsaid ∙ is)))
unasked-sound world false e sound next untold unsaid = sound

pub carries-sound : (world : World) (m : Moment) (commit : CommitId) (day : ℕ) → IsSound world →
    IsSound (unasked world (may_carry world.history m commit day) (record { at = m; what = Carried commit day }))
carries-sound world m commit day sound =
    unasked-sound world (may_carry world.history m commit day) (record { at = m; what = Carried commit day }) sound
    (λ may. may) refl refl

pub closes-sound : (world : World) (m : Moment) → IsSound world →
    IsSound (unasked world (may_close world.history m) (record { at = m; what = Closed }))
closes-sound world m sound =
    unasked-sound world (may_close world.history m) (record { at = m; what = Closed }) sound (λ may. may) refl refl

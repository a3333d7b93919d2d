-- What holds of a world after anything happened.
use Rattle.std.proofs.Common.{◌≡◌, ℕ, zero, suc, List, [], ◌∷◌, ◌++◌, All, slice_get, Some, subst}
use Rattle.std.proofs.lemmas.List.Elements.{All-head, All-tail, All-weaker}
use Rattle.std.proofs.lemmas.Option.{none-some, same_Some}
use Rattle.farm_entry.specs.History.{reports, skips}
use Rattle.farm_entry.specs.Legal.{IsLegal}
use Rattle.farm_entry.specs.declared.command.Command.{Command}
use Rattle.farm_entry.specs.declared.entry.Entry.{Entry}
use Rattle.farm_entry.specs.declared.lease.ReportedRun.{ReportedRun}
use Rattle.farm_entry.specs.declared.lease.SkippedRun.{SkippedRun}
use Rattle.worker_core.specs.declared.action.Action.TheVariants.{RunTest, SendReport}
use Rattle.worker_core.specs.declared.tested.Tested.{Tested}
use Rattle.worker_core.specs.declared.tested.Tested.TheVariants.{Untestable, Verdict}
use Rattle.leaf_laws.specs.Given.{IsGiven}
use Rattle.leaf_laws.specs.Workers.{lease_in_answer, report_of}
use Rattle.leaf_laws.specs.World.{LeaseAnswer, Made, Request, Said, SentAnswer, Worker, World}
use Rattle.leaf_laws.proofs.LeaseAnswers.{IsTrueLease, given-more, given-stays, true-stays}

-- a command that reports a run reports what a runner said
abbrev pub IsBacked : List Entry → List Made → Command → Type 0
IsBacked H made q = (run : ℕ) (t : Tested) → q ≡ report_of run t → IsGiven H made run t

-- a lease in an answer is so
abbrev pub IsTruthful : List Entry → Said → Type 0
IsTruthful H said = (a : LeaseAnswer) → lease_in_answer said ≡ Some a → IsTrueLease H a

-- a worker's lease is so, it runs the test of that lease's run, and it reports what a runner said
pub record IsHonest (H : List Entry) (made : List Made) (w : Worker) : Type 0 where
  pub lease : (a : LeaseAnswer) → w.lease ≡ Some a → IsTrueLease H a
  pub runs : (run : ℕ) → w.core.last ≡ Some (RunTest run) → (a : LeaseAnswer) × (w.lease ≡ Some a) × (a.run ≡ run)
  pub reports : (run : ℕ) (t : Tested) → w.core.last ≡ Some (SendReport run t) → IsGiven H made run t

pub record IsSound (world : World) : Type 0 where
  pub legal : IsLegal world.history
  pub reported : All (λ (r : ReportedRun). IsGiven world.history world.made r.run (Verdict r.verdict))
      (reports world.history)
  pub said : All (λ (s : SkippedRun). IsGiven world.history world.made s.run Untestable) (skips world.history)
  pub requested : All (λ (r : Request). IsBacked world.history world.made r.command) world.requests
  pub answered : All (λ (a : SentAnswer). IsTruthful world.history a.said) world.answers
  pub staffed : All (λ (w : Worker). IsHonest world.history world.made w) world.workers

-- what holds of all members holds of the one at a place
pub got : {X : Type 0} (P : X → Type 0) (xs : List X) (i : ℕ) (x : X) → All P xs → slice_get xs i ≡ Some x → P x
got P [] i x all there = absurd (none-some x there)
got P (y ∷ xs) zero x all there = subst P (same_Some y x there) (All-head P y xs all)
got P (y ∷ xs) (suc i) x all there = got P xs i x (All-tail P y xs all) there

-- One entry more, and one run more that a runner made.

pub backed-stays : (H : List Entry) (e : Entry) (made : List Made) (q : Command) → IsBacked H made q →
    IsBacked (H ++ e ∷ []) made q
backed-stays H e made q is run t reports = given-stays H e made run t (is run t reports)

pub backed-more : (H : List Entry) (made more : List Made) (q : Command) → IsBacked H made q → IsBacked H (made ++ more) q
backed-more H made more q is run t reports = given-more H made more run t (is run t reports)

pub truthful-stays : (H : List Entry) (e : Entry) (said : Said) → IsTruthful H said → IsTruthful (H ++ e ∷ []) said
truthful-stays H e said is a tells = true-stays H e a (is a tells)

pub honest-stays : (H : List Entry) (e : Entry) (made : List Made) (w : Worker) → IsHonest H made w →
    IsHonest (H ++ e ∷ []) made w
honest-stays H e made w is = record {
  lease = λ a has. true-stays H e a (is.lease a has);
  runs = is.runs;
  reports = λ run t last. given-stays H e made run t (is.reports run t last);
}

pub honest-more : (H : List Entry) (made more : List Made) (w : Worker) → IsHonest H made w → IsHonest H (made ++ more) w
honest-more H made more w is = record {
  lease = is.lease;
  runs = is.runs;
  reports = λ run t last. given-more H made more run t (is.reports run t last);
}

-- a world in which a runner made one run more
pub made-more : (world : World) (more : List Made) → IsSound world →
    IsSound (record {
      history = world.history;
      workers = world.workers;
      requests = world.requests;
      answers = world.answers;
      made = world.made ++ more;
    })
made-more world more sound =
    let H = world.history in
    let made = world.made in
    record {
      legal = sound.legal;
      reported =
          All-weaker (λ (r : ReportedRun). IsGiven H made r.run (Verdict r.verdict))
          (λ (r : ReportedRun). IsGiven H (made ++ more) r.run (Verdict r.verdict))
          (λ r is. given-more H made more r.run (Verdict r.verdict) is) (reports H) sound.reported;
      said =
          All-weaker (λ (s : SkippedRun). IsGiven H made s.run Untestable)
          (λ (s : SkippedRun). IsGiven H (made ++ more) s.run Untestable)
          (λ s is. given-more H made more s.run Untestable is) (skips H) sound.said;
      requested =
          All-weaker (λ (r : Request). IsBacked H made r.command) (λ (r : Request). IsBacked H (made ++ more) r.command)
          (λ r is. backed-more H made more r.command is) world.requests sound.requested;
      answered = sound.answered;
      staffed =
          All-weaker (λ (w : Worker). IsHonest H made w) (λ (w : Worker). IsHonest H (made ++ more) w)
          (λ w is. honest-more H made more w is) world.workers sound.staffed;
    }

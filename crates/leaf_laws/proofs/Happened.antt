-- Whatever happens keeps what holds of a world, from its founding on.
use Rattle.std.proofs.Common.{ℕ, List, [], ◌∷◌}
use Rattle.std.proofs.lemmas.List.Elements.{All-map, All-nil}
use Rattle.farm_types.specs.declared.moment.Moment.{Moment}
use Rattle.farm_entry.specs.declared.entry.What.TheVariants.{Founded}
use Rattle.farm_entry.specs.declared.lease.ReportedRun.{ReportedRun}
use Rattle.farm_entry.specs.declared.lease.SkippedRun.{SkippedRun}
use Rattle.farm_entry.specs.declared.settings.Settings.{Settings}
use Rattle.worker_core.specs.declared.tested.Tested.TheVariants.{Untestable, Verdict}
use Rattle.leaf_laws.specs.Given.{IsGiven}
use Rattle.leaf_laws.specs.Happenings.{Happening, all_happen, begins, draws, farm_carries, farm_is_closed, farm_starts_anew, happens, is_asked, loses, receives, runner_answers, starts_anew, takes}
use Rattle.leaf_laws.specs.Workers.{crew, fresh}
use Rattle.leaf_laws.specs.World.{Request, SentAnswer, Worker, World, founded}
use Rattle.leaf_laws.proofs.Farm.{carries-sound, closes-sound, is_asked-sound, takes-sound}
use Rattle.leaf_laws.proofs.Sound.{IsBacked, IsHonest, IsSound, IsTruthful}
use Rattle.leaf_laws.proofs.Steps.{begins-sound, draws-sound, fresh-honest, gets-sound, loses-sound, restarts-sound, says-sound}

founded-sound : (settings : Settings) (at : Moment) (starts : List (List ℕ × ℕ)) → IsSound (founded settings at (crew starts))
founded-sound settings at starts =
    let H = record { at = at; what = Founded settings } ∷ [] in
    record {
      legal = (tt, tt);
      reported = All-nil (λ (r : ReportedRun). IsGiven H [] r.run (Verdict r.verdict));
      said = All-nil (λ (s : SkippedRun). IsGiven H [] s.run Untestable);
      requested = All-nil (λ (r : Request). IsBacked H [] r.command);
      answered = All-nil (λ (a : SentAnswer). IsTruthful H a.said);
      staffed = All-map (λ (w : Worker). IsHonest H [] w) (λ (start : List ℕ × ℕ). fresh start.0 start.1) starts
          (λ k d below. fresh-honest H [] _ _);
    }

happens-sound : (world : World) (h : Happening) → IsSound world → IsSound (happens world h)
happens-sound world (begins worker) sound = begins-sound world worker sound
happens-sound world (draws worker key) sound = draws-sound world worker key sound
happens-sound world (loses worker status) sound = loses-sound world worker status sound
happens-sound world (receives worker answer) sound = gets-sound world worker answer sound
happens-sound world (runner_answers worker tested) sound = says-sound world worker tested sound
happens-sound world (starts_anew worker runs) sound = restarts-sound world worker runs sound
happens-sound world (takes request m reach) sound = takes-sound world request m reach sound
happens-sound world (is_asked sender q m reach) sound = is_asked-sound world sender q m reach sound
happens-sound world farm_starts_anew sound = sound
happens-sound world (farm_carries m commit day) sound = carries-sound world m commit day sound
happens-sound world (farm_is_closed m) sound = closes-sound world m sound

all-sound : (world : World) (all : List Happening) → IsSound world → IsSound (all_happen world all)
all-sound world [] sound = sound
all-sound world (h ∷ more) sound = all-sound (happens world h) more (happens-sound world h sound)

pub ever-sound : (settings : Settings) (at : Moment) (starts : List (List ℕ × ℕ)) (all : List Happening) →
    IsSound (all_happen (founded settings at (crew starts)) all)
ever-sound settings at starts all = all-sound (founded settings at (crew starts)) all (founded-sound settings at starts)

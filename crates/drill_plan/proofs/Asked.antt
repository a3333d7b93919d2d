-- The open of a search, put together of its parts.
use Rattle.std.proofs.Common.{◌≡◌, ℕ, ◌+◌, ◌*◌, ◌/◌, ◌%◌, List, map}
use Rattle.std.specs.Prelude.{codes}
use Rattle.std.specs.List.{range_with_len}
use Rattle.farm_types.specs.declared.commit_id.CommitId.{CommitId}
use Rattle.suspect_range.specs.declared.suspect.Suspect.{Suspect}
use Rattle.farm_entry.specs.declared.command.OpenAsk.{OpenAsk}
use Rattle.drill_plan.specs.Plan.{commit_numbered, planned_ask, planned_suspect, planned_suspects}
use Rattle.drill_plan.specs.declared.limits.TheConstants.{SEARCH_SPAN}

-- an ask with the numbers of a search
abbrev ask_with : (s key : ℕ) (test : List ℕ) (base : CommitId) (suspects : List Suspect) (n : ℕ) → OpenAsk
ask_with s key test base suspects n = record {
  key = record { 0 = key };
  test = test;
  base = base;
  suspects = suspects;
  calm = 1 + n / 2;
  rate = (1, 5 + s % 4);
  miss = (0, 1);
  bar = (99, 100);
  width = 1 + s % 8;
  reruns = 1 + s % 3;
}

pub ask-is : (s key : ℕ) (test : List ℕ) (base : CommitId) (suspects : List Suspect) (n : ℕ) → key ≡ s
    → test ≡ codes "drill" → base ≡ commit_numbered (s * SEARCH_SPAN)
    → suspects ≡ map (planned_suspect s) (range_with_len 1 (planned_suspects s)) → n ≡ planned_suspects s
    → ask_with s key test base suspects n ≡ planned_ask s
ask-is s key test base suspects n a b c d e = λ i. ask_with s (a i) (b i) (c i) (d i) (e i)

-- The searches of a drill: all that each of them is follows from its number.
use Rattle.std.specs.Prelude.{ℕ, ◌+◌, ◌*◌, ◌/◌, ◌%◌, ◌==◌, nat_le, map, codes, if◌then◌else◌, Option, Some, None, refl}
use Rattle.std.specs.List.{range_with_len}
use Rattle.farm_types.specs.declared.commit_id.CommitId.{CommitId}
use Rattle.suspect_range.specs.declared.suspect.Suspect.{Suspect}
use Rattle.weight_exact.specs.declared.run.Verdict.{Verdict}
use Rattle.weight_exact.specs.declared.run.Verdict.TheVariants.{Pass, Fail}
use Rattle.farm_entry.specs.declared.command.OpenAsk.{OpenAsk}
use Rattle.drill_plan.specs.Digits.{number_bytes, number_bytes_fit}
use Rattle.drill_plan.specs.declared.limits.TheConstants.{SEARCH_SPAN}

-- how many suspects a search has: 20 to 100
abbrev pub planned_suspects : (search : ℕ) → ℕ
planned_suspects search = 20 + 37 * search % 81

-- the position of its true culprit: none in every fifth search, and else one of its suspects
abbrev pub planned_culprit : (search : ℕ) → Option ℕ
planned_culprit search = if search % 5 == 0 then None else Some (1 + 53 * search % planned_suspects search)

-- a run fails exactly where the true culprit is in the tree
abbrev pub verdict_with : (culprit : Option ℕ) → (position : ℕ) → Verdict
verdict_with None position = Pass
verdict_with (Some culprit) position = if nat_le culprit position then Fail else Pass

abbrev pub planned_verdict : (search position : ℕ) → Verdict
planned_verdict search position = verdict_with (planned_culprit search) position

-- the commit whose 40 digits are a number in decimal
abbrev pub commit_numbered : ℕ → CommitId
commit_numbered x = record { bytes = number_bytes x; whole = refl; fits = number_bytes_fit x }

-- the suspect of a search at a position from 1 on. The base has the commit at position 0
abbrev pub planned_suspect : (search position : ℕ) → Suspect
planned_suspect search position = record {
  commit = commit_numbered (search * SEARCH_SPAN + position);
  weight = 1 + position * search % 7;
}

-- the open of a search, under its number as the key
abbrev pub planned_ask : (search : ℕ) → OpenAsk
planned_ask search = record {
  key = record { 0 = search };
  test = codes "drill";
  base = commit_numbered (search * SEARCH_SPAN);
  suspects = map (planned_suspect search) (range_with_len 1 (planned_suspects search));
  calm = 1 + planned_suspects search / 2;
  rate = (1, 5 + search % 4);
  miss = (0, 1);
  bar = (99, 100);
  width = 1 + search % 8;
  reruns = 1 + search % 3;
}

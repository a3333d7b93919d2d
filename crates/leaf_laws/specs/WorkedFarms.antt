-- A small farm, for worked numbers: its settings, a few searches, and histories that are made by commands.
use Rattle.std.specs.Prelude.{ℕ, zero, suc, ◌+◌, ◌/◌, ◌%◌, ◌<◌, nat_le, T, List, [], ◌∷◌, ◌++◌, length, map, take, replicate, slice_index, codes, pos, Option, refl}
use Rattle.std.specs.List.{range_with_len}
use Rattle.std.specs.Int.Signed.{le_z_yes}
use Rattle.std.proofs.Math.Facts.{leb_yes}
use Rattle.std.proofs.Math.Nat.{mod-lt}
use Rattle.flake_rate.proofs.Limits.{bar-within, miss-lowest, miss-quotients, rate-lowest, rate-quotients}
use Rattle.farm_types.specs.Moment.{moment_ms}
use Rattle.farm_types.specs.declared.commit_id.CommitId.{CommitId}
use Rattle.farm_types.specs.declared.key.Key.{Key}
use Rattle.farm_types.specs.declared.moment.Moment.{Moment}
use Rattle.farm_types.specs.declared.moment.TheConstants.{MOMENT_MAX_MS, MOMENT_MIN_MS}
use Rattle.farm_types.specs.declared.stage.Stage.{Stage}
use Rattle.farm_types.specs.declared.stage.Stage.TheVariants.{Search, Verify}
use Rattle.suspect_range.specs.declared.suspect.Suspect.{Suspect}
use Rattle.weight_exact.specs.declared.run.Verdict.{Verdict}
use Rattle.weight_exact.specs.declared.run.Verdict.TheVariants.{Fail, Pass}
use Rattle.farm_entry.specs.Decision.{decide}
use Rattle.farm_entry.specs.declared.decision.Decision.{Decision}
use Rattle.farm_entry.specs.declared.decision.Decision.TheVariants.{New, Refuse, Repeat, Show}
use Rattle.farm_entry.specs.History.{all_leases, reports}
use Rattle.farm_entry.specs.Reply.{reply_at}
use Rattle.farm_entry.specs.declared.command.Command.{Command}
use Rattle.farm_entry.specs.declared.command.Command.TheVariants.{Lease as LeaseRun, TakeRevert}
use Rattle.farm_entry.specs.declared.command.OpenAsk.{OpenAsk}
use Rattle.farm_entry.specs.declared.entry.Entry.{Entry}
use Rattle.farm_entry.specs.declared.entry.Fate.{Fate}
use Rattle.farm_entry.specs.declared.entry.Fate.TheVariants.{Counted, Late, Over}
use Rattle.farm_entry.specs.declared.entry.What.{What}
use Rattle.farm_entry.specs.declared.entry.What.TheVariants.{Founded, Opened, Leased, Reported, Skipped, Ordered}
use Rattle.farm_entry.specs.declared.opening.Opening.{Opening}
use Rattle.farm_entry.specs.declared.reply.Reply.{Reply}
use Rattle.farm_entry.specs.declared.settings.Settings.{Settings}

-- Small values.

abbrev pub the_key : ℕ → Key
the_key n = record { 0 = n }

abbrev pub the_test : List ℕ
the_test = codes "t"

abbrev pub the_worker : List ℕ
the_worker = codes "w"

abbrev pub the_agent : List ℕ
the_agent = codes "a"

-- a list of one byte over and over has bytes alone
pub each_is_byte : (count b : ℕ) → b < 256 → (i : ℕ) → slice_index (replicate count b) i < 256
each_is_byte zero b below i = leb_yes tt
each_is_byte (suc count) b below zero = below
each_is_byte (suc count) b below (suc i) = each_is_byte count b below i

-- two bytes, the second of them over and over
pub each_of_two : (count first b : ℕ) → first < 256 → b < 256 → (i : ℕ) →
    slice_index (first ∷ replicate count b) i < 256
each_of_two count first b at_first below zero = at_first
each_of_two count first b at_first below (suc i) = each_is_byte count b below i

-- the commit with a number below 65536, whose first byte is the number's high one, and each other the low one
abbrev pub the_commit : ℕ → CommitId
the_commit n = record {
  bytes = n / 256 % 256 ∷ replicate 19 (n % 256);
  whole = refl;
  fits = each_of_two 19 (n / 256 % 256) (n % 256) (mod-lt (n / 256) (leb_yes tt)) (mod-lt n (leb_yes tt));
}

abbrev pub the_moment : (ms : ℕ) → T (nat_le MOMENT_MIN_MS ms) → T (nat_le ms MOMENT_MAX_MS) → Moment
the_moment ms late early = record { ms = ms; in_range = (leb_yes late, leb_yes early) }

-- the moment of the founding
abbrev pub at_first : Moment
at_first = the_moment 100000000 tt tt

-- the last moment of a lease that was given at the founding, and the moment when it ends
abbrev pub at_last : Moment
at_last = the_moment 100059999 tt tt

abbrev pub at_end : Moment
at_end = the_moment 100060000 tt tt

-- leases of a minute, ten orders a day, and days by UTC
abbrev pub the_settings : Settings
the_settings = record {
  lease_ms = 60000;
  daily = 10;
  zone_minutes = pos 0;
  lease_in_range = (leb_yes tt, leb_yes tt);
  daily_in_range = leb_yes tt;
  zone_in_range = (le_z_yes tt, le_z_yes tt);
}

abbrev pub founded : List Entry
founded = record { at = at_first; what = Founded the_settings } ∷ []

-- Searches.

-- a suspect of a weight for each commit from 1 on
abbrev pub suspects_of : (count weight : ℕ) → List Suspect
suspects_of count weight = map (λ n. record { commit = the_commit n; weight = weight }) (range_with_len 1 count)

-- the open of a search with key 1, among so many suspects of a weight, for so many runs at once: a calm weight of 1, a
-- flake rate of 1/10, no misses, a bar of 9/10 and one rerun on each side
abbrev pub ask_for : (count weight width : ℕ) → OpenAsk
ask_for count weight width = record {
  key = the_key 1;
  test = the_test;
  base = the_commit 0;
  suspects = suspects_of count weight;
  calm = 1;
  rate = (1, 10);
  miss = (0, 1);
  bar = (9, 10);
  width = width;
  reruns = 1;
}

-- the search that it opens
abbrev pub opening_for : (count weight width : ℕ) → Opening
opening_for count weight width = record {
  key = the_key 1;
  search = 1;
  test = the_test;
  range = record { base = the_commit 0; suspects = suspects_of count weight; calm = 1 };
  rate = record { a = 1; b = 10; in_limits = rate-quotients 1 10 refl; lowest_terms = rate-lowest 1 10 refl };
  miss = record { c = 0; d = 1; in_limits = miss-quotients 0 1 refl; lowest_terms = miss-lowest 0 1 refl };
  bar = record { t = 9; u = 10; in_limits = bar-within 9 10 refl };
  width = width;
  reruns = 1;
}

-- a thousand suspects of the greatest weight
unfoldable pub thousand_suspects : List Suspect
thousand_suspects = suspects_of 1000 65535

-- the search among them with the greatest calm weight, a flake rate of 1/1000, no misses, a bar of 9999/10000, one run
-- at once and one rerun on each side
abbrev pub large_opening : Opening
large_opening = record {
  key = the_key 1;
  search = 1;
  test = the_test;
  range = record { base = the_commit 0; suspects = thousand_suspects; calm = 1000000 };
  rate = record { a = 1; b = 1000; in_limits = rate-quotients 1 1000 refl; lowest_terms = rate-lowest 1 1000 refl };
  miss = record { c = 0; d = 1; in_limits = miss-quotients 0 1 refl; lowest_terms = miss-lowest 0 1 refl };
  bar = record { t = 9999; u = 10000; in_limits = bar-within 9999 10000 refl };
  width = 1;
  reruns = 1;
}

-- Commands.

abbrev pub lease_with : (key_number : ℕ) → Command
lease_with key_number = LeaseRun (the_key key_number) the_worker

abbrev pub revert_with : (key_number : ℕ) → Command
revert_with key_number = TakeRevert (the_key key_number) the_agent

-- Histories.

-- the history after a decision
abbrev pub after : List Entry → Decision → List Entry
after H (Refuse cause) = H
after H (Repeat place) = H
after H (Show page) = H
after H (New e) = H ++ e ∷ []

-- the history after commands that come at one moment, in order
abbrev pub play : Moment → List Entry → List Command → List Entry
play m H [] = H
play m H (q ∷ more) = play m (after H (decide H q m)) more

-- an entry of the first moment
abbrev pub recorded : What → Entry
recorded what = record { at = at_first; what = what }

-- a lease of a run of search 1 at that moment
abbrev pub leased : (key_number run : ℕ) → Stage → (position : ℕ) → Entry
leased key_number run stage position =
    recorded (Leased (the_key key_number) the_worker run 1 stage position 100060000)

-- a first report at that moment, that counts, and one that is late
abbrev pub counted_report : (run : ℕ) → Verdict → Entry
counted_report run verdict = recorded (Reported run verdict Counted)

abbrev pub late_report : (run : ℕ) → Verdict → Entry
late_report run verdict = recorded (Reported run verdict Late)

-- a farm on which a search among four suspects confirms the second, whose commit is ordered to be reverted
abbrev pub confirmed_farm : List Entry
confirmed_farm =
    recorded (Founded the_settings)
    ∷ recorded (Opened (opening_for 4 1 1))
    ∷ leased 2 1 Search 2
    ∷ counted_report 1 Fail
    ∷ leased 3 2 Search 1
    ∷ counted_report 2 Pass
    ∷ leased 4 3 Search 2
    ∷ counted_report 3 Fail
    ∷ leased 5 4 Verify 2
    ∷ counted_report 4 Fail
    ∷ leased 6 5 Verify 1
    ∷ counted_report 5 Pass
    ∷ recorded (Ordered (the_key 7) the_agent 1 (the_commit 2) 1 1)
    ∷ []

-- the same up to the last rerun, which fails
abbrev pub vindicated_farm : List Entry
vindicated_farm = take 11 confirmed_farm ++ counted_report 5 Fail ∷ []

-- a farm on which three runs of a search are out at once, and the first report clears all suspects
abbrev pub wide_farm : List Entry
wide_farm =
    recorded (Founded the_settings)
    ∷ recorded (Opened (opening_for 4 1 3))
    ∷ leased 2 1 Search 1
    ∷ leased 3 2 Search 2
    ∷ leased 4 3 Search 4
    ∷ counted_report 3 Pass
    ∷ late_report 1 Fail
    ∷ []

-- a farm on which the prior alone names the only suspect
abbrev pub sure_farm : List Entry
sure_farm =
    recorded (Founded the_settings)
    ∷ recorded (Opened (opening_for 1 1000 1))
    ∷ leased 2 1 Verify 1
    ∷ leased 3 2 Verify 0
    ∷ []

-- the lease of a run of search 1 at position 508, at some moment
abbrev pub leased_at : Moment → (run : ℕ) → Entry
leased_at m run = record { at = m; what = Leased (the_key (run + 1)) the_worker run 1 Search 508 (moment_ms m + 60000) }

-- the report that a run failed, eight minutes after the first moment
abbrev pub failed_at_last : (run : ℕ) → Fate → Entry
failed_at_last run fate = record { at = the_moment 100480000 tt tt; what = Reported run Fail fate }

-- a farm on which nine runs at one position, each handed out when the time of the one before was over, fail one after
-- another, until the search is over its budget
abbrev pub large_farm : List Entry
large_farm =
    recorded (Founded the_settings)
    ∷ recorded (Opened large_opening)
    ∷ leased_at (the_moment 100000000 tt tt) 1
    ∷ leased_at (the_moment 100060000 tt tt) 2
    ∷ leased_at (the_moment 100120000 tt tt) 3
    ∷ leased_at (the_moment 100180000 tt tt) 4
    ∷ leased_at (the_moment 100240000 tt tt) 5
    ∷ leased_at (the_moment 100300000 tt tt) 6
    ∷ leased_at (the_moment 100360000 tt tt) 7
    ∷ leased_at (the_moment 100420000 tt tt) 8
    ∷ leased_at (the_moment 100480000 tt tt) 9
    ∷ failed_at_last 1 Counted
    ∷ failed_at_last 2 Counted
    ∷ failed_at_last 3 Counted
    ∷ failed_at_last 4 Counted
    ∷ failed_at_last 5 Counted
    ∷ failed_at_last 6 Counted
    ∷ failed_at_last 7 Counted
    ∷ failed_at_last 8 Counted
    ∷ failed_at_last 9 Over
    ∷ []

-- the positions of all runs that were handed out, and what became of all reports
abbrev pub positions : List Entry → List ℕ
positions H = map (λ l. l.position) (all_leases H)

abbrev pub fates : List Entry → List Fate
fates H = map (λ r. r.fate) (reports H)

-- the replies of a history, by place
abbrev pub replies : List Entry → List (Option Reply)
replies H = map (reply_at H) (range_with_len 0 (length H))

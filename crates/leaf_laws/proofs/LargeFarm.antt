-- Each entry of the large farm comes next: what is long to compute is computed once.
use Rattle.std.proofs.Common.{◌≡◌, ℕ, ◌<◌, ◌≤◌, nat_lt, cond, List, [], ◌∷◌, ◌++◌, take, replicate, Option, Some, None, refl, ap, ◌∙◌}
use Rattle.std.specs.List.{cons_option, filter_map}
use Rattle.std.proofs.Math.Facts.{leb_yes}
use Rattle.std.specs.Option.{option_map}
use Rattle.farm_types.specs.Moment.{moment_ms}
use Rattle.farm_types.specs.declared.moment.Moment.{Moment}
use Rattle.farm_types.specs.declared.stage.Stage.TheVariants.{Search}
use Rattle.farm_rules.specs.Due.{due_search}
use Rattle.threshold_pick.proofs.HiddenBlocks.{is_hidden-nothing_skipped}
use Rattle.threshold_pick.proofs.PlansOverOpen.{open_plan-nothing_skipped}
use Rattle.threshold_pick.specs.Open.{open_plan}
use Rattle.weight_exact.specs.Budget.{budget_of}
use Rattle.weight_exact.specs.Example.{fail_at}
use Rattle.weight_exact.specs.Load.{floor, load}
use Rattle.weight_exact.specs.Plan.{plan}
use Rattle.weight_exact.specs.Share.{reached}
use Rattle.weight_exact.specs.Weights.{suspects, total}
use Rattle.weight_exact.specs.declared.run.Run.{Run}
use Rattle.weight_exact.specs.declared.run.Verdict.TheVariants.{Fail}
use Rattle.farm_entry.specs.declared.decision.Decision.TheVariants.{New}
use Rattle.farm_entry.specs.declared.lease.DueRun.{DueRun}
use Rattle.farm_entry.specs.declared.lease.LeasedRun.{LeasedRun}
use Rattle.farm_entry.specs.Decision.{fate_at, lease_decision}
use Rattle.farm_entry.specs.Due.{due, due_at, due_searching, next_run, soonest}
use Rattle.leaf_laws.specs.WorkedFarms.{failed_at_last, large_farm, large_opening, leased_at, the_key, the_moment, the_worker, thousand_suspects}
use Rattle.farm_entry.specs.History.{openings, runs}
use Rattle.farm_entry.specs.Legal.{IsLegal, IsNext}
use Rattle.farm_entry.specs.Setup.{budget_of_search, setup_of}
use Rattle.farm_entry.specs.Standing.{standing, standing_of_hidden, standing_of_reached}
use Rattle.farm_entry.specs.declared.entry.Entry.{Entry}
use Rattle.farm_entry.specs.declared.entry.Fate.{Fate}
use Rattle.farm_entry.specs.declared.entry.Fate.TheVariants.{Counted, Over}
use Rattle.farm_entry.specs.declared.opening.Opening.{Opening}
use Rattle.farm_entry.specs.declared.standing.Standing.{Standing}
use Rattle.farm_entry.specs.declared.standing.Standing.TheVariants.{Searching}
use Rattle.leaf_laws.proofs.Thousand.{large_search-opens}

-- What is computed: the budget, the first plan, and that no suspect is named after up to eight fails.

pub large-budget : budget_of_search large_opening ≡ 8
unfolding budget_of thousand_suspects
large-budget = refl

-- with nothing skipped the plan is that of all positions
no_floor : floor (setup_of large_opening).factors [] < suspects (setup_of large_opening)
unfolding thousand_suspects
no_floor = leb_yes tt

all_positions : plan (setup_of large_opening) [] 1 ≡ 508 ∷ []
unfolding thousand_suspects
all_positions = refl

first_plan : open_plan (setup_of large_opening) [] [] 1 ≡ 508 ∷ []
first_plan = open_plan-nothing_skipped (setup_of large_opening) [] 1 no_floor ∙ all_positions

-- where no hypothesis is at the bar and nothing was skipped, the search goes on
searching-of : (past : List Run) → 1 ≤ total (setup_of large_opening) past → reached (setup_of large_opening) past ≡ None →
    standing_of_reached large_opening past [] [] (reached (setup_of large_opening) past) ≡ Searching
searching-of past some none =
    ap (standing_of_reached large_opening past [] []) none
    ∙ ap standing_of_hidden (is_hidden-nothing_skipped (setup_of large_opening) past some none)

some-0 : 1 ≤ total (setup_of large_opening) (replicate 0 (fail_at 508))
unfolding thousand_suspects
some-0 = leb_yes tt

none-0 : reached (setup_of large_opening) (replicate 0 (fail_at 508)) ≡ None
unfolding thousand_suspects
none-0 = refl

searching-0 : standing_of_reached large_opening (replicate 0 (fail_at 508)) [] []
    (reached (setup_of large_opening) (replicate 0 (fail_at 508))) ≡ Searching
searching-0 = searching-of (replicate 0 (fail_at 508)) some-0 none-0

some-1 : 1 ≤ total (setup_of large_opening) (replicate 1 (fail_at 508))
unfolding thousand_suspects
some-1 = leb_yes tt

none-1 : reached (setup_of large_opening) (replicate 1 (fail_at 508)) ≡ None
unfolding thousand_suspects
none-1 = refl

searching-1 : standing_of_reached large_opening (replicate 1 (fail_at 508)) [] []
    (reached (setup_of large_opening) (replicate 1 (fail_at 508))) ≡ Searching
searching-1 = searching-of (replicate 1 (fail_at 508)) some-1 none-1

some-2 : 1 ≤ total (setup_of large_opening) (replicate 2 (fail_at 508))
unfolding thousand_suspects
some-2 = leb_yes tt

none-2 : reached (setup_of large_opening) (replicate 2 (fail_at 508)) ≡ None
unfolding thousand_suspects
none-2 = refl

searching-2 : standing_of_reached large_opening (replicate 2 (fail_at 508)) [] []
    (reached (setup_of large_opening) (replicate 2 (fail_at 508))) ≡ Searching
searching-2 = searching-of (replicate 2 (fail_at 508)) some-2 none-2

some-3 : 1 ≤ total (setup_of large_opening) (replicate 3 (fail_at 508))
unfolding thousand_suspects
some-3 = leb_yes tt

none-3 : reached (setup_of large_opening) (replicate 3 (fail_at 508)) ≡ None
unfolding thousand_suspects
none-3 = refl

searching-3 : standing_of_reached large_opening (replicate 3 (fail_at 508)) [] []
    (reached (setup_of large_opening) (replicate 3 (fail_at 508))) ≡ Searching
searching-3 = searching-of (replicate 3 (fail_at 508)) some-3 none-3

some-4 : 1 ≤ total (setup_of large_opening) (replicate 4 (fail_at 508))
unfolding thousand_suspects
some-4 = leb_yes tt

none-4 : reached (setup_of large_opening) (replicate 4 (fail_at 508)) ≡ None
unfolding thousand_suspects
none-4 = refl

searching-4 : standing_of_reached large_opening (replicate 4 (fail_at 508)) [] []
    (reached (setup_of large_opening) (replicate 4 (fail_at 508))) ≡ Searching
searching-4 = searching-of (replicate 4 (fail_at 508)) some-4 none-4

some-5 : 1 ≤ total (setup_of large_opening) (replicate 5 (fail_at 508))
unfolding thousand_suspects
some-5 = leb_yes tt

none-5 : reached (setup_of large_opening) (replicate 5 (fail_at 508)) ≡ None
unfolding thousand_suspects
none-5 = refl

searching-5 : standing_of_reached large_opening (replicate 5 (fail_at 508)) [] []
    (reached (setup_of large_opening) (replicate 5 (fail_at 508))) ≡ Searching
searching-5 = searching-of (replicate 5 (fail_at 508)) some-5 none-5

some-6 : 1 ≤ total (setup_of large_opening) (replicate 6 (fail_at 508))
unfolding thousand_suspects
some-6 = leb_yes tt

none-6 : reached (setup_of large_opening) (replicate 6 (fail_at 508)) ≡ None
unfolding thousand_suspects
none-6 = refl

searching-6 : standing_of_reached large_opening (replicate 6 (fail_at 508)) [] []
    (reached (setup_of large_opening) (replicate 6 (fail_at 508))) ≡ Searching
searching-6 = searching-of (replicate 6 (fail_at 508)) some-6 none-6

some-7 : 1 ≤ total (setup_of large_opening) (replicate 7 (fail_at 508))
unfolding thousand_suspects
some-7 = leb_yes tt

none-7 : reached (setup_of large_opening) (replicate 7 (fail_at 508)) ≡ None
unfolding thousand_suspects
none-7 = refl

searching-7 : standing_of_reached large_opening (replicate 7 (fail_at 508)) [] []
    (reached (setup_of large_opening) (replicate 7 (fail_at 508))) ≡ Searching
searching-7 = searching-of (replicate 7 (fail_at 508)) some-7 none-7

some-8 : 1 ≤ total (setup_of large_opening) (replicate 8 (fail_at 508))
unfolding thousand_suspects
some-8 = leb_yes tt

none-8 : reached (setup_of large_opening) (replicate 8 (fail_at 508)) ≡ None
unfolding thousand_suspects
none-8 = refl

pub searching-8 : standing_of_reached large_opening (replicate 8 (fail_at 508)) [] []
    (reached (setup_of large_opening) (replicate 8 (fail_at 508))) ≡ Searching
searching-8 = searching-of (replicate 8 (fail_at 508)) some-8 none-8

-- The leases.

abbrev the_run : DueRun
the_run = record { search = 1; stage = Search; position = 508 }

due-0 : due_search (open_plan (setup_of large_opening) [] [] 1) [] ≡ Some 508
due-0 = ap (λ (entries : List ℕ). due_search entries []) first_plan

due-is : (H : List Entry) (moment : ℕ) → standing H large_opening ≡ Searching →
    due_searching H large_opening moment ≡ Some 508 → due H large_opening moment ≡ Some the_run
due-is H moment stands at =
    ap (λ (s : Standing). due_at s H large_opening moment) stands
    ∙ ap (option_map (λ k. record { search = 1; stage = Search; position = k })) at

next-is : (H : List Entry) (moment : ℕ) → openings H ≡ large_opening ∷ [] → standing H large_opening ≡ Searching →
    due_searching H large_opening moment ≡ Some 508 → next_run H moment ≡ Some the_run
next-is H moment opened stands at =
    ap (λ (all : List Opening). soonest H (filter_map (λ o. due H o moment) all)) opened
    ∙ ap (λ (d : Option DueRun). soonest H (cons_option d [])) (due-is H moment stands at)

leased-next : (H : List Entry) (m : Moment) (key_number : ℕ) → openings H ≡ large_opening ∷ [] →
    standing H large_opening ≡ Searching → due_searching H large_opening (moment_ms m) ≡ Some 508 →
    lease_decision H (the_key key_number) the_worker m (next_run H (moment_ms m))
    ≡ lease_decision H (the_key key_number) the_worker m (Some the_run)
leased-next H m key_number opened stands at =
    ap (lease_decision H (the_key key_number) the_worker m) (next-is H (moment_ms m) opened stands at)

lease-1 : IsNext (take 2 large_farm) (leased_at (the_moment 100000000 tt tt) 1)
lease-1 = leased-next (take 2 large_farm) (the_moment 100000000 tt tt) 2 refl searching-0 due-0

lease-2 : IsNext (take 3 large_farm) (leased_at (the_moment 100060000 tt tt) 2)
lease-2 = leased-next (take 3 large_farm) (the_moment 100060000 tt tt) 3 refl searching-0 due-0

lease-3 : IsNext (take 4 large_farm) (leased_at (the_moment 100120000 tt tt) 3)
lease-3 = leased-next (take 4 large_farm) (the_moment 100120000 tt tt) 4 refl searching-0 due-0

lease-4 : IsNext (take 5 large_farm) (leased_at (the_moment 100180000 tt tt) 4)
lease-4 = leased-next (take 5 large_farm) (the_moment 100180000 tt tt) 5 refl searching-0 due-0

lease-5 : IsNext (take 6 large_farm) (leased_at (the_moment 100240000 tt tt) 5)
lease-5 = leased-next (take 6 large_farm) (the_moment 100240000 tt tt) 6 refl searching-0 due-0

lease-6 : IsNext (take 7 large_farm) (leased_at (the_moment 100300000 tt tt) 6)
lease-6 = leased-next (take 7 large_farm) (the_moment 100300000 tt tt) 7 refl searching-0 due-0

lease-7 : IsNext (take 8 large_farm) (leased_at (the_moment 100360000 tt tt) 7)
lease-7 = leased-next (take 8 large_farm) (the_moment 100360000 tt tt) 8 refl searching-0 due-0

lease-8 : IsNext (take 9 large_farm) (leased_at (the_moment 100420000 tt tt) 8)
lease-8 = leased-next (take 9 large_farm) (the_moment 100420000 tt tt) 9 refl searching-0 due-0

lease-9 : IsNext (take 10 large_farm) (leased_at (the_moment 100480000 tt tt) 9)
lease-9 = leased-next (take 10 large_farm) (the_moment 100480000 tt tt) 10 refl searching-0 due-0

-- The reports.

abbrev the_lease : (run deadline : ℕ) → LeasedRun
the_lease run deadline = record { run = run; search = 1; stage = Search; position = 508; deadline = deadline }

fate-is : (H : List Entry) (run deadline : ℕ) → standing H large_opening ≡ Searching →
    load (setup_of large_opening).factors (runs H 1 ++ fail_at 508 ∷ []) ≡ run →
    fate_at (standing H large_opening) H large_opening (the_lease run deadline) Fail ≡ cond (nat_lt 8 run) Over Counted
fate-is H run deadline stands loaded =
    ap (λ (s : Standing). fate_at s H large_opening (the_lease run deadline) Fail) stands
    ∙ ap (λ (n : ℕ). cond (nat_lt (budget_of_search large_opening) n) Over Counted) loaded
    ∙ ap (λ (n : ℕ). cond (nat_lt n run) Over Counted) large-budget

reported-next : (H : List Entry) (run deadline : ℕ) → standing H large_opening ≡ Searching →
    load (setup_of large_opening).factors (runs H 1 ++ fail_at 508 ∷ []) ≡ run →
    New (failed_at_last run (fate_at (standing H large_opening) H large_opening (the_lease run deadline) Fail))
    ≡ New (failed_at_last run (cond (nat_lt 8 run) Over Counted))
reported-next H run deadline stands loaded =
    ap (λ (fate : Fate). New (failed_at_last run fate)) (fate-is H run deadline stands loaded)

report-1 : IsNext (take 11 large_farm) (failed_at_last 1 Counted)
report-1 = reported-next (take 11 large_farm) 1 100060000 searching-0 refl

report-2 : IsNext (take 12 large_farm) (failed_at_last 2 Counted)
report-2 = reported-next (take 12 large_farm) 2 100120000 searching-1 refl

report-3 : IsNext (take 13 large_farm) (failed_at_last 3 Counted)
report-3 = reported-next (take 13 large_farm) 3 100180000 searching-2 refl

report-4 : IsNext (take 14 large_farm) (failed_at_last 4 Counted)
report-4 = reported-next (take 14 large_farm) 4 100240000 searching-3 refl

report-5 : IsNext (take 15 large_farm) (failed_at_last 5 Counted)
report-5 = reported-next (take 15 large_farm) 5 100300000 searching-4 refl

report-6 : IsNext (take 16 large_farm) (failed_at_last 6 Counted)
report-6 = reported-next (take 16 large_farm) 6 100360000 searching-5 refl

report-7 : IsNext (take 17 large_farm) (failed_at_last 7 Counted)
report-7 = reported-next (take 17 large_farm) 7 100420000 searching-6 refl

report-8 : IsNext (take 18 large_farm) (failed_at_last 8 Counted)
report-8 = reported-next (take 18 large_farm) 8 100480000 searching-7 refl

report-9 : IsNext (take 19 large_farm) (failed_at_last 9 Over)
report-9 = reported-next (take 19 large_farm) 9 100540000 searching-8 refl

pub large_farm-is_legal : IsLegal large_farm
large_farm-is_legal = (tt, (large_search-opens, (lease-1, (lease-2, (lease-3, (lease-4, (lease-5, (lease-6, (lease-7, (lease-8, (lease-9, (report-1, (report-2, (report-3, (report-4, (report-5, (report-6, (report-7, (report-8, (report-9, tt))))))))))))))))))))

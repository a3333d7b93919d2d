-- Open leases, at later moments and in longer histories.
use Rattle.std.proofs.Common.{◌≡◌, ◌≢◌, All, ℕ, ◌-◌, ◌==◌, ◌<◌, ◌≤◌, Bool, true, false, not, ◌&&◌, ◌||◌, nat_lt, List, [], ◌∷◌, ◌++◌, map, Option, refl, sym, ap, ◌∙◌, arith, true≢false}
use Rattle.std.specs.List.{list_any}
use Rattle.std.specs.Option.{option_map}
use Rattle.std.proofs.lemmas.Bool.{ne_eqb, or_parts}
use Rattle.std.proofs.lemmas.Bool.Decides.{nat_tests, Decides-eqb}
use Rattle.std.proofs.lemmas.List.Elements.{All-cons, All-nil}
use Rattle.std.proofs.lemmas.List.Elements.{filter_map-append}
use Rattle.std.proofs.lemmas.List.Folds.{list_any-append, list_any_none}
use Rattle.farm_types.specs.declared.stage.Stage.TheVariants.{Search, Verify}
use Rattle.threshold_pick.specs.Open.{open_plan}
use Rattle.farm_rules.specs.Due.{due_search, due_verify}
use Rattle.farm_rules.specs.Reruns.{reruns_at}
use Rattle.farm_entry.specs.Due.{due, due_at, is_open, outstanding_positions, outstanding, outstanding_at}
use Rattle.farm_entry.specs.History.{is_reported, reruns, runs, skipped, told_in, told_runs}
use Rattle.farm_entry.specs.Setup.{setup_of}
use Rattle.farm_entry.specs.Standing.{is_active, standing}
use Rattle.farm_entry.specs.declared.entry.Entry.{Entry}
use Rattle.farm_entry.specs.declared.lease.DueRun.{DueRun}
use Rattle.farm_entry.specs.declared.lease.LeasedRun.{LeasedRun}
use Rattle.farm_entry.specs.declared.opening.Opening.{Opening}
use Rattle.farm_entry.specs.declared.standing.Standing.{Standing}
use Rattle.farm_entry.specs.declared.standing.Standing.TheVariants.{Searching, Verifying, Confirmed, Vindicated, NoCulprit, Inconclusive, Cancelled}

-- a reported run stays reported
reported-more : (H K : List Entry) (run : ℕ) →
    is_reported (H ++ K) run ≡ (is_reported H run || is_reported K run)
reported-more H K run =
    ap (list_any (λ (told : ℕ). told == run)) (filter_map-append (λ (e : Entry). told_in e.what) H K)
    ∙ list_any-append (λ (told : ℕ). told == run) (told_runs H) (told_runs K)

still-closed : (told more : Bool) (moment later deadline : ℕ) → moment ≤ later →
    (not told && nat_lt moment deadline) ≡ false →
    (not (told || more) && nat_lt later deadline) ≡ false
still-closed true more moment later deadline rises h = refl
still-closed false true moment later deadline rises h = refl
still-closed false false moment later deadline rises h = grind (arith, nat_tests)

pub stays-closed : (H K : List Entry) (l : LeasedRun) (moment later : ℕ) → moment ≤ later →
    is_open H moment l ≡ false → is_open (H ++ K) later l ≡ false
stays-closed H K l moment later rises h =
    ap (λ (b : Bool). not b && nat_lt later l.deadline) (reported-more H K l.run)
    ∙ still-closed (is_reported H l.run) (is_reported K l.run) moment later l.deadline rises h

pub outstanding-searching : (H : List Entry) (o : Opening) (moment : ℕ) → standing H o ≡ Searching →
    map (λ (l : LeasedRun). l.position) (outstanding H o moment) ≡ outstanding_positions H o.search Search moment
outstanding-searching H o moment is =
    ap (λ (s : Standing). map (λ (l : LeasedRun). l.position) (outstanding_at s H o.search moment)) is

pub outstanding-verifying : (H : List Entry) (o : Opening) (moment suspect : ℕ) → standing H o ≡ Verifying suspect →
    map (λ (l : LeasedRun). l.position) (outstanding H o moment) ≡ outstanding_positions H o.search Verify moment
outstanding-verifying H o moment suspect is =
    ap (λ (s : Standing). map (λ (l : LeasedRun). l.position) (outstanding_at s H o.search moment)) is

-- what is due, by the positions of the outstanding leases

pub due-searching : (H : List Entry) (o : Opening) (moment : ℕ) → standing H o ≡ Searching →
    due H o moment
    ≡ option_map (λ (k : ℕ). record { search = o.search; stage = Search; position = k })
    (due_search (open_plan (setup_of o) (runs H o.search) (skipped H o.search) o.width)
    (map (λ (l : LeasedRun). l.position) (outstanding H o moment)))
due-searching H o moment is =
    let found : List ℕ → Option DueRun = λ out.
    option_map (λ (k : ℕ). record { search = o.search; stage = Search; position = k })
    (due_search (open_plan (setup_of o) (runs H o.search) (skipped H o.search) o.width) out) in
    ap (λ (s : Standing). due_at s H o moment) is ∙ ap found (sym (outstanding-searching H o moment is))

pub due-verifying : (H : List Entry) (o : Opening) (moment suspect : ℕ) → standing H o ≡ Verifying suspect →
    due H o moment
    ≡ option_map (λ (k : ℕ). record { search = o.search; stage = Verify; position = k })
    (due_verify suspect (reruns_at suspect (reruns H o.search)) (reruns_at (suspect - 1) (reruns H o.search))
    (map (λ (l : LeasedRun). l.position) (outstanding H o moment)) o.reruns)
due-verifying H o moment suspect is =
    let found : List ℕ → Option DueRun = λ out.
    option_map (λ (k : ℕ). record { search = o.search; stage = Verify; position = k })
    (due_verify suspect (reruns_at suspect (reruns H o.search))
    (reruns_at (suspect - 1) (reruns H o.search)) out o.reruns) in
    ap (λ (s : Standing). due_at s H o moment) is ∙ ap found (sym (outstanding-verifying H o moment suspect is))

none-out : (s : Standing) (H : List Entry) (search moment : ℕ) → is_active s ≡ false →
    outstanding_at s H search moment ≡ []
none-out Searching H search moment h = absurd (true≢false h)
none-out (Verifying c) H search moment h = absurd (true≢false h)
none-out (Confirmed c) H search moment h = refl
none-out (Vindicated c) H search moment h = refl
none-out NoCulprit H search moment h = refl
none-out Inconclusive H search moment h = refl
none-out Cancelled H search moment h = refl

pub outstanding-ended : (H : List Entry) (o : Opening) (moment : ℕ) → is_active (standing H o) ≡ false →
    outstanding H o moment ≡ []
outstanding-ended H o moment h = none-out (standing H o) H o.search moment h

-- A lease is open where no report names its run and its deadline lies later.

unreported : (run : ℕ) (runs : List ℕ) → list_any (λ (told : ℕ). told == run) runs ≡ false →
    All (λ (told : ℕ). told ≢ run) runs
unreported run [] h = All-nil (λ (told : ℕ). told ≢ run)
unreported run (x ∷ runs) h =
    let parts = or_parts (x == run) (list_any (λ (told : ℕ). told == run) runs) h in
    All-cons (λ (told : ℕ). told ≢ run) x runs
    (λ same. true≢false (sym ((Decides-eqb x run).1 same) ∙ parts.0)) (unreported run runs parts.1)

reported-none : (run : ℕ) (runs : List ℕ) → All (λ (told : ℕ). told ≢ run) runs →
    list_any (λ (told : ℕ). told == run) runs ≡ false
reported-none run runs all =
    list_any_none (λ (told : ℕ). told == run) runs
    (λ k d below. ne_eqb _ run (all k d below))

open-parts : (told lt : Bool) → (not told && lt) ≡ true → (told ≡ false) × (lt ≡ true)
open-parts true lt h = absurd (true≢false (sym h))
open-parts false lt h = (refl, h)

before : (a b : ℕ) → nat_lt a b ≡ true → a < b
before a b h = grind (arith, nat_tests)

after : (a b : ℕ) → a < b → nat_lt a b ≡ true
after a b h = grind (arith, nat_tests)

pub open-says : (H : List Entry) (l : LeasedRun) (moment : ℕ) → is_open H moment l ≡ true →
    All (λ (told : ℕ). told ≢ l.run) (told_runs H) × (moment < l.deadline)
open-says H l moment h =
    let parts = open-parts (is_reported H l.run) (nat_lt moment l.deadline) h in
    (unreported l.run (told_runs H) parts.0, before moment l.deadline parts.1)

pub says-open : (H : List Entry) (l : LeasedRun) (moment : ℕ) →
    All (λ (told : ℕ). told ≢ l.run) (told_runs H) × (moment < l.deadline) → is_open H moment l ≡ true
says-open H l moment h =
    ap (λ (b : Bool). not b && nat_lt moment l.deadline) (reported-none l.run (told_runs H) h.0)
    ∙ after moment l.deadline h.1

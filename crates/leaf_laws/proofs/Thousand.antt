-- The thousand suspects of the example make a range, and so their search can be opened.
use Rattle.std.proofs.Common.{◌≡◌, ◌≢◌, ℕ, ◌+◌, ◌*◌, ◌/◌, ◌%◌, ◌<◌, ◌≤◌, List, All, AllPairs, length, map, slice_index, None, Ok, refl, sym, ap, subst, ◌∙◌, arith}
use Rattle.std.specs.List.{range_with_len}
use Rattle.std.proofs.Math.Facts.{leb_yes}
use Rattle.std.proofs.Math.Nat.{div-lt_iff_lt-mul, mod-eq_of_lt}
use Rattle.std.proofs.lemmas.Nat.{div-add-mod'}
use Rattle.std.proofs.lemmas.List.FromFn.{get_or-map-range_with_len}
use Rattle.farm_types.specs.CommitId.{id_bytes}
use Rattle.farm_types.specs.declared.commit_id.CommitId.{CommitId}
use Rattle.suspect_range.specs.Faults.{range_fault}
use Rattle.suspect_range.specs.Range.{IsSuspectRange, commits_of}
use Rattle.weight_exact.specs.Limits.{IsWeight}
use Rattle.suspect_range.specs.declared.suspect.Suspect.{Suspect}
use Rattle.suspect_range.proofs.Legal.{no_fault-from_IsSuspectRange}
use Rattle.farm_entry.specs.Decision.{add_opening, or_else, refuse_opening}
use Rattle.farm_entry.specs.Ask.{opening_of}
use Rattle.leaf_laws.specs.WorkedFarms.{at_first, founded, large_opening, recorded, the_commit, thousand_suspects}
use Rattle.farm_entry.specs.Legal.{IsNext, ask_of}
use Rattle.farm_entry.specs.declared.entry.What.TheVariants.{Opened}

-- the number of a commit
abbrev number : CommitId → ℕ
number commit = slice_index (id_bytes commit) 0 * 256 + slice_index (id_bytes commit) 1

number-of_commit : (n : ℕ) → n < 65536 → number (the_commit n) ≡ n
number-of_commit n below =
    let high : n / 256 < 256 = (div-lt_iff_lt-mul {k = 256} {x = n} {y = 256} (leb_yes tt)).1 below in
    ap (λ h. h * 256 + n % 256) (mod-eq_of_lt high) ∙ div-add-mod' n 256

commits-differ : (i j : ℕ) → i < j → j < 65536 → the_commit i ≢ the_commit j
commits-differ i j before below same =
    let e : i ≡ j = sym (number-of_commit i (omega arith)) ∙ ap number same ∙ number-of_commit j below in
    absurd (omega arith)

commits : commits_of (the_commit 0) thousand_suspects ≡ map the_commit (range_with_len 0 1001)
unfolding thousand_suspects
commits = refl

count : length thousand_suspects ≡ 1000
unfolding thousand_suspects
count = refl

weights : All (λ (suspect : Suspect). IsWeight suspect.weight) thousand_suspects
unfolding thousand_suspects
weights k d within =
    subst (λ (suspect : Suspect). IsWeight suspect.weight)
    (sym (get_or-map-range_with_len (λ n. record { commit = the_commit n; weight = 65535 }) 1 1000 k (1 + k) d within refl))
    (leb_yes tt, leb_yes tt)

distinct : AllPairs (λ (a b : CommitId). a ≢ b) (map the_commit (range_with_len 0 1001))
distinct i j d before within same =
    let inside : j < 1001 = within in
    commits-differ i j before (omega (arith, inside))
    (sym (get_or-map-range_with_len the_commit 0 1001 i i d (omega (arith, inside)) (omega arith)) ∙ same
    ∙ get_or-map-range_with_len the_commit 0 1001 j j d inside (omega arith))

is_range : IsSuspectRange (the_commit 0) thousand_suspects 1000000
is_range = record {
  some = subst (λ n. 1 ≤ n) (sym count) (leb_yes tt);
  few = subst (λ n. n ≤ 1000) (sym count) (leb_yes tt);
  weights = weights;
  calm_in = (leb_yes tt, leb_yes tt);
  distinct = subst (λ (ids : List CommitId). AllPairs (λ (a b : CommitId). a ≢ b) ids) (sym commits) distinct;
}

no_fault : range_fault (the_commit 0) thousand_suspects 1000000 ≡ None
no_fault = no_fault-from_IsSuspectRange (the_commit 0) thousand_suspects 1000000 is_range

opens : (n : ℕ) → opening_of (ask_of large_opening) n ≡ Ok (record large_opening { search = n })
opens n = rw no_fault refl

pub large_search-opens : IsNext founded (recorded (Opened large_opening))
large_search-opens =
    ap (λ made. or_else (refuse_opening made) (add_opening at_first (opening_of (ask_of large_opening) 1))) (opens 0)
    ∙ ap (add_opening at_first) (opens 1)

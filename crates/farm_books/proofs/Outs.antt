-- The positions of the leases that are out are those of the open leases of the history.
use Rattle.std.proofs.Common.{◌≡◌, ℕ, ◌==◌, nat_lt, Bool, true, false, not, ◌&&◌, if◌then◌else◌, List, [], ◌∷◌, map, filter, refl, sym, ap, ◌∙◌}
use Rattle.farm_types.specs.declared.stage.Stage.{Stage}
use Rattle.farm_types.specs.declared.stage.Stage.TheVariants.{Search, Verify}
use Rattle.search_books.specs.Leases.{Held}
use Rattle.search_books.specs.Outstanding.{is_out, positions_out, same_stage as same_kind}
use Rattle.farm_entry.specs.Due.{outstanding_positions}
use Rattle.farm_entry.specs.History.{is_reported, same_stage}
use Rattle.farm_entry.specs.declared.entry.Entry.{Entry}
use Rattle.farm_entry.specs.declared.lease.LeasedRun.{LeasedRun}
use Rattle.farm_books.specs.Kept.{AreLeases, leased}
use Rattle.farm_books.proofs.Bookings.{leases_of, marks_of, tests_of}

stage-same : (a b : Stage) → same_kind a b ≡ same_stage a b
stage-same Search Search = refl
stage-same Search Verify = refl
stage-same Verify Search = refl
stage-same Verify Verify = refl

-- two tests in another order
swapped : (a b c : Bool) → (a && (b && c)) ≡ (b && (a && c))
swapped true true c = refl
swapped true false c = refl
swapped false true c = refl
swapped false false c = refl

abbrev places : List Held → List ℕ
places helds = map (λ (held : Held). held.lease.position) helds

abbrev positions : List LeasedRun → List ℕ
positions ls = map (λ (l : LeasedRun). l.position) ls

-- whether a lease is open by a test of reported runs
abbrev is_open_by : (ℕ → Bool) → Stage → (moment : ℕ) → LeasedRun → Bool
is_open_by test stage moment l = same_stage l.stage stage && (not (test l.run) && nat_lt moment l.deadline)

-- one lease more in both lists, or in none
one-more : (b : Bool) (held : Held) (helds : List Held) (ls : List LeasedRun) → places helds ≡ positions ls →
    places (if b then held ∷ helds else helds) ≡ positions (if b then leased held.lease ∷ ls else ls)
one-more true held helds ls same = ap (λ (ns : List ℕ). held.lease.position ∷ ns) same
one-more false held helds ls same = same

of-search : (mine b : Bool) (q : LeasedRun → Bool) (held : Held) (helds : List Held) (ls : List LeasedRun) →
    b ≡ q (leased held.lease) → places helds ≡ positions (filter q ls) →
    places (if mine && b then held ∷ helds else helds)
    ≡ positions (filter q (if mine then leased held.lease ∷ ls else ls))
of-search true b q held helds ls is same =
    one-more b held helds (filter q ls) same
    ∙ ap (λ (t : Bool). positions (if t then leased held.lease ∷ filter q ls else filter q ls)) is
of-search false b q held helds ls is same = same

abbrev head_or : List Bool → Bool
head_or [] = false
head_or (b ∷ bs) = b

abbrev tail : List Bool → List Bool
tail [] = []
tail (b ∷ bs) = bs

outs-are : (test : ℕ → Bool) (search : ℕ) (stage : Stage) (moment : ℕ) (helds : List Held) →
    marks_of helds ≡ tests_of test (leases_of helds) →
    places (filter (is_out search stage moment) helds)
    ≡ positions (filter (is_open_by test stage moment) (filter (λ (l : LeasedRun). l.search == search) (leases_of helds)))
outs-are test search stage moment [] are = refl
outs-are test search stage moment (held ∷ helds) are =
    let l : LeasedRun = leased held.lease in
    let timed : Bool = nat_lt moment held.lease.deadline in
    let here : (not held.is_answered && (same_kind held.lease.stage stage && timed)) ≡ is_open_by test stage moment l =
    ap (λ (t : Bool). not t && (same_kind held.lease.stage stage && timed)) (ap head_or are)
    ∙ ap (λ (t : Bool). not (test l.run) && (t && timed)) (stage-same held.lease.stage stage)
    ∙ swapped (not (test l.run)) (same_stage l.stage stage) timed in
    of-search (held.lease.search == search) (not held.is_answered && (same_kind held.lease.stage stage && timed))
    (is_open_by test stage moment) held (filter (is_out search stage moment) helds)
    (filter (λ (x : LeasedRun). x.search == search) (leases_of helds)) here
    (outs-are test search stage moment helds (ap tail are))

pub positions-are : (H : List Entry) (helds : List Held) (search : ℕ) (stage : Stage) (moment : ℕ) → AreLeases H helds →
    positions_out search stage moment helds ≡ outstanding_positions H search stage moment
positions-are H helds search stage moment are =
    outs-are (is_reported H) search stage moment helds
    (are.marks_are ∙ ap (tests_of (is_reported H)) (sym are.leases_are))
    ∙ ap (λ (ls : List LeasedRun). positions (filter (is_open_by (is_reported H) stage moment)
    (filter (λ (l : LeasedRun). l.search == search) ls))) are.leases_are

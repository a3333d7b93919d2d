-- Objects that members are put into.
use Rattle.std.proofs.Common.{◌≡◌, Option, Some, None, ℕ, List, ◌++◌, Bool, true, false, ◌||◌, refl, ap, ◌∙◌}
use Rattle.std.specs.declared.cmp.Ordering.{Ordering}
use Rattle.std.specs.declared.cmp.Ordering.TheVariants.{Less, Equal, Greater}
use Rattle.std.specs.Ordering.{match_ordering, nat_cmp}
use Rattle.std.specs.Cmp.Lexicographic.{slice_cmp}
use Rattle.serde_json.specs.Data.{Data, Members, member, no_members, put}
use Rattle.serde_json.specs.Written.{has_float, members_have_float}
use Rattle.farm_wire.specs.Members.{with_member}

neither : (x y : Bool) → (x || y) ≡ false → (x ≡ false) × (y ≡ false)
neither true y h = cc
neither false y h = (refl, h)

none_of : (x y : Bool) → x ≡ false → y ≡ false → (x || y) ≡ false
none_of x y a b = rw (a, b) refl

one_of_three : (o : Ordering) (a b c : Members) → members_have_float a ≡ false → members_have_float b ≡ false
    → members_have_float c ≡ false → members_have_float (match_ordering o a b c) ≡ false
one_of_three Less a b c ha hb hc = ha
one_of_three Equal a b c ha hb hc = hb
one_of_three Greater a b c ha hb hc = hc

-- a member that has no float brings none
pub members_have_float-put : (k : List ℕ) (d : Data) (ms : Members) → has_float d ≡ false →
    members_have_float ms ≡ false
    → members_have_float (put k d ms) ≡ false
members_have_float-put k d no_members plain before = none_of (has_float d) false plain refl
members_have_float-put k d (member l e ms) plain before =
    let parts : (has_float e ≡ false) × (members_have_float ms ≡ false) = neither _ _ before in
    one_of_three (slice_cmp nat_cmp k l) (member k d (member l e ms)) (member l d ms) (member l e (put k d ms))
    (none_of (has_float d) _ plain before)
    (none_of (has_float d) _ plain parts.1)
    (none_of (has_float e) _ parts.0 (members_have_float-put k d ms plain parts.1))

-- what a member is put among, in its place
pub onto : (k : List ℕ) (d : Data) {made old known : Members} → made ≡ with_member k d old → old ≡ known
    → made ≡ with_member k d known
onto k d put_in is = put_in ∙ ap (with_member k d) is

-- what was found so far, before what is found in the rest, if all of that is found
abbrev pub after : {X : Type 0} → List X → Option (List X) → Option (List X)
after front None = None
after front (Some rest) = Some (front ++ rest)

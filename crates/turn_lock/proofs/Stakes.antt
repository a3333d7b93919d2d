-- What the seats have of the lock together, and whose the entries are, where one of them changes or a new one is added.
use Rattle.std.proofs.Common.{◌≡◌, ◌≢◌, ◌⊎◌, ◌++◌, ◌∷◌, [], List, ℕ, zero, suc, Bool, true, length, set, ◌+◌, ◌-◌, ◌<◌, ◌≤◌, arith, sym, refl, ap, ◌∙◌, subst, inl, inr, ⊎_elim, length-append}
use mathlib.Core.Logic.{dite}
use mathlib.Core.Option.{some, some-injective, some-ne-none}
use native.Mathlib.Decide.{dec_le, ℕ_discrete}
use lib.ListN.{get_elem?}
use Rattle.atomic_table.proofs.Lists.{set_else}
use Rattle.farm_entry.specs.declared.entry.Entry.{Entry}
use Rattle.common_types.specs.Prefix.{IsPrefix}
use Rattle.common_types.proofs.Prefixes.{IsPrefix-trans}
use Rattle.common_types.specs.Rows.{AreAmong, IsAmong}
use Rattle.common_types.proofs.Rows.{AreAmong-before, AreAmong-behind, AreAmong-refl, IsAmong-AreAmong}
use Rattle.turn_lock.specs.Known.{AccountsFor, IsOwned, all_parts, given, left_by, stake_after}
use Rattle.turn_lock.specs.Places.{IsOneOf}
use Rattle.turn_lock.specs.Rule.{AreOwned, AreStakes, HasPlace, Owns, Some_seat, parts_of}
use Rattle.turn_lock.specs.Views.{put_together}
use Rattle.turn_lock.specs.declared.view.Stake.{Stake}
use Rattle.turn_lock.specs.declared.view.Taken.{Taken}
use Rattle.turn_lock.specs.declared.view.Undecided.{Undecided}
use Rattle.turn_lock.specs.declared.view.View.{View}
use Rattle.turn_lock.proofs.PlaceLists.{IsOneOf-append_first, IsOneOf-append_second, IsOneOf-both_first, IsOneOf-both_second}
use Rattle.turn_lock.proofs.Rows.{at-same, Each-set, Each-push, Some_seat-set, Some_seat-here, Some_seat-push}

-- Parts

pub parts_of-set : (views : List View) (id : ℕ) (v w : View) → get_elem? views id ≡ some v
    → parts_of (set views id w) + v.stake.parts ≡ parts_of views + w.stake.parts
parts_of-set [] id v w at = absurd (some-ne-none v (sym at))
parts_of-set (x ∷ xs) zero v w at =
    let e : x.stake.parts ≡ v.stake.parts = ap (λ (u : View). u.stake.parts) (some-injective x v at) in omega (arith, e)
parts_of-set (x ∷ xs) (suc id) v w at = let h = parts_of-set xs id v w at in omega (arith, h)

pub parts_of-push : (views : List View) (w : View) → parts_of (views ++ w ∷ []) ≡ parts_of views + w.stake.parts
parts_of-push [] w = omega arith
parts_of-push (x ∷ xs) w = let h = parts_of-push xs w in omega (arith, h)

pub parts_of-at : (views : List View) (id : ℕ) (v : View) → get_elem? views id ≡ some v → v.stake.parts ≤ parts_of views
parts_of-at [] id v at = absurd (some-ne-none v (sym at))
parts_of-at (x ∷ xs) zero v at =
    let e : x.stake.parts ≡ v.stake.parts = ap (λ (u : View). u.stake.parts) (some-injective x v at) in omega (arith, e)
parts_of-at (x ∷ xs) (suc id) v at = let h = parts_of-at xs id v at in omega (arith, h)

pub parts_of-two : (views : List View) (i j : ℕ) (v w : View) → i ≢ j → get_elem? views i ≡ some v
    → get_elem? views j ≡ some w → v.stake.parts + w.stake.parts ≤ parts_of views
parts_of-two [] i j v w ne at there = absurd (some-ne-none v (sym at))
parts_of-two (x ∷ xs) zero zero v w ne at there = absurd (ne refl)
parts_of-two (x ∷ xs) zero (suc j) v w ne at there =
    let e : x.stake.parts ≡ v.stake.parts = ap (λ (u : View). u.stake.parts) (some-injective x v at) in
    let h = parts_of-at xs j w there in
    omega (arith, e, h)
parts_of-two (x ∷ xs) (suc i) zero v w ne at there =
    let e : x.stake.parts ≡ w.stake.parts = ap (λ (u : View). u.stake.parts) (some-injective x w there) in
    let h = parts_of-at xs i v at in
    omega (arith, e, h)
parts_of-two (x ∷ xs) (suc i) (suc j) v w ne at there =
    let h = parts_of-two xs i j v w (λ e. ne (ap suc e)) at there in omega (arith, h)

-- no more parts are given than there are, and not the last one
pub given-le : (n : ℕ) → given n ≤ n
given-le n = omega arith

pub given-leaves_some : (n : ℕ) → n - given n ≡ 0 → n ≡ 0
given-leaves_some n none = omega (arith, none)

-- a seat that has no part has nothing
abbrev pub IsBacked : View → Type 0
IsBacked v = v.stake.parts ≡ 0 → (v.mine ≡ []) × (v.stake.undecided ≡ [])

pub AreStakes-set : (views : List View) (id : ℕ) (v w : View) → get_elem? views id ≡ some v
    → v.stake.parts ≡ w.stake.parts → IsBacked w → AreStakes views → AreStakes (set views id w)
AreStakes-set views id v w at same backed k = record {
  whole = let h = parts_of-set views id v w at in omega (arith, h, same, k.whole);
  backed = Each-set views IsBacked id w k.backed backed;
}

-- a seat gives parts to a new one
pub AreStakes-given : (views : List View) (id : ℕ) (v u w : View) → get_elem? views id ≡ some v
    → v.stake.parts ≡ u.stake.parts + w.stake.parts → (u.stake.parts ≡ 0 → v.stake.parts ≡ 0) → u.mine ≡ v.mine
    → u.stake.undecided ≡ v.stake.undecided → w.mine ≡ [] → w.stake.undecided ≡ [] → AreStakes views
    → AreStakes (set views id u ++ w ∷ [])
AreStakes-given views id v u w at same empty mine undecided new_mine new_undecided k = record {
  whole =
      let h = parts_of-set views id v u at in
      let p = parts_of-push (set views id u) w in
      omega (arith, h, p, same, k.whole);
  backed = Each-push (set views id u) IsBacked w
      (Each-set views IsBacked id u k.backed
      (λ bare. let had = k.backed id v at (empty bare) in (mine ∙ had.0, undecided ∙ had.1)))
      (λ _. (new_mine, new_undecided));
}

-- what two seats have is another one's and a new one's
pub AreStakes-two : (views : List View) (i j : ℕ) (v w x y : View) → i ≢ j → get_elem? views i ≡ some v
    → get_elem? views j ≡ some w → v.stake.parts + w.stake.parts ≡ x.stake.parts + y.stake.parts
    → IsBacked x → IsBacked y → AreStakes views → AreStakes (set (set views i x) j y)
AreStakes-two views i j v w x y ne at there same first second k =
    let then_there : get_elem? (set views i x) j ≡ some w = set_else views i j x (λ e. ne (sym e)) ∙ there in
    record {
      whole =
          let h = parts_of-set views i v x at in
          let p = parts_of-set (set views i x) j w y then_there in
          omega (arith, h, p, same, k.whole);
      backed = Each-set (set views i x) IsBacked j y (Each-set views IsBacked i x k.backed first) second;
    }

-- what a seat has moves to a new one
pub AreStakes-moved : (views : List View) (id : ℕ) (v u w : View) → get_elem? views id ≡ some v
    → v.stake.parts ≡ u.stake.parts + w.stake.parts → IsBacked u → IsBacked w → AreStakes views
    → AreStakes (set views id u ++ w ∷ [])
AreStakes-moved views id v u w at same first second k = record {
  whole =
      let h = parts_of-set views id v u at in
      let p = parts_of-push (set views id u) w in
      omega (arith, h, p, same, k.whole);
  backed = Each-push (set views id u) IsBacked w (Each-set views IsBacked id u k.backed first) second;
}

-- Owners

-- a seat has all places of another one, and all that it left undecided
pub record OwnsAll (w v : View) : Type 0 where
  pub places : (n : ℕ) → HasPlace v n → HasPlace w n
  pub undecided : AreAmong v.stake.undecided w.stake.undecided

pub OwnsAll-same : (v w : View) → v.mine ≡ w.mine → v.stake.undecided ≡ w.stake.undecided → OwnsAll w v
OwnsAll-same v w mine undecided = record {
  places = λ n one. subst (λ (ps : List ℕ). IsOneOf ps n) mine one;
  undecided = subst (λ (us : List Undecided). AreAmong v.stake.undecided us) undecided
      (AreAmong-refl v.stake.undecided);
}

-- of a seat that has nothing
pub OwnsAll-nothing : (v w : View) → v.mine ≡ [] → v.stake.undecided ≡ [] → OwnsAll w v
OwnsAll-nothing v w mine undecided = record {
  places = λ n one. absurd (subst (λ (ps : List ℕ). IsOneOf ps n) mine one);
  undecided = subst (λ (us : List Undecided). AreAmong us w.stake.undecided) (sym undecided) tt;
}

-- of two seats that are put together
pub OwnsAll-first : (v w : View) → OwnsAll (put_together v w) v
OwnsAll-first v w = record {
  places = IsOneOf-both_first v.mine w.mine;
  undecided = AreAmong-before v.stake.undecided v.stake.undecided w.stake.undecided
      (AreAmong-refl v.stake.undecided);
}

pub OwnsAll-second : (v w : View) → OwnsAll (put_together v w) w
OwnsAll-second v w = record {
  places = IsOneOf-both_second v.mine w.mine;
  undecided = AreAmong-behind v.stake.undecided w.stake.undecided w.stake.undecided
      (AreAmong-refl w.stake.undecided);
}

pub Owns-more : (entries : List Entry) (v w : View) → OwnsAll w v → (place : ℕ) → Owns entries v place
    → Owns entries w place
Owns-more entries v w all place owns = ⊎_elim
    (λ one. inl (all.places place one))
    (λ u. inr (
      u.0,
      IsAmong-AreAmong v.stake.undecided w.stake.undecided u.0 all.undecided u.1,
      u.2,
      u.3,
      u.4,
    ))
    owns

-- of a longer history
pub Owns-grown : (entries longer_one : List Entry) → IsPrefix entries longer_one → (v : View) (place : ℕ)
    → Owns entries v place → Owns longer_one v place
Owns-grown entries longer_one begins v place owns = ⊎_elim
    (λ one. inl one)
    (λ u. inr (u.0, u.1, u.2, u.3, IsPrefix-trans (u.0.entries ++ u.0.pending) entries longer_one u.4 begins))
    owns

module _ (views : List View) (P : View → Type 0) where
  -- some seat has it still, where another seat has it if the changed one had
  pub Some_seat-moved : (id j : ℕ) (v u w : View) → get_elem? views id ≡ some v → get_elem? views j ≡ some w → j ≢ id
      → (P v → P w) → Some_seat views P → Some_seat (set views id u) P
  Some_seat-moved id j v u w at there ne goes has = dite (ℕ_discrete has.0 id)
      (λ e. (
        j,
        w,
        set_else views id j u ne ∙ there,
        goes (subst P (at-same views id has.1 v
            (subst (λ (n : ℕ). get_elem? views n ≡ some has.1) e has.2) at) has.3),
      ))
      (λ other. (has.0, has.1, set_else views id has.0 u other ∙ has.2, has.3))

-- a history and what is pending behind it
abbrev pub both_of : (entries pending : List Entry) → Undecided
both_of entries pending = record { entries = entries; pending = pending }

-- what a seat left undecided
abbrev pub Left : (entries pending : List Entry) → View → Type 0
Left entries pending v = IsAmong v.stake.undecided (both_of entries pending)

module _ (views : List View) (entries pending : List Entry) where
  pub AreOwned-set : (id : ℕ) (v w : View) → get_elem? views id ≡ some v → OwnsAll w v
      → AreOwned views entries pending → AreOwned (set views id w) entries pending
  AreOwned-set id v w at all k = record {
    each = λ place lt. Some_seat-set views (λ u. Owns entries u place) id v w at (Owns-more entries v w all place)
        (k.each place lt);
    undecided = ⊎_elim
        (λ none. inl none)
        (λ has. inr (Some_seat-set views (Left entries pending) id v w at
        (IsAmong-AreAmong v.stake.undecided w.stake.undecided (both_of entries pending) all.undecided) has))
        k.undecided;
  }

  pub AreOwned-push : (w : View) → AreOwned views entries pending → AreOwned (views ++ w ∷ []) entries pending
  AreOwned-push w k = record {
    each = λ place lt. Some_seat-push views (λ u. Owns entries u place) w (k.each place lt);
    undecided = ⊎_elim
        (λ none. inl none)
        (λ has. inr (Some_seat-push views (Left entries pending) w has))
        k.undecided;
  }

  -- a seat becomes another one, where a third has all that it had
  pub AreOwned-moved : (id j : ℕ) (v u w : View) → get_elem? views id ≡ some v → get_elem? views j ≡ some w → j ≢ id
      → OwnsAll w v → AreOwned views entries pending → AreOwned (set views id u) entries pending
  AreOwned-moved id j v u w at there ne all k = record {
    each = λ place lt. Some_seat-moved views (λ x. Owns entries x place) id j v u w at there ne
        (Owns-more entries v w all place) (k.each place lt);
    undecided = ⊎_elim
        (λ none. inl none)
        (λ has. inr (Some_seat-moved views (Left entries pending) id j v u w at there ne
        (IsAmong-AreAmong v.stake.undecided w.stake.undecided (both_of entries pending) all.undecided) has))
        k.undecided;
  }

-- a seat has its own places and those of its turn, and what it left undecided before
OwnsAll-turned : (v w : View) (entries pending : List Entry) (own : List ℕ) (failed : Bool) → w.mine ≡ v.mine ++ own
    → w.stake ≡ stake_after v.stake failed entries pending → OwnsAll w v
OwnsAll-turned v w entries pending own failed mine stake = record {
  places = λ n one. subst (λ (ps : List ℕ). IsOneOf ps n) (sym mine) (IsOneOf-append_first v.mine own n one);
  undecided = subst (λ (s : Stake). AreAmong v.stake.undecided s.undecided) (sym stake)
      (AreAmong-behind (left_by failed entries pending) v.stake.undecided v.stake.undecided
      (AreAmong-refl v.stake.undecided));
}

-- what a turn goes on from begins what it comes to
pub AccountsFor-begins : (t : Taken) (entries pending : List Entry) (own : List ℕ) (failed : Bool)
    → AccountsFor t entries pending own failed → IsPrefix t.entries entries
AccountsFor-begins t entries pending own failed g = ⊎_elim
    (λ e. subst (λ (l : List Entry). IsPrefix l entries) e g.begins)
    (λ e. IsPrefix-trans t.entries g.repaired entries
    (subst (λ (l : List Entry). IsPrefix t.entries l) (sym e) (t.pending, refl)) g.begins)
    g.found

module _ (views : List View) (id : ℕ) (v w : View) (t : Taken) (entries pending : List Entry) (own : List ℕ)
    (failed : Bool) (at : get_elem? views id ≡ some v) (mine : w.mine ≡ v.mine ++ own)
    (stake : w.stake ≡ stake_after v.stake failed entries pending) (g : AccountsFor t entries pending own failed)
    (k : AreOwned views t.entries t.pending) where
  all : OwnsAll w v
  all = OwnsAll-turned v w entries pending own failed mine stake

  -- the turn recorded the entry
  recorded_here : (place : ℕ) → length g.repaired ≤ place → place < length entries
      → Some_seat (set views id w) (λ u. Owns entries u place)
  recorded_here place low lt = Some_seat-here views (λ u. Owns entries u place) id v w at
      (inl (subst (λ (ps : List ℕ). IsOneOf ps place) (sym mine)
      (IsOneOf-append_second v.mine own place (g.recorded place low lt))))

  -- the entry stood before
  owned_before : (place : ℕ) → place < length t.entries → Some_seat (set views id w) (λ u. Owns entries u place)
  owned_before place lt =
      let has = Some_seat-set views (λ u. Owns t.entries u place) id v w at (Owns-more t.entries v w all place)
      (k.each place lt) in (
        has.0,
        has.1,
        has.2,
        Owns-grown t.entries entries (AccountsFor-begins t entries pending own failed g) has.1 place has.3,
      )

  -- the entry was pending, and a repair found it
  found_again : (place : ℕ) → g.repaired ≡ t.entries ++ t.pending → length t.entries ≤ place
      → place < length g.repaired → Some_seat (set views id w) (λ u. Owns entries u place)
  found_again place is low high = ⊎_elim
      (λ (none : t.pending ≡ []).
      let n : length g.repaired ≡ length (t.entries ++ t.pending) = ap (λ (l : List Entry). length l) is in
      let m = length-append t.entries t.pending in
      let o : length t.pending ≡ 0 = ap (λ (l : List Entry). length l) none in
      absurd (omega (arith, n, m, o, low, high)))
      (λ (some_one : Some_seat views (Left t.entries t.pending)).
      let has = Some_seat-set views (Left t.entries t.pending) id v w at
      (IsAmong-AreAmong v.stake.undecided w.stake.undecided (both_of t.entries t.pending) all.undecided) some_one in
      let n : length g.repaired ≡ length (t.entries ++ t.pending) = ap (λ (l : List Entry). length l) is in (
        has.0,
        has.1,
        has.2,
        inr (
          both_of t.entries t.pending,
          has.3,
          low,
          omega (arith, n, high),
          subst (λ (l : List Entry). IsPrefix l entries) is g.begins,
        ),
      ))
      k.undecided

  owned_after : (place : ℕ) → place < length entries → Some_seat (set views id w) (λ u. Owns entries u place)
  owned_after place lt = dite (dec_le (place + 1) (length t.entries))
      (λ before. owned_before place (omega (arith, before)))
      (λ behind. ⊎_elim
      (λ (e : g.repaired ≡ t.entries).
      let n : length g.repaired ≡ length t.entries = ap (λ (l : List Entry). length l) e in
      recorded_here place (omega (arith, behind, n)) lt)
      (λ (e : g.repaired ≡ t.entries ++ t.pending). dite (dec_le (place + 1) (length g.repaired))
      (λ within. found_again place e (omega (arith, behind)) (omega (arith, within)))
      (λ past. recorded_here place (omega (arith, past)) lt))
      g.found)

  undecided_after : (pending ≡ []) ⊎ Some_seat (set views id w) (Left entries pending)
  undecided_after = ⊎_elim
      (λ none. inl none)
      (λ more. ⊎_elim
      (λ (same : (entries ≡ t.entries) × (pending ≡ t.pending)). ⊎_elim
      (λ (none : t.pending ≡ []). inl (same.1 ∙ none))
      (λ (some_one : Some_seat views (Left t.entries t.pending)). inr
      (subst (λ (l : List Entry). Some_seat (set views id w) (Left l pending)) (sym same.0)
      (subst (λ (l : List Entry). Some_seat (set views id w) (Left t.entries l)) (sym same.1)
      (Some_seat-set views (Left t.entries t.pending) id v w at
      (IsAmong-AreAmong v.stake.undecided w.stake.undecided (both_of t.entries t.pending) all.undecided) some_one))))
      k.undecided)
      (λ (fails : failed ≡ true). inr (Some_seat-here views (Left entries pending) id v w at
      (subst (λ (s : Stake). IsAmong s.undecided (both_of entries pending)) (sym stake)
      (subst (λ (b : Bool). IsAmong (stake_after v.stake b entries pending).undecided (both_of entries pending))
      (sym fails) (inl refl)))))
      more)
      g.undecided

  -- a turn goes on from what all own
  pub AreOwned-turned : AreOwned (set views id w) entries pending
  AreOwned-turned = record { each = owned_after; undecided = undecided_after }

-- a seat that has all parts owns all
pub owned-whole : (views : List View) (id : ℕ) (v : View) (entries pending : List Entry) → get_elem? views id ≡ some v
    → AreStakes views → AreOwned views entries pending → v.stake.parts ≡ all_parts
    → IsOwned v.mine v.stake.undecided entries
owned-whole views id v entries pending at stakes k whole place lt =
    let has = k.each place lt in
    dite (ℕ_discrete has.0 id)
    (λ e. subst (λ (x : View). Owns entries x place)
    (at-same views id has.1 v (subst (λ (n : ℕ). get_elem? views n ≡ some has.1) e has.2) at) has.3)
    (λ ne.
    let two = parts_of-two views has.0 id has.1 v ne has.2 at in
    let nothing = stakes.backed has.0 has.1 has.2 (omega (arith, two, whole, stakes.whole)) in
    absurd (⊎_elim
    (λ one. subst (λ (ps : List ℕ). IsOneOf ps place) nothing.0 one)
    (λ u. subst (λ (us : List Undecided). IsAmong us u.0) nothing.1 u.1)
    has.3))

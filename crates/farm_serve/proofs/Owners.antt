-- Whose the entries are, as links are given and taken back.
use Rattle.std.proofs.Common.{◌≡◌, ◌⊎◌, ◌++◌, ◌∷◌, [], List, ℕ, Option, Some, None, IfSome, Result, Ok, Err, false, ◌+◌, ◌-◌, ◌<◌, ◌≤◌, inl, inr, ⊎_elim, length, take, drop, arith, sym, refl, ap, ◌∙◌, subst, length-append}
use Rattle.connection_laws.specs.Marks.{Mark, Follows}
use Rattle.connection_laws.specs.Moments.{Given}
use Rattle.connection_laws.specs.Owners.{AreAllOwned, Holding, both_owned, holding_of, none_owned}
use Rattle.connection_laws.specs.Progress.{Progress}
use Rattle.connection_laws.specs.Serving.{Serves}
use Rattle.connection_laws.specs.Told.{Saying}
use Rattle.connection_laws.specs.declared.served.ServeFault.{ServeFault}
use Rattle.connection_laws.specs.declared.served.Served.{Served}
use Rattle.farm_entry.specs.declared.entry.Entry.{Entry}
use Rattle.farm_http.specs.Callers.{mark_of}
use Rattle.farm_types.specs.declared.moment.Moment.{Moment}
use Rattle.link_io.specs.Links.{LinkState}
use Rattle.link_io.specs.Events.{NetworkEvent}
use Rattle.common_types.specs.Rows.{IsAmong}
use Rattle.turn_lock.specs.Known.{IsOwned, IsReady, Known, WasPending, all_parts, both_stakes, first_stake, given, stake_kept}
use Rattle.turn_lock.specs.Loans.{AreOut}
use Rattle.turn_lock.specs.Places.{ArePlaces, both_places}
use Rattle.turn_lock.specs.declared.view.Stake.{Stake}
use Rattle.turn_lock.specs.declared.view.Undecided.{Undecided}
use Rattle.farm_serve.specs.Entries.{AtEntry, start_of}
use Rattle.farm_serve.specs.Nexts.{IsNew}
use Rattle.farm_serve.specs.Serving.{IsGainedBy, IsServing, IsStaked, owned_by}

-- no entry is known to be a new pass's
pub new-none : (pass : Known) → IsNew pass → (holding_of pass).owned ≡ none_owned
new-none pass new =
    ap (λ (l : List ℕ). record { places = l; undecided = pass.stake.undecided }) new.1
    ∙ ap (λ (us : List Undecided). record { places = []; undecided = us }) new.2

-- a pass keeps its parts while a connection is served
pub serves-parts : (result : Result Served ServeFault) (start : Progress) (final : Mark) (gives : Given → Type 0)
    (said : Saying) (old new : LinkState) (mine kept : Holding) (read : List Entry)
    → Serves result start final gives said old new mine kept read → kept.parts ≡ mine.parts
serves-parts (Ok served) start final gives said old new mine kept read s = s.keeps.holds.parts
serves-parts (Err fault) start final gives said old new mine kept read s = s.keeps.holds.parts

-- and what it lent and borrowed
pub serves-lending : (result : Result Served ServeFault) (start : Progress) (final : Mark) (gives : Given → Type 0)
    (said : Saying) (old new : LinkState) (mine kept : Holding) (read : List Entry)
    → Serves result start final gives said old new mine kept read → kept.lending ≡ mine.lending
serves-lending (Ok served) start final gives said old new mine kept read s = s.keeps.holds.lending
serves-lending (Err fault) start final gives said old new mine kept read s = s.keeps.holds.lending

-- Parts

-- a link is given
pub staked_next : (a : AtEntry) (old new : Known) (out left fewer : ℕ) → fewer + 1 ≡ left
    → new.stake ≡ stake_kept old.seen old.faults old.stake → new.seen ≡ old.seen → new.mine ≡ old.mine
    → IsStaked a old out left
    → IsStaked a new (out + 1) fewer
staked_next a old new out left fewer less kept seen mine k =
    let p = old.stake.parts in
    let enough = k.enough in
    let parts : new.stake.parts ≡ p - given p = ap (λ (s : Stake). s.parts) kept in
    let undecided : new.stake.undecided ≡ old.stake.undecided = ap (λ (s : Stake). s.undecided) kept in
    record {
      whole = omega (arith, parts, k.whole, enough, less);
      enough = omega (arith, parts, enough, less);
      places = subst (λ (ps : List ℕ). ArePlaces 0 (length new.seen) ps) (sym mine)
          (subst (λ (H : List Entry). ArePlaces 0 (length H) old.mine) (sym seen) k.places);
      begun = ap (λ (us : List Undecided). take 2 us) undecided ∙ k.begun;
      key = ap (λ (s : Stake). s.lending.keys) kept ∙ k.key;
    }

-- an accept gave none
pub staked_fewer : (a : AtEntry) (pass : Known) (out left fewer : ℕ) → fewer ≤ left → IsStaked a pass out left
    → IsStaked a pass out fewer
staked_fewer a pass out left fewer less k =
    record {
      whole = k.whole;
      enough = (let e = k.enough in omega (arith, e, less));
      places = k.places;
      begun = k.begun;
      key = k.key;
    }

-- the pass looked at the farm
pub staked_same : (a : AtEntry) (old new : Known) (out left : ℕ) → new.stake ≡ old.stake
    → ArePlaces 0 (length new.seen) new.mine → IsStaked a old out left → IsStaked a new out left
staked_same a old new out left same places k = record {
  whole = ap (λ (s : Stake). s.parts + out) same ∙ k.whole;
  enough = subst (λ (s : Stake). left < s.parts) (sym same) k.enough;
  places = places;
  begun = ap (λ (s : Stake). take 2 s.undecided) same ∙ k.begun;
  key = ap (λ (s : Stake). s.lending.keys) same ∙ k.key;
}

drop-two : (us ws : List Undecided) → length (take 2 us) ≡ 2 → drop 2 (us ++ ws) ≡ drop 2 us ++ ws
drop-two [] ws two = absurd (omega (arith, two))
drop-two (u ∷ []) ws two = absurd (omega (arith, two))
drop-two (u ∷ v ∷ us) ws two = refl

take-two : (us ws : List Undecided) → length (take 2 us) ≡ 2 → take 2 (us ++ ws) ≡ take 2 us
take-two [] ws two = absurd (omega (arith, two))
take-two (u ∷ []) ws two = absurd (omega (arith, two))
take-two (u ∷ v ∷ us) ws two = refl

-- what the first pass has from its start on are two
two-begun : (a : AtEntry) (pass : Known) (out left : ℕ) → IsStaked a pass out left
    → length (take 2 pass.stake.undecided) ≡ 2
two-begun a pass out left k = ap (λ (us : List Undecided). length us) k.begun

-- a link is taken back
pub staked_back : (a : AtEntry) (old mine held : Known) (out left_out left : ℕ) → left_out + 1 ≡ out
    → mine.stake.parts ≡ 1 → mine.stake.lending.keys ≡ 0 → held.stake ≡ both_stakes old.stake mine.stake
    → ArePlaces 0 (length held.seen) held.mine → IsStaked a old out left → IsStaked a held left_out left
staked_back a old mine held out left_out left less one no_key both places k =
    let parts : held.stake.parts ≡ old.stake.parts + mine.stake.parts = ap (λ (s : Stake). s.parts) both in
    let enough = k.enough in
    record {
      whole = omega (arith, parts, one, less, k.whole);
      enough = omega (arith, parts, enough);
      places = places;
      begun = ap (λ (s : Stake). take 2 s.undecided) both
          ∙ take-two old.stake.undecided mine.stake.undecided (two-begun a old out left k) ∙ k.begun;
      key =
          let keys : held.stake.lending.keys ≡ old.stake.lending.keys + mine.stake.lending.keys =
          ap (λ (s : Stake). s.lending.keys) both in
          omega (arith, keys, no_key, k.key);
    }

-- and what entries are its own comes to those of the others
pub owned_back : (a : AtEntry) (old mine held : Known) (out left : ℕ) → held.mine ≡ both_places old.mine mine.mine
    → held.stake ≡ both_stakes old.stake mine.stake → IsStaked a old out left
    → owned_by held ≡ both_owned (owned_by old) (holding_of mine).owned
owned_back a old mine held out left places both k =
    ap (λ (l : List ℕ). record { places = l; undecided = drop 2 held.stake.undecided }) places
    ∙ ap (λ (us : List Undecided). record { places = both_places old.mine mine.mine; undecided = us })
    (ap (λ (s : Stake). drop 2 s.undecided) both
    ∙ drop-two old.stake.undecided mine.stake.undecided (two-begun a old out left k))

-- the same entries are known
pub owned_same : (old new : Known) → new.mine ≡ old.mine → new.stake.undecided ≡ old.stake.undecided
    → owned_by new ≡ owned_by old
owned_same old new places undecided =
    ap (λ (l : List ℕ). record { places = l; undecided = drop 2 new.stake.undecided }) places
    ∙ ap (λ (us : List Undecided). record { places = old.mine; undecided = drop 2 us }) undecided

-- at the start

owned-start : (a : AtEntry) (pass : Known) → pass.mine ≡ [] → pass.stake ≡ first_stake a.first []
    → owned_by pass ≡ none_owned
owned-start a pass mine stake =
    ap (λ (l : List ℕ). record { places = l; undecided = drop 2 pass.stake.undecided }) mine
    ∙ ap (λ (s : Stake). record { places = []; undecided = drop 2 s.undecided }) stake

pub staked_start : (a : AtEntry) (pass : Known) (links : ℕ) → links < all_parts
    → pass.stake ≡ first_stake a.first [] → pass.mine ≡ [] → IsStaked a pass 0 links
staked_start a pass links few stake mine = record {
  whole = (let e : pass.stake.parts ≡ all_parts = ap (λ (s : Stake). s.parts) stake in omega (arith, e));
  enough = subst (λ (s : Stake). links < s.parts) (sym stake) few;
  places = subst (λ (l : List ℕ). ArePlaces 0 (length pass.seen) l) (sym mine) tt;
  begun = ap (λ (s : Stake). take 2 s.undecided) stake;
  key = ap (λ (s : Stake). s.lending.keys) stake;
}

begun : (a : AtEntry) (clock : Moment → Type 0) (pass : Known) (read : List Entry) (out links : ℕ)
    (told now : Option (List NetworkEvent)) → told ≡ now → a.links ≡ links → out ≡ 0 → owned_by pass ≡ none_owned
    → Follows (start_of a) (mark_of pass read) → AreOut pass.stake.lending []
    → IfSome told (λ before. IsGainedBy a clock pass read out
    (record { left = links; ended = false; failed = false; short = false }) before now)
begun a clock pass read out links None now same many none owned follows are_out = tt
begun a clock pass read out links (Some before) now same many none owned follows are_out = record {
  gained = [];
  is = sym same;
  accepts = omega (arith, many);
  last = refl;
  asked = tt;
  faults = refl;
  links = omega (arith, none);
  loans = [];
  are_out = are_out;
  held = (owned, follows, λ w. refl);
}

pub serving_start : (a : AtEntry) (clock : Moment → Type 0) (pass : Known) (read : List Entry) (out links : ℕ)
    (now : Option (List NetworkEvent)) (count : ℕ) → IsReady a.lock pass → Follows (start_of a) (mark_of pass read)
    → a.told ≡ now → a.count ≡ count
    → a.links ≡ links → out ≡ 0 → pass.mine ≡ [] → pass.stake ≡ first_stake a.first []
    → IsServing a clock pass read out (record { left = links; ended = false; failed = false; short = false }) now count
serving_start a clock pass read out links now count ready begins told counted many none mine stake = record {
  ready = ready;
  begins = begins;
  faults = omega (arith, counted);
  rose = λ failed. absurd (cc failed);
  gained = begun a clock pass read out links a.told now told many none (owned-start a pass mine stake) begins
      (subst (λ (s : Stake). AreOut s.lending []) (sym stake) (λ w. refl));
}

-- At the end: a pass that has all parts of the farm owns its history, and what it has from its start on is the first
-- history.

-- one of a list of two and others
among-two : (us : List Undecided) (x y u : Undecided) → take 2 us ≡ x ∷ y ∷ [] → IsAmong us u
    → (x ≡ u) ⊎ ((y ≡ u) ⊎ IsAmong (drop 2 us) u)
among-two [] x y u two here = absurd here
among-two (v ∷ []) x y u two here =
    absurd (let n = ap (λ (l : List Undecided). length l) two in omega (arith, n))
among-two (v ∷ w ∷ us) x y u two here =
    let first : v ≡ x = cc in
    let second : w ≡ y = cc in
    ⊎_elim (λ e. inl (sym first ∙ e)) (λ more. ⊎_elim (λ e. inr (inl (sym second ∙ e))) (λ rest. inr (inr rest)) more)
    here

pub all-owned : (a : AtEntry) (pass : Known) (left : ℕ) (history : List Entry) → IsStaked a pass 0 left
    → (pass.stake.parts ≡ all_parts → IsOwned pass.mine pass.stake.undecided history)
    → AreAllOwned (owned_by pass) (length a.first) history
all-owned a pass left history k owns place low high =
    let whole : pass.stake.parts ≡ all_parts = (let w = k.whole in omega (arith, w)) in
    let x : Undecided = record { entries = []; pending = a.first } in
    let y : Undecided = record { entries = a.first; pending = [] } in
    let none = length-append a.first [] in
    ⊎_elim
    (λ one. inl one)
    (λ (w : WasPending pass.stake.undecided history place). ⊎_elim
    (λ (e : x ≡ w.0).
    let n : length a.first ≡ length (w.0.entries ++ w.0.pending) =
    ap (λ (u : Undecided). length (u.entries ++ u.pending)) e in
    absurd (omega (arith, n, w.3, low)))
    (λ more. ⊎_elim
    (λ (e : y ≡ w.0).
    let n : length (a.first ++ []) ≡ length (w.0.entries ++ w.0.pending) =
    ap (λ (u : Undecided). length (u.entries ++ u.pending)) e in
    absurd (omega (arith, n, none, w.3, low)))
    (λ rest. inr (w.0, rest, w.2, w.3, w.4))
    more)
    (among-two pass.stake.undecided x y w.0 k.begun w.1))
    (owns whole place high)

-- what a pass owns it owns after a look
pub same-owned : (old new : Known) (history : List Entry) → new.mine ≡ old.mine → new.stake ≡ old.stake
    → (new.stake.parts ≡ all_parts → IsOwned new.mine new.stake.undecided history) → old.stake.parts ≡ all_parts
    → IsOwned old.mine old.stake.undecided history
same-owned old new history mine stake owns whole =
    subst (λ (ps : List ℕ). IsOwned ps old.stake.undecided history) mine
    (subst (λ (s : Stake). IsOwned new.mine s.undecided history) stake
    (owns (ap (λ (s : Stake). s.parts) stake ∙ whole)))

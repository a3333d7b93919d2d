-- What serving came to.
use Rattle.std.proofs.Common.{◌≡◌, ◌⊎◌, inl, inr, ◌<◌, ◌≤◌, ◌+◌, [], ℕ, List, length, Option, Some, None, IfSome, Bool, true, false, arith, sym, refl, subst, ◌∙◌, zero, suc}
use Rattle.connection_laws.specs.Marks.{Mark, Follows}
use Rattle.connection_laws.specs.Owners.{AreAllOwned, Owned, none_owned}
use Rattle.connection_laws.specs.Told.{Saying}
use Rattle.turn_lock.specs.Places.{ArePlaces}
use Rattle.turn_lock.specs.declared.view.Lending.{Lending}
use Rattle.farm_types.specs.declared.moment.Moment.{Moment}
use Rattle.link_io.specs.Notes.{Note}
use Rattle.common_types.specs.Counts.{Rose}
use Rattle.link_io.specs.Events.{NetworkEvent}
use Rattle.farm_serve.proofs.Counts.{IfSome-map}
use Rattle.farm_serve.proofs.Marks.{Follows-trans, IsSaidBy}
use Rattle.farm_serve.proofs.Steps.{AreHeldBack-all, AreHeldBack-longer, stands}
use Rattle.farm_serve.specs.Entries.{AtEntry, start_of}
use Rattle.farm_serve.specs.Gained.{accepts_of, last_ended}
use Rattle.outside_seen.specs.Outside.{network_seen}
use Rattle.farm_serve.specs.Serving.{IsGained, AreServed, ComesTo}
use Rattle.farm_serve.specs.Standings.{IsClosed}
use Rattle.farm_serve.specs.declared.standing.ServeState.{ServeState}

accepts_made : (made left links : ℕ) (last : Bool) → made + left ≡ links → (left ≡ 0) ⊎ (last ≡ true)
    → (made ≡ links) ⊎ ((made < links) × (last ≡ true))
accepts_made made zero links last e over = inl (omega arith)
accepts_made made (suc left) links last e (inl none) = absurd (omega arith)
accepts_made made (suc left) links last e (inr ended) = inr (omega arith, ended)

-- where memory never ran out, all accepts were made
closed_by : (s : ServeState) → IsClosed s ⊎ (s.short ≡ true) → s.short ≡ false → IsClosed s
closed_by s (inl closed) fine = closed
closed_by s (inr want) fine = absurd (cc (want, fine))

served_at : (a : AtEntry) (clock other : Moment → Type 0)
    (said in_words : List Note → Saying) (seen final : Mark) (owned : Owned) (lending : Lending) (s : ServeState)
    (now : Option (List NetworkEvent))
    → IsClosed s ⊎ (s.short ≡ true) → Follows seen final → ((at : Moment) → clock at → other at)
    → IsSaidBy final said in_words → ArePlaces 0 (length final.seen) owned.places
    → AreAllOwned owned (length a.first) final.seen
    → IfSome a.told (λ before. IsGained a clock said seen owned lending 0 s before now)
    → IfSome a.told (λ before. AreServed (start_of a) final other in_words a.links s before now)
served_at a clock other said in_words seen final owned lending s now over follows more by places whose =
    IfSome-map a.told (λ before. IsGained a clock said seen owned lending 0 s before now)
    (λ before. AreServed (start_of a) final other in_words a.links s before now)
    (λ before h. record {
      gained = h.gained;
      is = h.is;
      accepts = λ fine. accepts_made (accepts_of h.gained) s.left a.links (last_ended h.gained) h.accepts
          (elim (closed_by s over fine) [ inl none ↦ inl none | inr ended ↦ inr (h.last ∙ ended) ]);
      asked = h.asked;
      back = (let e = h.links in omega arith);
      held = AreHeldBack-all (start_of a) final other in_words s.short owned h.loans h.gained h.asked
          (let e = h.links in omega arith)
          (AreHeldBack-longer (start_of a) seen final clock other said in_words s.short s.short owned h.loans h.gained
          follows more by (λ is. is) h.held);
      owned = owned;
      places = places;
      whose = whose;
      faults = h.faults;
    })

-- what serving came to, by what there was at entry
pub comes : (a e : AtEntry) (clock other : Moment → Type 0)
    (said in_words : List Note → Saying) (seen final : Mark) (owned : Owned) (lending : Lending) (s : ServeState)
    (now : Option (List NetworkEvent)) (count : ℕ) → a ≡ e → IsClosed s ⊎ (s.short ≡ true) → Follows (start_of a) seen
    → Follows seen final → ((at : Moment) → clock at → other at) → IsSaidBy final said in_words
    → ArePlaces 0 (length final.seen) owned.places → AreAllOwned owned (length a.first) final.seen
    → IfSome a.told (λ before. IsGained a clock said seen owned lending 0 s before now)
    → (s.failed ≡ true → Rose a.count count) → a.count ≤ count
    → ComesTo (start_of e) final other in_words e.links s (network_seen e.told e.count) (network_seen now count)
comes a e clock other said in_words seen final owned lending s now count same over begins follows more by places whose
    gained rose never =
    subst (λ (x : AtEntry). ComesTo (start_of x) final other in_words x.links s (network_seen x.told x.count)
    (network_seen now count)) same record {
      follows = Follows-trans (start_of a) seen final begins follows;
      served = served_at a clock other said in_words seen final owned lending s now over follows more by places whose
          gained;
      rose = rose;
      never_falls = never;
    }

no_accept : (start final : Mark) (clock : Moment → Type 0)
    (said : List Note → Saying) (links : ℕ) (told : Option (List NetworkEvent))
    → Follows start final → length final.seen ≤ length start.seen
    → IfSome told (λ before. AreServed start final clock said links (stands links false false true) before told)
no_accept start final clock said links None follows same = tt
no_accept start final clock said links (Some before) follows same = record {
  gained = [];
  is = refl;
  accepts = λ fine. absurd cc;
  asked = tt;
  back = refl;
  owned = none_owned;
  held = (refl, follows, λ w. refl);
  places = tt;
  whose = λ place low high. absurd (omega (arith, same, low, high));
  faults = refl;
}

-- no accept was made, as memory ran out
pub comes_to_none : (start final : Mark) (clock : Moment → Type 0)
    (said : List Note → Saying) (links : ℕ) (told : Option (List NetworkEvent))
    (count : ℕ) (s : ServeState) → s ≡ stands links false false true → Follows start final
    → length final.seen ≤ length start.seen
    → ComesTo start final clock said links s (network_seen told count) (network_seen told count)
comes_to_none start final clock said links told count s is follows same =
    subst (λ (x : ServeState). ComesTo start final clock said links x (network_seen told count)
    (network_seen told count))
    (sym is)
    record {
      follows = follows;
      served = no_accept start final clock said links told follows same;
      rose = λ failed. absurd cc;
      never_falls = omega arith;
    }

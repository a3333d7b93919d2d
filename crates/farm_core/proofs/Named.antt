-- Entries that commands made: what the calls of a farm ask of the place of one.
use Rattle.std.proofs.Common.{◌≡◌, ℕ, true, List, [], ◌∷◌, ◌++◌, length, slice_get, take, drop, Option, Some, None, refl, sym, ap, subst, ◌∙◌, true≢false}
use Rattle.std.specs.Option.{is_some}
use Rattle.std.proofs.lemmas.List.{length-take-le, take-append-drop}
use Rattle.farm_types.specs.declared.moment.Moment.{Moment}
use Rattle.farm_entry.specs.Decision.{decide}
use Rattle.farm_entry.specs.Legal.{command_of}
use Rattle.farm_entry.specs.declared.command.Command.{Command}
use Rattle.farm_entry.specs.declared.decision.Decision.{Decision}
use Rattle.farm_entry.specs.declared.decision.Decision.TheVariants.{New, Repeat}
use Rattle.farm_entry.specs.declared.entry.Entry.{Entry}
use Rattle.farm_laws.proofs.Recorded as laws
use Rattle.farm_laws.proofs.Repeats.{repeat-named}
use Rattle.farm_laws.proofs.Replies.{slice_get-last}
use Rattle.farm_core.specs.FarmInside.{IsFarm, farm_view}
use Rattle.farm_core.specs.FarmView.{FarmView}
use Rattle.farm_core.specs.Outcome.{IsOfCommand}
use Rattle.farm_core.specs.declared.farm.Farm.TheInside.{Inside}

-- an entry that is repeated
pub repeated-made : (H : List Entry) (q : Command) (m : Moment) (d : Decision) (place : ℕ) → d ≡ decide H q m →
    d ≡ Repeat place → IsOfCommand H place
repeated-made H q m d place decided is =
    let named = repeat-named H q m place (sym decided ∙ is) in
    record { entry = named.entry; there = named.there; command = named.command; named = named.named }

-- an entry that is added
pub added-named : (H : List Entry) (q : Command) (m : Moment) (d : Decision) (e : Entry) → d ≡ decide H q m →
    d ≡ New e → (p : Command) × (command_of e.what ≡ Some p)
added-named H q m d e decided is = laws.added-named H q m e (sym decided ∙ is)

pub some-named : (w : Option Command) → (p : Command) × (w ≡ Some p) → is_some w ≡ true
some-named w named = ap (λ (q : Option Command). is_some q) named.1

named-some : (w : Option Command) → is_some w ≡ true → (p : Command) × (w ≡ Some p)
named-some None is = absurd (true≢false (sym is))
named-some (Some q) is = (q, refl)

-- the one that may be committed next
pub next-made : (H ready : List Entry) (e : Entry) → ready ≡ e ∷ [] → is_some (command_of e.what) ≡ true →
    IsOfCommand (H ++ ready) (length H)
next-made H ready e one is =
    let named = named-some (command_of e.what) is in
    record {
      entry = e;
      there = ap (λ (l : List Entry). slice_get (H ++ l) (length H)) one ∙ slice_get-last H e;
      command = named.0;
      named = named.1;
    }

-- and where it is kept
pub kept-made : (f : Inside) (v : FarmView) → IsFarm f → farm_view f ≡ v →
    IsOfCommand (v.history ++ v.ready) (length v.history) → IsOfCommand f.kept f.committed
kept-made f v is same made =
    let n = f.committed in
    let here : IsOfCommand (take n f.kept ++ drop n f.kept) (length (take n f.kept)) =
    subst (λ (g : FarmView). IsOfCommand (g.history ++ g.ready) (length g.history)) (sym same) made in
    subst (λ (L : List Entry). IsOfCommand L n) (take-append-drop n f.kept)
    (subst (IsOfCommand (take n f.kept ++ drop n f.kept)) (length-take-le n f.kept is.within) here)

-- Marks that follow one another, and what is held of a link for them.
use Rattle.std.proofs.Common.{ℕ, ◌≡◌, inl, inr, Bool, true, List, arith}
use Rattle.std.specs.Prelude.{⊤}
use Rattle.connection_laws.proofs.Loop.{held-longer, held-said}
use Rattle.connection_laws.proofs.Moments.{held-more}
use Rattle.connection_laws.specs.Marks.{Mark, Follows}
use Rattle.connection_laws.specs.Moments.{Given, at_moment, at_count, given_by, with_counts}
use Rattle.connection_laws.specs.Owners.{Owned}
use Rattle.connection_laws.specs.Progress.{progress_at}
use Rattle.connection_laws.specs.Serving.{IsHeldOf}
use Rattle.connection_laws.specs.Told.{Saying}
use Rattle.farm_types.specs.declared.moment.Moment.{Moment}
use Rattle.farm_entry.specs.declared.entry.Entry.{Entry}
use Rattle.link_io.specs.Links.{LinkState}
use Rattle.link_io.specs.Notes.{Note}
use Rattle.common_types.specs.Prefix.{IsPrefix}
use Rattle.common_types.proofs.Prefixes.{IsPrefix-refl, IsPrefix-trans}
use Rattle.farm_serve.specs.Links.{IsHeldBack}

pub Follows-refl : (m : Mark) → Follows m m
Follows-refl m = record { longer = IsPrefix-refl m.seen; counted = IsPrefix-refl m.totals; more = omega arith }

pub Follows-trans : (a b c : Mark) → Follows a b → Follows b c → Follows a c
Follows-trans a b c h k = record {
  longer = IsPrefix-trans a.seen b.seen c.seen h.longer k.longer;
  counted = IsPrefix-trans a.totals b.totals c.totals h.counted k.counted;
  more = (let p = h.more in let q = k.more in omega arith);
}

-- what is said by notes of a history that begins the one of a mark may be said in other words
abbrev pub IsSaidBy : Mark → (said other : List Note → Saying) → Type 0
IsSaidBy later said other =
    (notes : List Note) (place : ℕ) (H : List Entry) → IsPrefix H later.seen → said notes place H → other notes place H

pub IsSaidBy-refl : (later : Mark) (said : List Note → Saying) → IsSaidBy later said said
IsSaidBy-refl later said notes place H begins holds = holds

-- what is held for a mark is held for each that follows, with more that may be given
pub IsHeldOf-more : (start final later : Mark) (one other : Given → Type 0) (said in_words : List Note → Saying)
    (owned : Owned) (link : LinkState) (whole : Bool) → Follows final later
    → ((given : Given) → one given → other given) → IsSaidBy later said in_words
    → IsHeldOf start final one said owned link whole → IsHeldOf start later other in_words owned link whole
unfolding held-longer held-more held-said
IsHeldOf-more start final later one other said in_words owned link whole follows more by h = record {
  taken = h.taken;
  put = h.put;
  takes = h.takes;
  puts = h.puts;
  notes = h.notes;
  tells = h.tells;
  held =
      held-said (progress_at start) later other (said h.notes) (in_words h.notes) h.taken h.put link.ended whole
      (by h.notes)
      (held-more one other more (progress_at start) later (said h.notes) h.taken h.put link.ended whole
      (held-longer (progress_at start) final later one (said h.notes) h.taken h.put link.ended whole follows h.held));
  owns = h.owns;
}

-- any counts, by a clock that may give more
pub any_counts : (clock other : Moment → Type 0) (counts : ℕ → Type 0) → ((at : Moment) → clock at → other at)
    → (given : Given) → given_by clock counts given → with_counts other given
any_counts clock other counts more (at_moment at) gives = more at gives
any_counts clock other counts more (at_count faults) gives = tt

-- the same for each clock that may give more
pub IsHeldOf-longer : (start final later : Mark) (clock other : Moment → Type 0) (said in_words : List Note → Saying)
    (owned : Owned) (link : LinkState) (whole : Bool)
    → Follows final later → ((at : Moment) → clock at → other at) → IsSaidBy later said in_words
    → IsHeldOf start final (with_counts clock) said owned link whole
    → IsHeldOf start later (with_counts other) in_words owned link whole
IsHeldOf-longer start final later clock other said in_words owned link whole follows more by h =
    IsHeldOf-more start final later (with_counts clock) (with_counts other) said in_words owned link whole follows
    (any_counts clock other (λ _. ⊤) more) by h

-- and what is held of a link taken back, where memory ran out since then, too
pub IsHeldBack-longer : (start final later : Mark) (clock other : Moment → Type 0) (said in_words : List Note → Saying)
    (short still : Bool) (owned : Owned) (link : LinkState)
    → Follows final later → ((at : Moment) → clock at → other at) → IsSaidBy later said in_words
    → (short ≡ true → still ≡ true)
    → IsHeldBack start final clock said short owned link → IsHeldBack start later other in_words still owned link
IsHeldBack-longer start final later clock other said in_words short still owned link follows more by stays (inl whole) =
    inl (IsHeldOf-longer start final later clock other said in_words owned link true follows more by whole)
IsHeldBack-longer start final later clock other said in_words short still owned link follows more by stays
    (inr (part, inl want)) =
    inr
    (IsHeldOf-longer start final later clock other said in_words owned link _ follows more by part, inl (stays want))
IsHeldBack-longer start final later clock other said in_words short still owned link follows more by stays
    (inr (part, inr fault)) =
    inr (IsHeldOf-longer start final later clock other said in_words owned link _ follows more by part, inr fault)

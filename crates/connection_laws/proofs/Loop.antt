-- What is held of a connection, as its bytes are taken and answered.
use Rattle.std.proofs.Common.{ℕ, ◌≡◌, inl, Bool, true, false, List, [], ◌++◌, length, refl, sym, ap, ◌∙◌, subst, append_assoc, arith}
use Rattle.farm_entry.specs.Legal.{IsLegal}
use Rattle.farm_entry.specs.declared.entry.Entry.{Entry}
use Rattle.connection_laws.specs.Moments.{Given}
use Rattle.http_requests.specs.Fronts.{Opens, behind}
use Rattle.http_requests.specs.Items.{Item, Items, End, ended}
use Rattle.common_types.specs.Prefix.{IsPrefix}
use Rattle.common_types.proofs.Prefixes.{IsPrefix-refl, IsPrefix-trans, IsPrefix-equal}
use Rattle.connection_laws.specs.Answers.{transcript}
use Rattle.connection_laws.specs.Progress.{Progress, progress_after, progress_at, IsBefore, IsWithin}
use Rattle.connection_laws.specs.Held.{Held, HeldFrom, IsReadOut, IsSoFar}
use Rattle.connection_laws.specs.Marks.{Mark, Follows}
use Rattle.connection_laws.specs.Outcomes.{Step}
use Rattle.connection_laws.specs.Steps.{AreSteps}
use Rattle.connection_laws.specs.Told.{AreSaid, Saying, if_put}
use Rattle.connection_laws.proofs.Progress.{progress_after-append, progress_after-before, progress_after-count, progress_after-longer, steps-append, steps-before, within-before, within-longer}
use Rattle.http_requests.proofs.FrontLaws.{opens-append, opens-items, opens-more}
use Rattle.connection_laws.proofs.Further.{further-held}
use Rattle.connection_laws.proofs.Said.{AreSaid-along, AreSaid-append, AreSaid-put, AreSaid-shorter, AreSaid-weaker}
use Rattle.connection_laws.proofs.Transcripts.{transcript-append}

-- ---- what is held

-- later marks
unfoldable pub held-longer : (start : Progress) (final later : Mark) (gives : Given → Type 0) (said : Saying)
    (taken put : List ℕ) (over whole : Bool)
    → Follows final later → HeldFrom start final gives said taken put over whole
    → HeldFrom start later gives said taken put over whole
held-longer start final later gives said taken put over whole f h = record {
  items = h.items;
  steps = h.steps;
  are_steps = h.are_steps;
  ends = within-longer (progress_after start h.steps) final later h.ends f;
  is_put = h.is_put;
  told = h.told;
}

-- earlier marks
unfoldable pub held-earlier : (early start : Progress) (final : Mark) (gives : Given → Type 0) (said : Saying)
    (taken put : List ℕ) (over whole : Bool)
    → IsBefore early start → HeldFrom start final gives said taken put over whole
    → HeldFrom early final gives said taken put over whole
held-earlier early start final gives said taken put over whole b h = record {
  items = h.items;
  steps = h.steps;
  are_steps = steps-before gives early start h.items h.steps b h.are_steps;
  ends =
      within-before (progress_after early h.steps) (progress_after start h.steps) final
      (progress_after-before early start h.steps b) h.ends;
  is_put = h.is_put;
  told = h.told;
}

-- the whole is a prefix
pub whole-part : (start : Progress) (final : Mark) (gives : Given → Type 0) (said : Saying) (taken put : List ℕ)
    (over : Bool) → HeldFrom start final gives said taken put over true
    → HeldFrom start final gives said taken put over false
whole-part start final gives said taken put over h = record {
  items = h.items;
  steps = h.steps;
  are_steps = h.are_steps;
  ends = h.ends;
  is_put = record {
    end = h.is_put.end;
    items_are = h.is_put.items_are;
    begins = IsPrefix-equal put (transcript h.items h.steps) h.is_put.put_is;
  };
  told = h.told;
}

-- what was put less of is a prefix too
pub part-shorter : (start : Progress) (final : Mark) (gives : Given → Type 0) (said : Saying)
    (taken put less : List ℕ) (over : Bool) → IsPrefix less put → HeldFrom start final gives said taken put over false
    → HeldFrom start final gives said taken less over false
part-shorter start final gives said taken put less over p h = record {
  items = h.items;
  steps = h.steps;
  are_steps = h.are_steps;
  ends = h.ends;
  is_put = record {
    end = h.is_put.end;
    items_are = h.is_put.items_are;
    begins = IsPrefix-trans less put (transcript h.items h.steps) p h.is_put.begins;
  };
  told = AreSaid-shorter said put less 0 h.items h.steps p h.told;
}

-- the mark at exit follows the one at entry
pub held-follows : (start : Progress) (final : Mark) (gives : Given → Type 0) (said : Saying) (taken put : List ℕ)
    (over whole : Bool) → HeldFrom start final gives said taken put over whole → IsWithin start final
held-follows start final gives said taken put over whole h =
    let end = progress_after start h.steps in
    let low = progress_after-count gives start h.items h.steps h.are_steps in
    let high = h.ends.faults in
    let longer = progress_after-longer gives start h.items h.steps h.are_steps in
    record {
      seen = IsPrefix-trans start.seen end.seen final.seen longer.0 h.ends.seen;
      totals = IsPrefix-trans start.totals end.totals final.totals longer.1 h.ends.totals;
      faults = omega arith;
    }

-- ---- as it comes

-- nothing is answered yet
pub so_far-start : (start : Progress) (gives : Given → Type 0) (said : Saying) (taken : List ℕ)
    → IsSoFar start gives said taken [] [] []
so_far-start start gives said taken = record { opens = tt; are_steps = tt; put_is = refl; told = tt }

-- more is taken
pub so_far-more : (start : Progress) (gives : Given → Type 0) (said : Saying) (taken more put : List ℕ)
    (items : List Item) (steps : List Step)
    → IsSoFar start gives said taken put items steps → IsSoFar start gives said (taken ++ more) put items steps
so_far-more start gives said taken more put items steps s =
    record {
      opens = (opens-more taken more items s.opens).0;
      are_steps = s.are_steps;
      put_is = s.put_is;
      told = s.told;
    }

-- what was put for the items so far, and then something for those behind them
put-append : (start : Progress) (gives : Given → Type 0) (said : Saying) (taken put part : List ℕ)
    (items more : List Item) (steps rest : List Step)
    → IsSoFar start gives said taken put items steps → part ≡ transcript more rest
    → put ++ part ≡ transcript (items ++ more) (steps ++ rest)
put-append start gives said taken put part items more steps rest s is =
    ap (λ (l : List ℕ). l ++ part) s.put_is ∙ ap (λ (l : List ℕ). transcript items steps ++ l) is
    ∙ sym (transcript-append gives start items more steps rest s.are_steps)

-- what is said of the answers so far, and of those behind them
told-append : (start : Progress) (gives : Given → Type 0) (said : Saying) (taken put : List ℕ) (items more : List Item)
    (steps rest : List Step)
    → IsSoFar start gives said taken put items steps → AreSaid said (length put) more rest
    → AreSaid said 0 (items ++ more) (steps ++ rest)
told-append start gives said taken put items more steps rest s told =
    AreSaid-append gives start said 0 items more steps rest s.are_steps s.told
    (subst (λ (n : ℕ). AreSaid said n more rest) (ap (λ (l : List ℕ). length l) s.put_is ∙ omega arith) told)

-- items more are answered, none of which closes
pub so_far-append : (start : Progress) (gives : Given → Type 0) (said : Saying) (taken put : List ℕ)
    (items more : List Item) (steps rest : List Step) → IsSoFar start gives said taken put items steps
    → Opens (behind taken items) more → AreSteps gives (progress_after start steps) more rest
    → AreSaid said (length put) more rest
    → IsSoFar start gives said taken (put ++ transcript more rest) (items ++ more) (steps ++ rest)
so_far-append start gives said taken put items more steps rest s o g told = record {
  opens = opens-append taken items more s.opens o;
  are_steps = steps-append gives start items more steps rest s.are_steps g;
  put_is = put-append start gives said taken put (transcript more rest) items more steps rest s refl;
  told = told-append start gives said taken put items more steps rest s told;
}

within_all : (start : Progress) (steps rest : List Step) (final : Mark)
    → IsWithin (progress_after (progress_after start steps) rest) final
    → IsWithin (progress_after start (steps ++ rest)) final
within_all start steps rest final w = subst (λ (c : Progress). IsWithin c final)
    (sym (progress_after-append start steps rest)) w

-- a part of the answers to items more was put
pub so_far-part : (start : Progress) (final : Mark) (gives : Given → Type 0) (said : Saying)
    (taken put part : List ℕ) (over : Bool) (items more others : List Item) (steps rest : List Step) (end : End)
    → IsSoFar start gives said taken put items steps
    → Items (behind taken items) (more ++ others) end → AreSteps gives (progress_after start steps) more rest
    → IsLegal start.totals
    → IsPrefix part (transcript more rest) → IsWithin (progress_after (progress_after start steps) rest) final
    → AreSaid said (length put) more rest
    → HeldFrom start final gives said taken (put ++ part) over false
so_far-part start final gives said taken put part over items more others steps rest end s i g legal p w told =
    let all : Items taken ((items ++ more) ++ others) end =
    subst (λ (l : List Item). Items taken l end) (sym (append_assoc items more others))
    (opens-items taken items (more ++ others) end s.opens i) in
    further-held start final gives said taken (put ++ part) over (items ++ more) others (steps ++ rest) end all
    (steps-append gives start items more steps rest s.are_steps g) legal (within_all start steps rest final w) (
      p.0,
      sym (put-append start gives said taken put (transcript more rest) items more steps rest s refl)
          ∙ ap (λ (l : List ℕ). put ++ l) p.1
          ∙ sym (append_assoc put part p.0),
    )
    (AreSaid-put said (length (put ++ part)) 0 (items ++ more) (steps ++ rest)
    (told-append start gives said taken put items more steps rest s told))

-- all items more were answered
pub so_far-whole : (start : Progress) (final : Mark) (gives : Given → Type 0) (said : Saying) (taken put : List ℕ)
    (over : Bool) (items more : List Item) (steps rest : List Step) (end : End)
    → IsSoFar start gives said taken put items steps
    → Items (behind taken items) more end → AreSteps gives (progress_after start steps) more rest
    → IsReadOut taken (items ++ more) end over → IsWithin (progress_after (progress_after start steps) rest) final
    → AreSaid said (length put) more rest
    → HeldFrom start final gives said taken (put ++ transcript more rest) over true
so_far-whole start final gives said taken put over items more steps rest end s i g read w told = record {
  items = items ++ more;
  steps = steps ++ rest;
  are_steps = steps-append gives start items more steps rest s.are_steps g;
  ends = within_all start steps rest final w;
  is_put = record {
    end = end;
    items_are = opens-items taken items more end s.opens i;
    read = read;
    put_is = put-append start gives said taken put (transcript more rest) items more steps rest s refl;
  };
  told = AreSaid-put said (length (put ++ transcript more rest)) 0 (items ++ more) (steps ++ rest)
      (told-append start gives said taken put items more steps rest s told);
}

-- ---- the empty start

start_within : (start final : Mark) → Follows start final → IsWithin (progress_at start) final
start_within start final f = record { seen = f.longer; totals = f.counted; faults = f.more }

pub held-none : (start final : Mark) (gives : Given → Type 0) (said : Saying) (taken : List ℕ) (over : Bool)
    (items : List Item) (end : End)
    → Items taken items end → IsLegal start.totals → Follows start final → Held start final gives said taken [] over
    false
held-none start final gives said taken over items end i legal f =
    further-held (progress_at start) final gives said taken [] over [] items [] end i tt legal
    (start_within start final f) (IsPrefix-refl []) tt

pub held-silent : (start final : Mark) (gives : Given → Type 0) (said : Saying) → Follows start final
    → Held start final gives said [] [] true true
held-silent start final gives said f = record {
  items = [];
  steps = [];
  are_steps = tt;
  ends = start_within start final f;
  is_put = record {
    end = ended;
    items_are = (record { few = omega arith; blank = refl }, refl);
    read = inl refl;
    put_is = refl;
  };
  told = tt;
}

-- what is said of answers may be something weaker of each history that begins the one at exit
unfoldable pub held-said : (start : Progress) (final : Mark) (gives : Given → Type 0) (said other : Saying)
    (taken put : List ℕ) (over whole : Bool)
    → ((place : ℕ) (H : List Entry) → IsPrefix H final.seen → said place H → other place H)
    → HeldFrom start final gives said taken put over whole → HeldFrom start final gives other taken put over whole
held-said start final gives said other taken put over whole weaker h = record {
  items = h.items;
  steps = h.steps;
  are_steps = h.are_steps;
  ends = h.ends;
  is_put = h.is_put;
  told = AreSaid-along gives start (if_put (length put) said) (if_put (length put) other) 0 h.items h.steps final.seen
      h.are_steps h.ends.seen (λ place H p holds lt. weaker place H p (holds lt)) h.told;
}

-- and so between two items
pub so_far-said : (start : Progress) (gives : Given → Type 0) (said other : Saying) (taken put : List ℕ)
    (items : List Item) (steps : List Step) → ((place : ℕ) (H : List Entry) → said place H → other place H)
    → IsSoFar start gives said taken put items steps → IsSoFar start gives other taken put items steps
so_far-said start gives said other taken put items steps weaker s = record {
  opens = s.opens;
  are_steps = s.are_steps;
  put_is = s.put_is;
  told = AreSaid-weaker said other 0 items steps weaker s.told;
}

-- Rounds of following, one after the other.
use Rattle.std.proofs.Common.{◌≡◌, ◌≢◌, ◌⊎◌, inl, inr, ⊎_elim, ◌<◌, ◌≤◌, ◌+◌, ◌-◌, ℕ, Bool, true, false, List, [], ◌∷◌}
use Rattle.std.proofs.Common.{◌++◌, length, take, drop, Option, refl, sym, ◌∙◌, ap, subst, arith, append_assoc}
use Rattle.std.specs.Prelude.{Result, Ok, Err}
use Rattle.std.proofs.lemmas.Grind.{flat_map-append}
use Rattle.std.proofs.lemmas.List.{append-nil, length-append, length-drop, length-take, take-append-drop}
use Rattle.std.proofs.lemmas.List.{take-append-le, take_all}
use Rattle.std.proofs.Math.Seq.{take-append-add}
use Rattle.std.proofs.lemmas.Bool.{cases_lt}
use Rattle.farm_disk.specs.Images.{DiskState, LeavesOnly}
use Rattle.farm_disk.proofs.Moments.{leaves_only-start, leaves_only-trans, leaves_only-weaker}
use Rattle.farm_entry.specs.declared.entry.Entry.{Entry}
use Rattle.journal_follow.specs.Page.{GoesWith, entries_past}
use Rattle.journal_follow.specs.Taking.{Came, Held, IsDecided, IsLeft, Takes, foreign, gap, stored, undecided, unrepaired}
use Rattle.journal_follow.specs.Taking.{unstored}
use Rattle.common_types.specs.Prefix.{IsPrefix}
use Rattle.common_types.proofs.Prefixes.{IsPrefix-append, IsPrefix-refl, IsPrefix-trans}
use Rattle.link_io.specs.Events.{NetworkEvent}
use Rattle.journal_follow.specs.Following.{AreTaken, Ends, Follows, IsRound, Last, Round, answered, compared_after}
use Rattle.journal_follow.specs.Following.{cut_off, entries_of, nothing, told_last, told_round, told_rounds, unanswered}
use Rattle.journal_follow.specs.Rounds.{GoesOn, IsLast, RoundSays}
use Rattle.journal_follow.specs.Shown.{IsKept, Shows, ShowsBetween, ShowsDecided, ShowsLeft}
use Rattle.journal_follow.specs.declared.fault.FollowFault.{FollowFault}
use Rattle.journal_follow.specs.declared.fault.FollowFault.TheVariants as fault
use Rattle.journal_follow.specs.Taken.{Answers}
use Rattle.journal_follow.specs.declared.following.Followed.{Followed}
use Rattle.journal_follow.specs.declared.following.Went.{Went}
use Rattle.journal_follow.specs.declared.following.Went.TheVariants.{On, Whole}

-- Lists.

-- the first members of two lists one after the other, where they are those of the first and some of the second
take-both : (xs ys : List Entry) (n : ℕ) → length xs ≤ n → take n (xs ++ ys) ≡ xs ++ take (n - length xs) ys
take-both xs ys n le =
    let is : n ≡ length xs + (n - length xs) = omega (arith, le) in
    ap (λ (k : ℕ). take k (xs ++ ys)) is ∙ take-append-add xs ys (n - length xs)

-- a page that goes with a history stands there, behind those before it
module _ (H page : List Entry) (c : ℕ) (le : c ≤ length H)
    (same : take (length H - c) page ≡ take (length page) (drop c H)) where
  k : ℕ
  k = length H - c

  parted : H ≡ take c H ++ drop c H
  parted = sym (take-append-drop c H)

  -- all of the page is held
  short : length page ≤ length H - c → take (c + length page) (H ++ entries_past H c page) ≡ take c H ++ page
  short few =
      let front : length (take c H) ≡ c = length-take-le' in
      let none : entries_past H c page ≡ [] = drop-nothing (length H - c) page few in
      let whole : take (length H - c) page ≡ page = take_all (length H - c) page few in
      ap (λ (l : List Entry). take (c + length page) (H ++ l)) none
      ∙ ap (λ (l : List Entry). take (c + length page) l) (append-nil H)
      ∙ ap (λ (l : List Entry). take (c + length page) l) parted
      ∙ take-both (take c H) (drop c H) (c + length page) (omega (arith, front))
      ∙ ap (λ (n : ℕ). take c H ++ take n (drop c H)) (count front)
      ∙ ap (λ (l : List Entry). take c H ++ l) (sym same ∙ whole)
    where
      length-take-le' : length (take c H) ≡ c
      length-take-le' = omega (arith, length-take c H, le)

      empty : (xs : List Entry) → length xs ≡ 0 → xs ≡ []
      empty [] zero = refl
      empty (x ∷ xs) zero = absurd (omega (arith, zero))

      drop-nothing : (n : ℕ) (xs : List Entry) → length xs ≤ n → drop n xs ≡ []
      drop-nothing n xs few = empty (drop n xs) (omega (arith, length-drop n xs, few))

      count : length (take c H) ≡ c → c + length page - length (take c H) ≡ length page
      count front = omega (arith, front)

  -- the page goes past what is held
  long : length H - c ≤ length page → take (c + length page) (H ++ entries_past H c page) ≡ take c H ++ page
  long many =
      let all : take (length page) (drop c H) ≡ drop c H =
      take_all (length page) (drop c H) (omega (arith, length-drop c H, many)) in
      let front : take (length H - c) page ≡ drop c H = same ∙ all in
      let size : length (H ++ entries_past H c page) ≡ c + length page =
      omega (arith, length-append H (entries_past H c page), length-drop (length H - c) page, many, le) in
      take_all (c + length page) (H ++ entries_past H c page) (omega (arith, size))
      ∙ ap (λ (l : List Entry). l ++ entries_past H c page) parted
      ∙ append_assoc (take c H) (drop c H) (entries_past H c page)
      ∙ ap (λ (l : List Entry). take c H ++ (l ++ entries_past H c page)) (sym front)
      ∙ ap (λ (l : List Entry). take c H ++ l) (take-append-drop (length H - c) page)

  pub stands-behind : take (c + length page) (H ++ entries_past H c page) ≡ take c H ++ page
  stands-behind = ⊎_elim
      (λ (few : length page < length H - c). short (omega (arith, few)))
      (λ (many : length H - c ≤ length page). long many)
      (cases_lt (length page) (length H - c))

  pub size-behind : c + length page ≤ length (H ++ entries_past H c page)
  size-behind = omega (arith, length-append H (entries_past H c page), length-drop (length H - c) page, le)

-- What is held, round by round.

grows : (held : Held) (H : List Entry) → IsDecided held H → IsPrefix held.history H
grows held H (inl is) = (([]), is ∙ sym (append-nil held.history))
grows held H (inr is) = (held.pending, is)

take-grows : (xs ys : List Entry) (c : ℕ) → IsPrefix xs ys → c ≤ length xs → take c ys ≡ take c xs
take-grows xs ys c p le = ap (λ (l : List Entry). take c l) p.1 ∙ take-append-le c xs p.0 le

length-grows : (xs ys : List Entry) → IsPrefix xs ys → length xs ≤ length ys
length-grows xs ys p = omega (arith, ap length p.1, length-append xs p.0)

-- whatever is taken, the history goes on
pub takes-grows : (came : Came) (from : ℕ) (page : List Entry) (old new : Held) → Takes came from page old new
    → IsPrefix old.history new.history
takes-grows (stored count) from page old new t =
    IsPrefix-trans old.history t.0 new.history (grows old t.0 t.1)
    (entries_past t.0 (from - 1) page, t.4)
takes-grows (gap first have) from page old new t = grows old new.history t.0
takes-grows (foreign place) from page old new t = grows old new.history t.0
takes-grows unrepaired from page old new t = ([], t.1 ∙ sym (append-nil old.history))
takes-grows undecided from page old new t = grows old new.history t.0
takes-grows unstored from page old new t = grows old new.history t.0

less-one : (c : ℕ) → c + 1 - 1 ≡ c
less-one c = omega arith

-- a page that was taken stands behind what was compared
pub stored-behind : (count c : ℕ) (page : List Entry) (old new : Held) → Takes (stored count) (c + 1) page old new
    → c ≤ length old.history
    → (c + length page ≤ length new.history) × (take (c + length page) new.history ≡ take c old.history ++ page)
    × (new.pending ≡ [])
stored-behind count c page old new t le =
    let H = t.0 in
    let goes : GoesWith H c page = subst (λ (n : ℕ). GoesWith H n page) (less-one c) t.3 in
    let is : new.history ≡ H ++ entries_past H c page =
    t.4 ∙ ap (λ (n : ℕ). H ++ entries_past H n page) (less-one c) in
    let p = grows old H t.1 in
    let far : c ≤ length H = omega (arith, length-grows old.history H p, le) in (
      subst (λ (l : List Entry). c + length page ≤ length l) (sym is) (size-behind H page c far goes.same),
      ap (λ (l : List Entry). take (c + length page) l) is
          ∙ stands-behind H page c far goes.same
          ∙ ap (λ (l : List Entry). l ++ page) (take-grows old.history H c p le),
      t.5,
    )

-- Rounds.

-- one round more
pub taken-on : (c : ℕ) (rounds : List Round) (r : Round) (old mid new : Held) (count : ℕ) → AreTaken c rounds old mid
    → IsRound (compared_after c rounds + 1) r → r.page ≢ []
    → Takes (stored count) (compared_after c rounds + 1) r.page mid new
    → AreTaken c (rounds ++ r ∷ []) old new
taken-on c [] r old mid new count are is some takes =
    (is, some, count, new, subst (λ (h : Held). Takes (stored count) (c + 1) r.page h new) are takes, refl)
taken-on c (x ∷ xs) r old mid new count are is some takes = (
  are.0,
  are.1,
  are.2,
  are.3,
  are.4,
  taken-on (c + length x.page) xs r are.3 mid new count are.5 is some takes,
)

pub told-rounds-on : (rounds : List Round) (r : Round) (told : Option (List NetworkEvent))
    → told_rounds (rounds ++ r ∷ []) told ≡ told_round r (told_rounds rounds told)
told-rounds-on [] r told = refl
told-rounds-on (x ∷ xs) r told = told-rounds-on xs r (told_round x told)

pub compared-on : (c : ℕ) (rounds : List Round) (r : Round)
    → compared_after c (rounds ++ r ∷ []) ≡ compared_after c rounds + length r.page
compared-on c [] r = refl
compared-on c (x ∷ xs) r = compared-on (c + length x.page) xs r

entries-on : (rounds : List Round) (r : Round) → entries_of (rounds ++ r ∷ []) ≡ entries_of rounds ++ r.page
entries-on rounds r =
    flat_map-append (λ (x : Round). x.page) rounds (r ∷ [])
    ∙ ap (λ (l : List Entry). entries_of rounds ++ l) (append-nil r.page)

-- what is held is what was held at first, or nothing is pending and it goes on from there
abbrev pub IsReached : (start now : Held) → Type 0
IsReached start now = (now ≡ start) ⊎ ((now.pending ≡ []) × IsPrefix start.history now.history)

-- what was done so far
pub record HasGone (start now : Held) (before told : Option (List NetworkEvent)) (compared made : ℕ) : Type 0 where
  pub taken : List Round
  pub are : AreTaken 0 taken start now
  pub tells : told ≡ told_rounds taken before
  pub many : length taken ≡ made
  pub compared_is : compared ≡ compared_after 0 taken
  pub within : compared ≤ length now.history
  pub same : take compared now.history ≡ entries_of taken
  pub reached : IsReached start now

pub gone-none : (start : Held) (told : Option (List NetworkEvent)) → HasGone start start told told 0 0
gone-none start told = record {
  taken = [];
  are = refl;
  tells = refl;
  many = refl;
  compared_is = refl;
  within = omega arith;
  same = refl;
  reached = inl refl;
}

pub start-grows : (start now : Held) → IsReached start now → IsPrefix start.history now.history
start-grows start now (inl is) = ([], ap (λ (h : Held). h.history) is ∙ sym (append-nil start.history))
start-grows start now (inr more) = more.1

pub gone-on : (start now next : Held) (before told later : Option (List NetworkEvent)) (compared made more : ℕ)
    → HasGone start now before told compared made → GoesOn compared now next told later more
    → HasGone start next before later more (made + 1)
gone-on start now next before told later compared made more gone step =
    let r = step.round in
    let behind = stored-behind step.count compared r.page now next step.takes gone.within in
    let many = gone.many in
    let is = gone.compared_is in
    record {
      taken = gone.taken ++ r ∷ [];
      are = taken-on 0 gone.taken r start now next step.count gone.are
          (subst (λ (n : ℕ). IsRound (n + 1) r) is step.is) step.some
          (subst (λ (n : ℕ). Takes (stored step.count) (n + 1) r.page now next) is step.takes);
      tells = step.tells ∙ ap (λ (o : Option (List NetworkEvent)). told_round r o) gone.tells
          ∙ sym (told-rounds-on gone.taken r before);
      many = omega (arith, length-append gone.taken (r ∷ []), many);
      compared_is = step.next_is ∙ ap (λ (n : ℕ). n + length r.page) is ∙ sym (compared-on 0 gone.taken r);
      within = subst (λ (n : ℕ). n ≤ length next.history) (sym step.next_is) behind.0;
      same = ap (λ (n : ℕ). take n next.history) step.next_is
          ∙ behind.1
          ∙ ap (λ (l : List Entry). l ++ r.page) gone.same
          ∙ sym (entries-on gone.taken r);
      reached = inr (
        behind.2,
        IsPrefix-trans start.history now.history next.history
            (start-grows start now gone.reached)
            (takes-grows (stored step.count) (compared + 1) r.page now next step.takes),
      );
    }

-- The end.

ends-later : (rounds made compared : ℕ) (last : Last) (held new : Held) (result : Result Followed FollowFault)
    → made < rounds → Ends 1 0 compared last held new result → Ends rounds made compared last held new result
ends-later rounds made compared nothing held new (Ok followed) below ends = absurd (omega (arith, ends.1))
ends-later rounds made compared (answered r) held new (Ok followed) below ends =
    (ends.0, ends.1, ends.2, below, ends.4, ends.5, ends.6)
ends-later rounds made compared (answered r) held new (Err f) below ends = (ends.0, below, ends.2)
ends-later rounds made compared (unanswered lost t) held new (Err f) below ends =
    (ends.0, below, ends.2, ends.3, ends.4)
ends-later rounds made compared (cut_off lost x) held new (Err fault.Memory) below ends =
    (ends.0, below, ends.2, ends.3, ends.4)
ends-later rounds made compared last held new answer below ends = absurd ends

whole-by : (compared : ℕ) (last : Last) (held new : Held) (followed : Followed) (all : List Entry)
    → Ends 1 0 compared last held new (Ok followed) → take compared held.history ≡ all → new.history ≡ all
whole-by compared nothing held new followed all ends same = absurd (omega (arith, ends.1))
whole-by compared (answered r) held new followed all ends same =
    let size = ends.6 in
    sym (take_all compared new.history (omega (arith, size)))
    ∙ ap (λ (h : Held). take compared h.history) ends.0
    ∙ same
whole-by compared (unanswered lost t) held new followed all ends same = absurd ends
whole-by compared (cut_off lost x) held new followed all ends same = absurd ends

pub follows-ok : (rounds made compared : ℕ) (start now new : Held) (before told later : Option (List NetworkEvent))
    (followed : Followed) → HasGone start now before told compared made → made < rounds
    → IsLast compared now new told later (Ok followed) → Follows rounds start new before later (Ok followed)
follows-ok rounds made compared start now new before told later followed gone below last = record {
  taken = gone.taken;
  held = now;
  last = last.last;
  are = gone.are;
  tells = last.tells ∙ ap (λ (o : Option (List NetworkEvent)). told_last last.last o) gone.tells;
  ends = subst (λ (n : ℕ). Ends rounds n (compared_after 0 gone.taken) last.last now new (Ok followed)) (sym gone.many)
      (subst (λ (n : ℕ). Ends rounds made n last.last now new (Ok followed)) gone.compared_is
      (ends-later rounds made compared last.last now new (Ok followed) below last.ends));
  whole = λ _. whole-by compared last.last now new followed (entries_of gone.taken) last.ends gone.same;
}

pub follows-err : (rounds made compared : ℕ) (start now new : Held) (before told later : Option (List NetworkEvent))
    (f : FollowFault) → HasGone start now before told compared made → made < rounds
    → IsLast compared now new told later (Err f) → Follows rounds start new before later (Err f)
follows-err rounds made compared start now new before told later f gone below last = record {
  taken = gone.taken;
  held = now;
  last = last.last;
  are = gone.are;
  tells = last.tells ∙ ap (λ (o : Option (List NetworkEvent)). told_last last.last o) gone.tells;
  ends = subst (λ (n : ℕ). Ends rounds n (compared_after 0 gone.taken) last.last now new (Err f)) (sym gone.many)
      (subst (λ (n : ℕ). Ends rounds made n last.last now new (Err f)) gone.compared_is
      (ends-later rounds made compared last.last now new (Err f) below last.ends));
  whole = tt;
}

-- so many rounds were made as were to be made
pub follows-all : (rounds compared : ℕ) (start now : Held) (before told : Option (List NetworkEvent))
    (followed : Followed) → HasGone start now before told compared rounds → followed.whole ≡ false
    → followed.entries ≡ length now.history → Follows rounds start now before told (Ok followed)
follows-all rounds compared start now before told followed gone whole entries = record {
  taken = gone.taken;
  held = now;
  last = nothing;
  are = gone.are;
  tells = gone.tells;
  ends = (refl, gone.many, whole, entries);
  whole = λ other. absurd (not-both (followed.whole) whole other);
}
  where
    not-both : (b : Bool) → b ≡ false → b ≡ true → ⊥
    not-both b one two = cc

-- What the disk shows.

-- bytes stand for a history between what was held at first and what is held now, or for the former with what was
-- pending
abbrev pub ShowsGone : (start now : Held) → List ℕ → Type 0
ShowsGone start now bytes =
    (history : List Entry) × IsPrefix start.history history
    × (IsPrefix history now.history ⊎ (history ≡ start.history ++ start.pending)) × Shows history bytes

start-at : (start : Held) (bytes : List ℕ) (H : List Entry) → IsDecided start H → Shows H bytes
    → ShowsGone start start bytes
start-at start bytes H (inl is) shown = (
  H,
  ([], is ∙ sym (append-nil start.history)),
  inl ([], sym is ∙ sym (append-nil H)),
  shown,
)
start-at start bytes H (inr is) shown = (H, (start.pending, is), inr is, shown)

pub shows-start : (start : Held) (bytes : List ℕ) → ShowsDecided start bytes → ShowsGone start start bytes
shows-start start bytes shows = start-at start bytes shows.0 shows.1 shows.2

later-at : (start now next H : List Entry) (P : Type 0) → IsPrefix now next → IsPrefix H now ⊎ P → IsPrefix H next ⊎ P
later-at start now next H P more (inl p) = inl (IsPrefix-trans H now next p more)
later-at start now next H P more (inr other) = inr other

-- the same of the history that is held with what is pending
pub gone-between : (start now next : Held) (bytes : List ℕ) → IsPrefix now.history next.history
    → ShowsGone start now bytes → ShowsBetween start next bytes
gone-between start now next bytes more shows = (
  shows.0,
  shows.1,
  later-at start.history now.history (next.history ++ next.pending) shows.0
      (shows.0 ≡ start.history ++ start.pending)
      (IsPrefix-trans now.history next.history (next.history ++ next.pending) more
      (IsPrefix-append next.history next.pending)) shows.2,
  shows.3,
)

left-at : (start now next : Held) (bytes : List ℕ) → IsReached start now → IsPrefix now.history next.history
    → (H : List Entry) → IsLeft now next H → Shows H bytes → ShowsBetween start next bytes
left-at start now next bytes reached more H (inr is) shown =
    let all = next.history ++ next.pending in (
      H,
      subst (λ (l : List Entry). IsPrefix start.history l) (sym is)
          (IsPrefix-trans start.history now.history all (start-grows start now reached)
          (IsPrefix-trans now.history next.history all more (IsPrefix-append next.history next.pending))),
      inl (subst (λ (l : List Entry). IsPrefix l all) (sym is) (IsPrefix-refl all)),
      shown,
    )
left-at start now next bytes reached more H (inl (inl is)) shown =
    let all = next.history ++ next.pending in (
      H,
      subst (λ (l : List Entry). IsPrefix start.history l) (sym is) (start-grows start now reached),
      inl (subst (λ (l : List Entry). IsPrefix l all) (sym is)
          (IsPrefix-trans now.history next.history all more (IsPrefix-append next.history next.pending))),
      shown,
    )
left-at start now next bytes (inl same) more H (inl (inr is)) shown =
    let whole : H ≡ start.history ++ start.pending = is ∙ ap (λ (h : Held). h.history ++ h.pending) same in
    (H, (start.pending, whole), inr whole, shown)
left-at start now next bytes (inr far) more H (inl (inr is)) shown =
    let all = next.history ++ next.pending in
    let whole : H ≡ now.history = is ∙ ap (λ (l : List Entry). now.history ++ l) far.0 ∙ append-nil now.history in (
      H,
      subst (λ (l : List Entry). IsPrefix start.history l) (sym whole) far.1,
      inl (subst (λ (l : List Entry). IsPrefix l all) (sym whole)
          (IsPrefix-trans now.history next.history all more (IsPrefix-append next.history next.pending))),
      shown,
    )

pub left-between : (start now next : Held) (bytes : List ℕ) → IsReached start now → IsPrefix now.history next.history
    → ShowsLeft now next bytes → ShowsBetween start next bytes
left-between start now next bytes reached more shows =
    left-at start now next bytes reached more shows.0 shows.1 shows.2

pub between-gone : (start next : Held) (bytes : List ℕ) → next.pending ≡ [] → ShowsBetween start next bytes
    → ShowsGone start next bytes
between-gone start next bytes none shows = (
  shows.0,
  shows.1,
  subst (λ (l : List Entry). IsPrefix shows.0 l ⊎ (shows.0 ≡ start.history ++ start.pending))
      (ap (λ (l : List Entry). next.history ++ l) none ∙ append-nil next.history) shows.2,
  shows.3,
)

-- Rounds on a disk.

module _ (start now next : Held) (a b d : DiskState) (reached : IsReached start now)
    (more : IsPrefix now.history next.history) (so_far : LeavesOnly a b (ShowsGone start now))
    (step : LeavesOnly b d (ShowsLeft now next)) where
  -- the round was the last
  pub leaves-last : LeavesOnly a d (ShowsBetween start next)
  leaves-last = leaves_only-trans a b d (ShowsBetween start next)
      (leaves_only-weaker a b (ShowsGone start now) (ShowsBetween start next)
      (λ c shows. gone-between start now next c more shows) so_far)
      (leaves_only-weaker b d (ShowsLeft now next) (ShowsBetween start next)
      (λ c shows. left-between start now next c reached more shows) step)

  -- it was not
  pub leaves-on : next.pending ≡ [] → LeavesOnly a d (ShowsGone start next)
  leaves-on none = leaves_only-weaker a d (ShowsBetween start next) (ShowsGone start next)
      (λ c shows. between-gone start next c none shows) leaves-last

pub leaves-start : (start : Held) (disk : DiskState) → IsKept start disk → LeavesOnly disk disk (ShowsGone start start)
leaves-start start disk kept =
    leaves_only-start disk (ShowsGone start start) (λ c image. shows-start start c (kept.images c image))

pub leaves-end : (start now : Held) (a b : DiskState) → LeavesOnly a b (ShowsGone start now)
    → LeavesOnly a b (ShowsBetween start now)
leaves-end start now a b leaves = leaves_only-weaker a b (ShowsGone start now) (ShowsBetween start now)
    (λ c shows. gone-between start now now c (IsPrefix-refl now.history) shows) leaves

-- A round never takes back.

last-grows : (compared : ℕ) (last : Last) (now next : Held) (r : Result Followed FollowFault)
    → Ends 1 0 compared last now next r → IsPrefix now.history next.history
last-grows compared nothing now next (Ok followed) ends = absurd (omega (arith, ends.1))
last-grows compared nothing now next (Err f) ends = absurd ends
last-grows compared (answered r) now next (Ok followed) ends =
    ([], ap (λ (h : Held). h.history) ends.0 ∙ sym (append-nil now.history))
last-grows compared (answered r) now next (Err f) ends = missed-grows ends.2
  where
    missed-grows : ((next ≡ now) × (r.page ≡ []) × (f ≡ fault.Foreign compared) × (compared < length next.history))
        ⊎ ((r.page ≢ []) × (came : Came) × Takes came (compared + 1) r.page now next × Answers came (Err f))
        → IsPrefix now.history next.history
    missed-grows (inl same) = ([], ap (λ (h : Held). h.history) same.0 ∙ sym (append-nil now.history))
    missed-grows (inr missed) = takes-grows missed.1 (compared + 1) r.page now next missed.2
last-grows compared (unanswered lost t) now next (Ok followed) ends = absurd ends
last-grows compared (unanswered lost t) now next (Err f) ends =
    ([], ap (λ (h : Held). h.history) ends.0 ∙ sym (append-nil now.history))
last-grows compared (cut_off lost x) now next (Ok followed) ends = absurd ends
last-grows compared (cut_off lost x) now next (Err fault.Memory) ends =
    ([], ap (λ (h : Held). h.history) ends.0 ∙ sym (append-nil now.history))
last-grows compared (cut_off lost x) now next (Err (fault.Gap a b)) ends = absurd ends
last-grows compared (cut_off lost x) now next (Err (fault.Foreign a)) ends = absurd ends
last-grows compared (cut_off lost x) now next (Err (fault.StoreFault a b)) ends = absurd ends
last-grows compared (cut_off lost x) now next (Err (fault.Damaged a)) ends = absurd ends
last-grows compared (cut_off lost x) now next (Err fault.NetFault) ends = absurd ends
last-grows compared (cut_off lost x) now next (Err (fault.Peer a)) ends = absurd ends

pub says-grows : (compared : ℕ) (now next : Held) (before after : Option (List NetworkEvent)) (r : Result Went FollowFault)
    → RoundSays compared now next before after r → IsPrefix now.history next.history
says-grows compared now next before after (Ok (On n)) says =
    takes-grows (stored says.count) (compared + 1) says.round.page now next says.takes
says-grows compared now next before after (Ok (Whole followed)) says =
    last-grows compared says.last now next (Ok followed) says.ends
says-grows compared now next before after (Err f) says = last-grows compared says.last now next (Err f) says.ends

-- neither do several
pub all-grows : (start now next : Held) → IsReached start now → IsPrefix now.history next.history
    → IsPrefix start.history next.history
all-grows start now next reached more =
    IsPrefix-trans start.history now.history next.history (start-grows start now reached) more

pub goes-none : (compared n : ℕ) (now next : Held) (before after : Option (List NetworkEvent))
    → GoesOn compared now next before after n → next.pending ≡ []
goes-none compared n now next before after goes = goes.takes.5

-- The farm with its order of turns, with an entry appended and with one less.
use Rattle.std.proofs.Common.{◌≡◌, ℕ, zero, suc, ◌+◌, ◌-◌, ◌<◌, List, [], ◌∷◌, ◌++◌, length, take, get_or, length-append, refl, sym, ap, subst, ◌∙◌, arith, append_assoc, append-nil, length-take-le}
use Rattle.std.proofs.Math.Seq.{get_or-append_seam, take-append_seam}
use Rattle.farm_entry.specs.Legal.{AreNext, IsFounding, IsLegal}
use Rattle.farm_entry.specs.declared.entry.Entry.{Entry}
use Rattle.farm_entry.specs.declared.entry.What.{What}
use Rattle.farm_entry.specs.declared.entry.What.TheVariants.{Founded, Opened, Leased, Reported, Skipped, Cancelled, Ordered, Carried, Closed}
use Rattle.farm_laws.proofs.Bounds.{openings-bounded}
use Rattle.farm_laws.proofs.Induct.{IsLegal-first, IsLegal-push}
use Rattle.farm_state.specs.TurnOrder.{AreTurns}
use Rattle.farm_state.proofs.NextTurns.{founded-turns}
use Rattle.farm_state.specs.Moves.{AreFew, MayMove, MayUndo, Turns, change_of, count_after, count_before, made, move_in, turns_in, undone}
use Rattle.farm_state.specs.Turns.{change_at, changes_of, no_turns, turns_after, turns_of}
use Rattle.farm_state.specs.TurnsInside.{AreFarmTurns}
use Rattle.farm_state.specs.declared.moves.Change.{Change}
use Rattle.farm_state.specs.declared.moves.Move.{Move}
use Rattle.farm_state.specs.declared.turns.FarmTurns.TheInside.{Inside}
use Rattle.farm_state.proofs.Folds.{changes-more, turns-more}
use Rattle.farm_state.proofs.Steps.{AreTurnsOf, next_number, step-of, within}

-- Each legal history makes the order of its turns.

grown-legal : (P : List Entry → Type 0) →
    ((H : List Entry) (e : Entry) → IsLegal H → IsLegal (H ++ e ∷ []) → P H → P (H ++ e ∷ [])) →
    (H K : List Entry) → IsLegal H → P H → AreNext H K → P (H ++ K)
grown-legal P step H [] legal here all = subst P (sym (append-nil H)) here
grown-legal P step H (k ∷ K) legal here all =
    let longer : IsLegal (H ++ k ∷ []) = IsLegal-push H k legal all.0 in
    subst P (append_assoc H (k ∷ []) K)
    (grown-legal P step (H ++ k ∷ []) K longer (step H k legal longer here) all.1)

founding-turns : (e : Entry) (w : What) → e.what ≡ w → IsFounding w →
    AreTurns (e ∷ []) (made (e ∷ []) (move_in [] w) no_turns).never (made (e ∷ []) (move_in [] w) no_turns).leased
founding-turns e (Founded settings) is founding = founded-turns e (subst IsFounding (sym is) tt, tt)
founding-turns e (Opened o) is founding = absurd founding
founding-turns e (Leased k w r q t p d) is founding = absurd founding
founding-turns e (Reported r v f) is founding = absurd founding
founding-turns e (Skipped r f) is founding = absurd founding
founding-turns e (Cancelled k q) is founding = absurd founding
founding-turns e (Ordered k a n c q d) is founding = absurd founding
founding-turns e (Carried c d) is founding = absurd founding
founding-turns e Closed is founding = absurd founding

pub turns-kept : (H : List Entry) → IsLegal H → AreTurnsOf H (turns_of H)
turns-kept [] legal = absurd legal
turns-kept (f ∷ H) legal =
    grown-legal (λ (G : List Entry). AreTurnsOf G (turns_of G))
    (λ G e is longer turns.
    subst (AreTurnsOf (G ++ e ∷ [])) (sym (turns-more G e)) (step-of G e (turns_of G) is longer turns).after)
    (f ∷ []) H (legal.0, tt) (founding-turns f f.what refl legal.0) legal.1

-- what stands in it are searches that a farm may have
pub few-stand : (s : Inside) (u : Turns) → AreFarmTurns s → u ≡ turns_in s.active → AreFew u
few-stand s u f is n stands =
    let turns : AreTurnsOf s.state u = subst (AreTurnsOf s.state) (sym (is ∙ f.turns)) (turns-kept s.state f.legal) in
    let high = (within s.state n f.legal (turns.only n stands)).1 in
    let few = openings-bounded s.state f.legal in
    omega (arith, high, few)

-- One entry more.

pub may-push : (s : Inside) (e : Entry) (m : Move) (u : Turns) (n : ℕ) → AreFarmTurns s → IsLegal (s.state ++ e ∷ []) →
    m ≡ move_in s.state e.what → u ≡ turns_in s.active → n ≡ s.active.count → MayMove u n m
may-push s e m u n f longer move_is turns_is count_is =
    let H = s.state in
    let step = step-of H e (turns_of H) f.legal longer (turns-kept H f.legal) in
    subst (MayMove u n) (sym move_is)
    (subst (λ (k : ℕ). MayMove u k (move_in H e.what)) (sym (count_is ∙ f.count))
    (subst (λ (t : Turns). MayMove t (next_number H) (move_in H e.what)) (sym (turns_is ∙ f.turns)) step.may))

pub pushed-turns : (s t : Inside) (e : Entry) (m : Move) (u : Turns) (n : ℕ) → AreFarmTurns s →
    IsLegal (s.state ++ e ∷ []) → m ≡ move_in s.state e.what → u ≡ turns_in s.active → n ≡ s.active.count →
    t.state ≡ s.state ++ e ∷ [] → turns_in t.active ≡ made t.state m u → t.active.count ≡ count_after m n →
    t.changes.items ≡ s.changes.items ++ change_of t.state m u ∷ [] → AreFarmTurns t
pushed-turns s t e m u n f longer move_is turns_is count_is state_is turns_now count_now changes_now =
    let H = s.state in
    let G = H ++ e ∷ [] in
    let step = step-of H e (turns_of H) f.legal longer (turns-kept H f.legal) in
    let w = move_in H e.what in
    let before : u ≡ turns_of H = turns_is ∙ f.turns in
    let change_is : change_of t.state m u ≡ change_at H e (turns_of H) =
    ap (λ (X : List Entry). change_of X m u) state_is
    ∙ ap (λ (x : Move). change_of G x u) move_is
    ∙ ap (change_of G w) before in
    record {
      legal = subst IsLegal (sym state_is) longer;
      turns =
          turns_now
          ∙ ap (λ (X : List Entry). made X m u) state_is
          ∙ ap (λ (x : Move). made G x u) move_is
          ∙ ap (made G w) before
          ∙ sym (turns-more H e)
          ∙ ap turns_of (sym state_is);
      count =
          count_now
          ∙ ap (λ (x : Move). count_after x n) move_is
          ∙ ap (count_after w) (count_is ∙ f.count)
          ∙ step.count
          ∙ ap next_number (sym state_is);
      changes =
          changes_now
          ∙ ap (λ (cs : List Change). cs ++ change_of t.state m u ∷ []) f.changes
          ∙ ap (λ (c : Change). changes_of H ++ c ∷ []) change_is
          ∙ sym (changes-more H e)
          ∙ ap changes_of (sym state_is);
    }

-- One entry less.

snoc-parts : {X : Type 0} (xs ys : List X) (a b : X) → xs ++ a ∷ [] ≡ ys ++ b ∷ [] → (xs ≡ ys) × (a ≡ b)
snoc-parts xs ys a b e =
    let long : length (xs ++ a ∷ []) ≡ length xs + 1 = length-append xs (a ∷ []) in
    let as_long : length (ys ++ b ∷ []) ≡ length ys + 1 = length-append ys (b ∷ []) in
    let same : length xs ≡ length ys = omega (arith, long, as_long, ap length e) in (
      sym (take-append_seam xs (a ∷ []))
          ∙ ap (take (length xs)) e
          ∙ ap (λ (n : ℕ). take n (ys ++ b ∷ [])) same
          ∙ take-append_seam ys (b ∷ []),
      sym (get_or-append_seam xs a [] a)
          ∙ ap (λ (l : List _). get_or l (length xs) a) e
          ∙ ap (λ (n : ℕ). get_or (ys ++ b ∷ []) n a) same
          ∙ get_or-append_seam ys b [] a,
    )

-- the last entry, behind those of a legal history
record IsEnded (H G : List Entry) : Type 0 where
  entry : Entry
  split : H ≡ G ++ entry ∷ []
  legal : IsLegal G

split-at : {X : Type 0} (xs : List X) (n : ℕ) (d : X) → n + 1 ≡ length xs → xs ≡ take n xs ++ get_or xs n d ∷ []
split-at [] n d h = absurd (omega (arith, h))
split-at (x ∷ []) zero d h = refl
split-at (x ∷ y ∷ xs) zero d h = absurd (omega (arith, h))
split-at (x ∷ xs) (suc n) d h = ap (λ (ys : List _). x ∷ ys) (split-at xs n d (omega (arith, h)))

ended : (H : List Entry) → IsLegal H → 1 < length H → IsEnded H (take (length H - 1) H)
ended [] legal some = absurd legal
ended (f ∷ H) legal some =
    let n : ℕ = length (f ∷ H) - 1 in
    let e : Entry = get_or (f ∷ H) n f in
    let G : List Entry = take n (f ∷ H) in
    let split : f ∷ H ≡ G ++ e ∷ [] = split-at (f ∷ H) n f (omega (arith, some)) in
    let long : length G ≡ n = length-take-le n (f ∷ H) (omega arith) in
    record {
      entry = e;
      split = split;
      legal =
          IsLegal-first G (e ∷ [])
          (λ h. (let none : length G ≡ 0 = ap length h in absurd (omega (arith, none, long, some))))
          (subst IsLegal split legal);
    }

-- what is kept of it leads back
record IsBack (s : Inside) (G : List Entry) (kept : List Change) (c : Change) : Type 0 where
  legal : IsLegal G
  kept_is : kept ≡ changes_of G
  may : MayUndo (turns_in s.active) s.active.count c
  back : undone c s.active.count (turns_in s.active) ≡ turns_of G
  count : count_before c s.active.count ≡ next_number G

is-back : (s : Inside) (G : List Entry) (kept : List Change) (c : Change) → AreFarmTurns s → IsEnded s.state G →
    s.changes.items ≡ kept ++ c ∷ [] → IsBack s G kept c
is-back s G kept c f last changes_were =
    let e : Entry = last.entry in
    let longer : IsLegal (G ++ e ∷ []) = subst IsLegal last.split f.legal in
    let step = step-of G e (turns_of G) last.legal longer (turns-kept G last.legal) in
    let both : kept ++ c ∷ [] ≡ changes_of G ++ change_at G e (turns_of G) ∷ [] =
    sym changes_were ∙ f.changes ∙ ap changes_of last.split ∙ changes-more G e in
    let parts = snoc-parts kept (changes_of G) c (change_at G e (turns_of G)) both in
    let turns_were : turns_in s.active ≡ turns_after G e (turns_of G) =
    f.turns ∙ ap turns_of last.split ∙ turns-more G e in
    let count_was : s.active.count ≡ next_number (G ++ e ∷ []) = f.count ∙ ap next_number last.split in
    record {
      legal = last.legal;
      kept_is = parts.0;
      may =
          subst (MayUndo (turns_in s.active) s.active.count) (sym parts.1)
          (subst (λ (k : ℕ). MayUndo (turns_in s.active) k (change_at G e (turns_of G))) (sym count_was)
          (subst (λ (t : Turns). MayUndo t (next_number (G ++ e ∷ [])) (change_at G e (turns_of G))) (sym turns_were)
          step.may_undo));
      back =
          ap (λ (x : Change). undone x s.active.count (turns_in s.active)) parts.1
          ∙ ap (λ (k : ℕ). undone (change_at G e (turns_of G)) k (turns_in s.active)) count_was
          ∙ ap (undone (change_at G e (turns_of G)) (next_number (G ++ e ∷ []))) turns_were
          ∙ step.back_is;
      count =
          ap (λ (x : Change). count_before x s.active.count) parts.1
          ∙ ap (count_before (change_at G e (turns_of G))) count_was
          ∙ step.count_back;
    }

back-on : (s : Inside) (F : List Entry) (kept : List Change) (c : Change) → AreFarmTurns s → s.state ≡ F →
    1 < length F → s.changes.items ≡ kept ++ c ∷ [] → IsBack s (take (length s.state - 1) s.state) kept c
back-on s F kept c f same some changes_were =
    is-back s (take (length s.state - 1) s.state) kept c f
    (ended s.state f.legal (subst (λ (X : List Entry). 1 < length X) (sym same) some)) changes_were

pub may-pop : (s : Inside) (F : List Entry) (kept : List Change) (c : Change) → AreFarmTurns s → s.state ≡ F →
    1 < length F → s.changes.items ≡ kept ++ c ∷ [] → MayUndo (turns_in s.active) s.active.count c
may-pop s F kept c f same some changes_were = (back-on s F kept c f same some changes_were).may

pub popped-turns : (s t : Inside) (F : List Entry) (c : Change) → AreFarmTurns s → s.state ≡ F → 1 < length F →
    s.changes.items ≡ t.changes.items ++ c ∷ [] → t.state ≡ take (length s.state - 1) s.state →
    turns_in t.active ≡ undone c s.active.count (turns_in s.active) → t.active.count ≡ count_before c s.active.count →
    AreFarmTurns t
popped-turns s t F c f same some changes_were state_is turns_now count_now =
    let b = back-on s F t.changes.items c f same some changes_were in
    record {
      legal = subst IsLegal (sym state_is) b.legal;
      turns = turns_now ∙ b.back ∙ ap turns_of (sym state_is);
      count = count_now ∙ b.count ∙ ap next_number (sym state_is);
      changes = b.kept_is ∙ ap changes_of (sym state_is);
    }

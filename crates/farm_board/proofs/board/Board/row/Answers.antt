use Rattle.std.proofs.Common.{arith, subst, sym, ap, ◌∙◌, ◌≡◌, ◌+◌, ◌++◌, ℕ, List, [], ◌∷◌, length, take, length-take, length-set}
use Rattle.std.proofs.lemmas.List.{take_more_set}
use mathlib.Core.Option.{none}
use Rattle.atomic_table.specs.Table.{Allows, step}
use Rattle.farm_entry.specs.declared.entry.Entry.{Entry}
use Rattle.farm_board.specs.Row.{number_of}
use Rattle.farm_board.specs.Rule.{IsKept, AreOf}
use Rattle.farm_board.specs.Steps.{Begins, Peeks, Checks}
use Rattle.farm_board.specs.Views.{reading, idle}
use Rattle.farm_board.proofs.Keeps.{begins, peeks, checks}
use Rattle.farm_board.proofs.Numbers.{take-all}
use Rattle.farm_board.proofs.board.Board.row.Goals as goal

pub load-version-requires : goal.load-version-requires
load-version-requires c =
    let seat = c.args.seat.now in (
      c.requires.own ∙ sym c.words-shared.ensures.own,
      omega (arith, c.words-shared.ensures.sized.0),
      subst (λ (n : ℕ). Allows (IsKept number_of) n seat.id seat.me 0 (λ k. k) (Begins (step n 0 0 0 none) seat.me))
          (sym c.words-shared.ensures.sized.1)
          (begins number_of seat.id seat.me (ap (λ m. m.0) c.requires.still)),
    )

pub load-requires : goal.load-requires
load-requires c =
    let seat = c.loop-k.seat in
    let j = c.loop-k.k in
    let me = c.loop-k.invariant.me.3 in
    let long : length seat.me.0.numbers ≡ j =
    rw me (omega (arith, length-take j c.loop-k.row, c.loop-k.invariant.room)) in (
      c.loop-k.invariant.table ∙ c.requires.own ∙ sym c.words-shared.ensures.own,
      omega (arith, c.words-shared.ensures.sized.0),
      subst (λ (n : ℕ). Allows (IsKept number_of) n seat.id seat.me (j + 1) (λ k. k)
          (Peeks (step n (j + 1) 0 0 none) seat.me))
          (sym c.words-shared.ensures.sized.1)
          (peeks number_of seat.id j seat.me (ap (λ m. m.0.posts) me) (ap (λ m. m.0.reads) me) long (omega arith)),
    )

pub load-requires-2 : goal.load-requires-2
load-requires-2 c =
    let seat = c.loop-k.seat in
    let me = c.loop-k.invariant.me.3 in (
      c.loop-k.invariant.table ∙ c.requires.own ∙ sym c.words-shared.ensures.own,
      omega (arith, c.words-shared.ensures.sized.0),
      subst (λ (n : ℕ). Allows (IsKept number_of) n seat.id seat.me 0 (λ k. k)
          (Checks number_of (step n 0 0 0 none) seat.me))
          (sym c.words-shared.ensures.sized.1)
          (checks number_of seat.id seat.me (ap (λ m. m.0.posts) me) (ap (λ m. m.0.reads) me)),
    )

pub loop-k-preserved : goal.loop-k-preserved
loop-k-preserved c =
    let i = c.loop-k.invariant in
    let more = take_more_set c.loop-k.row c.loop-k.k c.load.result (omega (arith, c.loop-k.invariant.room)) in
    record {
      table = c.load.ensures.0 ∙ i.table;
      seat = c.load.ensures.1 ∙ i.seat;
      room = length-set c.loop-k.row c.loop-k.k c.load.result ∙ i.room;
      me = (
        i.me.0,
        i.me.1,
        i.me.2,
        c.load.ensures.2
            ∙ (ap (λ m. (reading m.0.version m.0.seen m.0.at (m.0.numbers ++ c.load.result ∷ []), m.1)) i.me.3
            ∙ ap (λ (l : List ℕ). (reading c.load-version.result c.args.seat.now.me.0.seen i.me.0 l, [])) (sym more)),
      );
    }

pub returns-then-load-version-clause-some : goal.returns-then-load-version-clause-some
returns-then-load-version-clause-some c =
    let i = c.loop-k.invariant in
    let all : take c.loop-k.k c.loop-k.row ≡ c.loop-k.row = take-all c.loop-k.k c.loop-k.row (omega (arith, i.room)) in
    let t = c.load-2.ensures.2.0 (c.if-load-version.true ∙ sym (ap (λ m. m.0.version) i.me.3)) in
    let list : c.loop-k.seat.me.0.numbers ≡ c.loop-k.row = ap (λ m. m.0.numbers) i.me.3 ∙ all in
    let at : c.loop-k.seat.me.0.at ≡ i.me.0 = ap (λ m. m.0.at) i.me.3 in (
      i.me.0,
      i.me.1,
      i.me.2,
      t.1 ∙ ap (λ m. (idle m.0.at, m.1)) i.me.3,
      i.room,
      subst (λ (h : List Entry). AreOf number_of h c.loop-k.row) at
          (subst (λ (l : List ℕ). AreOf number_of c.loop-k.seat.me.0.at l) list t.0),
    )

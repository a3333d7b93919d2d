use Rattle.std.proofs.Common.{arith, sym, subst, ap, ◌∙◌, ◌≡◌, ◌+◌, ◌-◌, ℕ, [], set}
use Rattle.std.proofs.lemmas.List.{set-get_or}
use mathlib.Core.Option.{none}
use Rattle.atomic_table.specs.Table.{Allows, step}
use Rattle.farm_board.specs.Row.{number_of}
use Rattle.farm_board.specs.Rule.{IsKept}
use Rattle.farm_board.specs.Steps.{Puts}
use Rattle.farm_board.specs.Views.{posting}
use Rattle.farm_board.proofs.Keeps.{puts}
use Rattle.farm_board.proofs.board.Board.put.Goals as goal

pub store-requires : goal.store-requires
store-requires c =
    let seat = c.args.seat.now in
    let me = c.requires.posting in
    let k = c.args.place in
    let x = c.args.number in (
      c.requires.own ∙ sym c.words.ensures.own,
      omega (arith, c.words.ensures.sized.0, c.requires.within),
      subst (λ (n : ℕ). Allows (IsKept number_of) n seat.id seat.me (k + 1) (λ _. x)
          (λ _. Puts (step n (k + 1) x 0 none) seat.me x))
          (sym c.words.ensures.sized.1)
          (puts number_of seat.id k x seat.me (ap (λ m. m.0.posts) me) (ap (λ m. m.0.writes) me) c.requires.sized
          c.requires.within),
    )

pub returns-then-number-posted-clause-me : goal.returns-then-number-posted-clause-me
returns-then-number-posted-clause-me c =
    let me = c.args.seat.now.me in
    let k = c.args.place in
    let number_is = c.requires.posted ∙ sym c.if-number-posted.true in
    c.requires.posting
    ∙ ap (λ l. (posting me.0.version me.0.seen l, []))
    (sym (ap (λ (n : ℕ). set me.0.numbers k n) (sym number_is) ∙ set-get_or me.0.numbers k 0))

pub returns-clause-me : goal.returns-clause-me
returns-clause-me c =
    let me = c.args.seat.now.me in
    let k = c.args.place in
    let place : k + 1 - 1 ≡ k = omega arith in
    c.store.ensures.2
    ∙ (ap (λ (n : ℕ). (posting me.0.version me.0.seen (set me.0.numbers n c.args.number), me.1)) place
    ∙ ap (λ l. (posting me.0.version me.0.seen (set me.0.numbers k c.args.number), l))
    (ap (λ m. m.1) c.requires.posting))

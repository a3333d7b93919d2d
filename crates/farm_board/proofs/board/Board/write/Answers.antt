use Rattle.std.proofs.Common.{arith, subst, sym, ap, refl, ◌∙◌, ◌≡◌, ◌+◌, ◌%◌, ◌^◌, ◌==◌, ℕ, List, [], length, set, get_or}
use mathlib.Core.Option.{none}
use prog.Atomic.{either}
use Rattle.atomic_table.specs.Table.{Allows, step}
use Rattle.farm_entry.specs.declared.entry.Entry.{Entry}
use Rattle.farm_entry.specs.Legal.{IsLegal}
use Rattle.farm_entry.specs.Pages.{totals}
use Rattle.farm_laws.proofs.Bounds.{entries-bounded}
use Rattle.common_types.specs.Prefix.{IsPrefix}
use Rattle.farm_board.specs.Row.{number_of, numbers_of, row_of}
use Rattle.farm_board.specs.Rule.{IsKept, AreOf}
use Rattle.farm_board.specs.Steps.{Starts, Ends}
use Rattle.farm_board.specs.Views.{posting, resting}
use Rattle.farm_board.proofs.Keeps.{starts, ends}
use Rattle.farm_board.proofs.Numbers.{length-mixed, mixed, mixed-all, mixed-at, mixed-set}
use Rattle.farm_board.proofs.board.Board.write.Goals as goal

pub fetch_add-version-requires : goal.fetch_add-version-requires
fetch_add-version-requires g c =
    let seat = c.args.seat.now in
    let still = c.requires.still in (
      c.requires.own ∙ sym c.words-shared.ensures.own,
      omega (arith, c.words-shared.ensures.sized.0),
      subst (λ (n : ℕ). Allows (IsKept number_of) n seat.id seat.me 0 (λ k. (k + 1) % 2 ^ 64)
          (Starts row_of (step n 0 1 0 none) seat.me))
          (sym c.words-shared.ensures.sized.1)
          (starts number_of row_of (λ H. refl) (λ H k h. refl) seat.id seat.me
          (ap (λ m. m.0.posts) still) (ap (λ m. m.0.writes) still)
          (let few = entries-bounded c.args.history.now c.requires.legal in omega
          (arith, few, c.requires.few, c.requires.more))),
    )

pub put-requires : goal.put-requires
put-requires g c =
    let k = c.loop-k.k in
    let row = c.row_of-row.result in
    let posted = c.row_of-posted.result in
    let me = c.loop-k.invariant.me in
    let full : length row ≡ 8 = ap (λ (l : List ℕ). length l) c.row_of-row.ensures in
    let like : length row ≡ length posted =
    full ∙ sym (ap (λ (l : List ℕ). length l) c.row_of-posted.ensures) in record {
      own = c.loop-k.invariant.table ∙ c.requires.own;
      posting = subst (λ m. m ≡ (posting m.0.version m.0.seen m.0.numbers, [])) (sym me) refl;
      sized = ap (λ m. length m.0.numbers) me ∙ (length-mixed k row posted like ∙ full);
      within = omega arith;
      posted = ap (λ m. get_or m.0.numbers k 0) me ∙ mixed-at k row posted like (omega (arith, full));
    }

pub loop-k-preserved : goal.loop-k-preserved
loop-k-preserved g c =
    let i = c.loop-k.invariant in
    let k = c.loop-k.k in
    let row = c.row_of-row.result in
    let posted = c.row_of-posted.result in
    let full : length row ≡ 8 = ap (λ (l : List ℕ). length l) c.row_of-row.ensures in
    let like : length row ≡ length posted =
    full ∙ sym (ap (λ (l : List ℕ). length l) c.row_of-posted.ensures) in record {
      table = c.put.ensures.own.0 ∙ i.table;
      seat = c.put.ensures.own.1 ∙ i.seat;
      me = c.put.ensures.me
          ∙ (ap (λ m. (posting m.0.version m.0.seen (set m.0.numbers k (get_or row k 0)), [])) i.me
          ∙ ap (λ (l : List ℕ). (posting (c.fetch_add-version.result + 1) c.args.seat.now.me.0.seen l, []))
          (mixed-set k row posted like (omega (arith, full))));
    }

pub compare_exchange-requires : goal.compare_exchange-requires
compare_exchange-requires g c =
    let seat = c.loop-k.seat in
    let row = c.row_of-row.result in
    let H : List Entry = g.H.Posted.entries in
    let history = c.args.history.now in
    let found = c.fetch_add-version.result in
    let version = found + 1 in
    let me = c.loop-k.invariant.me in
    let row_is : row ≡ numbers_of (totals H) =
    c.row_of-row.ensures ∙ ap numbers_of c.requires.totals ∙ ap
    (λ (h : List Entry). numbers_of (totals h)) c.requires.picked in
    let full : length row ≡ 8 = ap (λ (l : List ℕ). length l) row_is in
    let posted = c.row_of-posted.result in
    let like : length row ≡ length posted =
    full ∙ sym (ap (λ (l : List ℕ). length l) c.row_of-posted.ensures) in
    let all : mixed c.loop-k.k row posted ≡ row = mixed-all c.loop-k.k row posted like (omega (arith, full)) in
    let list : seat.me.0.numbers ≡ numbers_of (totals H) = ap (λ m. m.0.numbers) me ∙ (all ∙ row_is) in
    let seen : c.args.seat.now.me.0.seen ≡ seat.me.0.seen = sym (ap (λ m. m.0.seen) me) in
    let next : version + 1 ≡ found + 2 = omega arith in (
      c.loop-k.invariant.table ∙ c.requires.own ∙ sym c.words-shared.ensures.own,
      omega (arith, c.words-shared.ensures.sized.0),
      subst
          (λ (n : ℕ). Allows (IsKept number_of) n seat.id seat.me 0 (λ k. either (k == version) (found + 2) k)
          (Ends H (step n 0 version (found + 2) none) seat.me))
          (sym c.words-shared.ensures.sized.1)
          (subst
          (λ (t : ℕ). Allows (IsKept number_of) 0 seat.id seat.me 0 (λ k. either (k == version) t k)
          (Ends H (step 0 0 version t none) seat.me))
          next
          (ends number_of seat.id version H seat.me (ap (λ m. m.0.posts) me) (ap (λ m. m.0.writes) me)
          (ap (λ m. m.0.version) me)
          (ap (λ (l : List ℕ). length l) list)
          (subst (λ (l : List ℕ). AreOf number_of H l) (sym list) (λ k h. refl))
          (subst (λ (l : List Entry). IsPrefix l H) seen
          (subst (λ (l : List Entry). IsPrefix c.args.seat.now.me.0.seen l) c.requires.picked c.requires.longer))
          (subst (λ (l : List Entry). IsLegal l) c.requires.picked c.requires.legal))),
    )

pub returns-clause-me : goal.returns-clause-me
returns-clause-me g c =
    let me = c.loop-k.invariant.me in
    let old = c.args.seat.now.me.0 in
    let found : c.fetch_add-version.result ≡ old.version = c.fetch_add-version.ensures.2.0 in
    let v : c.loop-k.seat.me.0.version + 1 ≡ old.version + 2 = omega (arith, found, ap (λ m. m.0.version) me) in
    c.compare_exchange.ensures.2
    ∙ (ap (λ (n : ℕ). (resting n g.H.Posted.entries, c.loop-k.seat.me.1)) v
    ∙ (ap (λ m. (resting (old.version + 2) g.H.Posted.entries, m.1)) me
    ∙ ap (λ (h : List Entry). (resting (old.version + 2) h, [])) (sym c.requires.picked)))

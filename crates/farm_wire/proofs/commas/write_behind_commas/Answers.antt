use Rattle.std.proofs.Common.{rules, ◌≡◌, ◌+◌, ◌-◌, ◌≤◌, ℕ, length, slice_index_or, refl, sym, ap, ◌∙◌, arith, drop}
use Rattle.std.proofs.lemmas.List.{drop_all, length-set}
use Rattle.farm_wire.specs.Pieces.{behind_commas}
use Rattle.farm_wire.specs.declared.commas.TheConstants.{CHUNK_BYTES}
use Rattle.farm_wire.proofs.CommaTexts.{short-decimal, written-next}
use Rattle.farm_wire.proofs.commas.write_behind_commas.Goals as goal

pub numbers-init : goal.numbers-init
numbers-init c =
    let size : CHUNK_BYTES ≡ 704 = refl in
    let few : length c.args.numbers.now ≤ 64 = c.requires in
    let long : length c.args.room.now ≡ 704 = search rules in
    record {
      within = omega (arith, few);
      high = omega (arith, size);
      whole = long;
      written = drop_all 704 c.args.room.now (omega (arith, long))
          ∙ ap behind_commas (sym (drop_all (length c.args.numbers.now - 0) c.args.numbers.now (omega arith)));
    }

pub write_digits-digits-requires : goal.write_digits-digits-requires
write_digits-digits-requires c =
    let size : CHUNK_BYTES ≡ 704 = refl in
    let k = length c.args.numbers.now - 1 - c.numbers.done in
    let short = short-decimal (slice_index_or c.args.numbers.now k 0) (omega (arith, c.type_inv.numbers k)) in
    let old = c.numbers.invariant in (
      omega (arith, short, old.within, c.numbers-test.true),
      omega (arith, old.high, old.whole, size),
    )

pub overflow_sub-start : goal.overflow_sub-start
overflow_sub-start c =
    let k = length c.args.numbers.now - 1 - c.numbers.done in
    let short = short-decimal (slice_index_or c.args.numbers.now k 0) (omega (arith, c.type_inv.numbers k)) in
    omega (arith, short, c.write_digits-digits.ensures.start, c.numbers.invariant.within, c.numbers-test.true)

pub numbers-preserved : goal.numbers-preserved
numbers-preserved c =
    let size : CHUNK_BYTES ≡ 704 = refl in
    let numbers = c.args.numbers.now in
    let k = length numbers - 1 - c.numbers.done in
    let short = short-decimal (slice_index_or numbers k 0) (omega (arith, c.type_inv.numbers k)) in
    let old = c.numbers.invariant in
    let put = c.write_digits-digits.ensures in
    let test = c.numbers-test.true in
    let long : length c.write_digits-digits.new.buf ≡ 704 = search rules in
    let next : k + 1 ≡ length numbers - c.numbers.done = omega (arith, test) in
    let before : k ≡ length numbers - (c.numbers.done + 1) = omega (arith, test) in
    record {
      within = omega (arith, short, put.start, old.within, test);
      high = omega (arith, put.start, old.high, size);
      whole = length-set _ _ _ ∙ long;
      written =
          written-next c.numbers.room c.write_digits-digits.new.buf numbers c.numbers.start
          c.write_digits-digits.result k (omega (arith, test)) (omega (arith, short, put.start, old.within, test))
          (omega (arith, put.start, old.high, size, long)) put.written
          (old.written ∙ ap (λ (n : ℕ). behind_commas (drop n numbers)) (sym next))
          ∙ ap (λ (n : ℕ). behind_commas (drop n numbers)) before;
    }

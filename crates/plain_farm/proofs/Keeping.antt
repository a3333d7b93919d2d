-- What is kept of each search, after appending an entry.
use Rattle.std.proofs.Common.{◌≡◌, ◌≢◌, ℕ, ◌+◌, ◌<◌, ◌≤◌, List, [], ◌∷◌, ◌++◌, length, set, get_or, Contains, Option, Some, None, sym, ap, subst, ◌∙◌, arith, append-nil, length-append, ⊎_elim}
use Rattle.std.specs.List.{cons_option}
use Rattle.std.proofs.lemmas.Bool.{cases_eq, cases_lt}
use Rattle.std.proofs.lemmas.List.{get_or-set_other, get_or-set_same, get_or_append_left}
use Rattle.std.proofs.lemmas.Option.{same_Some}
use Rattle.std.proofs.Math.Seq.{get_or-append_seam}
use Rattle.std.proofs.Math.ListN.{length-set}
use Rattle.farm_types.specs.declared.stage.Stage.TheVariants.{Search, Verify}
use Rattle.threshold_pick.specs.Open.{open_plan}
use Rattle.weight_exact.specs.declared.run.Run.{Run}
use Rattle.farm_entry.specs.History.{opening_in, openings, runs, skipped}
use Rattle.farm_entry.specs.Legal.{IsLegal, ask_of}
use Rattle.farm_entry.specs.Setup.{setup_of}
use Rattle.farm_entry.specs.declared.entry.Entry.{Entry}
use Rattle.farm_entry.specs.declared.opening.Opening.{Opening}
use Rattle.farm_entry.proofs.Growing.{openings-grow}
use Rattle.farm_laws.proofs.EntryParts.{opened-facts}
use Rattle.farm_laws.proofs.Made.{is_made}
use Rattle.farm_laws.proofs.Numbered.{number-at, openings-numbered}
use Rattle.farm_laws.proofs.Opened.{opened-cases}
use Rattle.farm_laws.proofs.Stepped.{Stepped}
use Rattle.farm_laws.specs.Steps.{IsAbout}
use Rattle.farm_laws.proofs.OneMore.{cancelled-same, not_about-cancel, not_about-report, over-same, runs-same, skips-same, standing-same}
use Rattle.plain_farm.specs.Rows.{AreRows, IsOut, IsTold}
use Rattle.plain_farm.specs.declared.rows.Row.{Row}

-- A search that an entry isn't about.
pub told-same : (H : List Entry) (e : Entry) (o : Opening) (row : Row) → IsLegal H → Stepped H e.at e.what →
    (IsAbout H e.what o.search → ⊥) → IsTold H o row → IsTold (H ++ e ∷ []) o row
told-same H e o row legal step other t =
    let run = runs-same H e o.search Search legal step other in
    let again = runs-same H e o.search Verify legal step other in
    let skips = skips-same H e o.search legal step other in
    let stands = standing-same H e o legal step other in
    record {
      told = t.told ∙ sym run;
      again = t.again ∙ sym again;
      skips = t.skips ∙ sym skips;
      cancelled = t.cancelled ∙ sym (cancelled-same H e o.search (not_about-cancel H e.what o.search other));
      over = t.over ∙ sym (over-same H e o.search legal step (not_about-report H e.what o.search other));
      stands = t.stands ∙ sym stands;
      planned = λ searching.
          t.planned (sym stands ∙ searching)
          ∙ ap (λ (rs : List Run). open_plan (setup_of o) rs (skipped H o.search) o.width) (sym run)
          ∙ ap (λ (ks : List ℕ). open_plan (setup_of o) (runs (H ++ e ∷ []) o.search) ks o.width) (sym skips);
    }

-- The searches of a history with an entry that opens none.
pub openings-same : (H : List Entry) (e : Entry) → opening_in e.what ≡ None → openings (H ++ e ∷ []) ≡ openings H
openings-same H e none =
    openings-grow H e
    ∙ ap (λ (x : Option Opening). openings H ++ cons_option x []) none
    ∙ append-nil (openings H)

-- an index and its number
same-index : (i k s : ℕ) → i + 1 ≡ s → k + 1 ≡ s → i ≡ k
same-index i k s a b = omega arith

-- one row is written anew
row-at : (rows : List Row) (i k : ℕ) (new row : Row) → i < length rows → k ≡ i → row ≡ get_or (set rows i new) k row →
    row ≡ new
row-at rows i k new row below here is =
    is ∙ ap (λ (n : ℕ). get_or (set rows i new) n row) here ∙ get_or-set_same rows i new row below

row-beside : (rows : List Row) (i k : ℕ) (new row : Row) → k ≢ i → row ≡ get_or (set rows i new) k row →
    row ≡ get_or rows k row
row-beside rows i k new row beside is = is ∙ get_or-set_other rows i k new row beside

-- What one written row has to say, and why the others still say it
pub record IsWritten (H : List Entry) (e : Entry) (i : ℕ) (new : Row) : Type 0 where
  pub told : (o : Opening) → Contains (openings H) o → i + 1 ≡ o.search → IsTold (H ++ e ∷ []) o new
  pub out : IsOut (H ++ e ∷ []) (i + 1) new
  pub told_others : (o : Opening) (row : Row) → Contains (openings H) o → i + 1 ≢ o.search → IsTold H o row →
      IsTold (H ++ e ∷ []) o row
  pub out_others : (s : ℕ) (row : Row) → i + 1 ≢ s → IsOut H s row → IsOut (H ++ e ∷ []) s row

pub rows-written : (H : List Entry) (e : Entry) (rows : List Row) (i : ℕ) (new : Row) → opening_in e.what ≡ None →
    AreRows H rows → i < length rows → IsWritten H e i new → AreRows (H ++ e ∷ []) (set rows i new)
rows-written H e rows i new none kept below w =
    let same = openings-same H e none in
    let long : length (set rows i new) ≡ length rows = length-set rows i new in
    record {
      few = subst (λ (os : List Opening). length (set rows i new) ≤ length os) (sym same) (omega (arith, long, kept.few));
      told = λ o k row there number within is.
          let there_before : Contains (openings H) o = subst (λ (os : List Opening). Contains os o) same there in
          ⊎_elim
          (λ (here : k ≡ i).
          subst (λ (r : Row). IsTold (H ++ e ∷ []) o r) (sym (row-at rows i k new row below here is))
          (w.told o there_before (omega (arith, number, here))))
          (λ (beside : k ≢ i).
          w.told_others o row there_before (λ at. beside (same-index k i o.search number at))
          (kept.told o k row there_before number (omega (arith, within, long)) (row-beside rows i k new row beside is)))
          (cases_eq k i);
      out = λ k row within is.
          ⊎_elim
          (λ (here : k ≡ i).
          subst (λ (r : Row). IsOut (H ++ e ∷ []) (k + 1) r) (sym (row-at rows i k new row below here is))
          (subst (λ (n : ℕ). IsOut (H ++ e ∷ []) (n + 1) new) (sym here) w.out))
          (λ (beside : k ≢ i).
          w.out_others (k + 1) row (λ at. beside (same-index k i (k + 1) (omega arith) at))
          (kept.out k row (omega (arith, within, long)) (row-beside rows i k new row beside is)))
          (cases_eq k i);
    }

-- No row is written, and all still say what they did
pub rows-stay : (H : List Entry) (e : Entry) (rows : List Row) → opening_in e.what ≡ None → AreRows H rows →
    ((o : Opening) (row : Row) → Contains (openings H) o → 1 ≤ o.search → o.search ≤ length rows → IsTold H o row →
    IsTold (H ++ e ∷ []) o row) →
    ((s : ℕ) (row : Row) → 1 ≤ s → s ≤ length rows → IsOut H s row → IsOut (H ++ e ∷ []) s row) →
    AreRows (H ++ e ∷ []) rows
rows-stay H e rows none kept told out =
    let same = openings-same H e none in
    record {
      few = subst (λ (os : List Opening). length rows ≤ length os) (sym same) kept.few;
      told = λ o k row there number within is.
          let there_before : Contains (openings H) o = subst (λ (os : List Opening). Contains os o) same there in
          told o row there_before (omega (arith, number)) (omega (arith, number, within)) (kept.told o k row there_before number within is);
      out = λ k row within is.
          out (k + 1) row (omega arith) (omega (arith, within)) (kept.out k row within is);
    }

-- A search that an entry opens.

-- its number is the next one
pub opened-number : (H : List Entry) (e : Entry) (o : Opening) → Stepped H e.at e.what → opening_in e.what ≡ Some o →
    o.search ≡ length (openings H) + 1
opened-number H e o step is =
    sym (is_made (ask_of o) (length (openings H) + 1) o (opened-facts H e.at e.what o is step).made).number

pub openings-more : (H : List Entry) (e : Entry) (o : Opening) → opening_in e.what ≡ Some o →
    openings (H ++ e ∷ []) ≡ openings H ++ o ∷ []
openings-more H e o is = openings-grow H e ∙ ap (λ (x : Option Opening). openings H ++ cons_option x []) is

longer-openings : (H : List Entry) (e : Entry) (o : Opening) → opening_in e.what ≡ Some o →
    length (openings (H ++ e ∷ [])) ≡ length (openings H) + 1
longer-openings H e o is = ap length (openings-more H e o is) ∙ length-append (openings H) (o ∷ [])

-- those before have smaller numbers
pub opening-low : (H : List Entry) (x : Opening) → IsLegal H → Contains (openings H) x → x.search ≤ length (openings H)
opening-low H x legal there =
    let at = number-at (λ (y : Opening). y.search) 1 (openings H) (openings-numbered H legal) there.0 x there.1 in
    let number : x.search ≡ 1 + there.0 = ap (λ (y : Opening). y.search) (sym there.2) ∙ at in
    omega (arith, number, there.1)

-- What the entries before say of the others, they still say
pub record AreOthers (H : List Entry) (e : Entry) : Type 0 where
  pub told : (o : Opening) (row : Row) → Contains (openings H) o → IsTold H o row → IsTold (H ++ e ∷ []) o row
  pub out : (s : ℕ) (row : Row) → IsOut H s row → IsOut (H ++ e ∷ []) s row

pub rows-unopened : (H : List Entry) (e : Entry) (o : Opening) (rows : List Row) → Stepped H e.at e.what →
    opening_in e.what ≡ Some o → AreRows H rows → AreOthers H e → AreRows (H ++ e ∷ []) rows
rows-unopened H e o rows step is kept others =
    let next = opened-number H e o step is in
    record {
      few = omega (arith, longer-openings H e o is, kept.few);
      told = λ x k row there number within at.
          ⊎_elim (λ (before : Contains (openings H) x). others.told x row before (kept.told x k row before number within at))
          (λ (now : opening_in e.what ≡ Some x).
          let same : x.search ≡ length (openings H) + 1 = opened-number H e x step now in
          absurd (omega (arith, same, number, within, kept.few)))
          (opened-cases H e x there);
      out = λ k row within at. others.out (k + 1) row (kept.out k row within at);
    }

pub rows-opened : (H : List Entry) (e : Entry) (o : Opening) (rows : List Row) (new : Row) → IsLegal H →
    Stepped H e.at e.what → opening_in e.what ≡ Some o → AreRows H rows → AreOthers H e → length rows + 1 ≡ o.search →
    IsTold (H ++ e ∷ []) o new → IsOut (H ++ e ∷ []) o.search new → AreRows (H ++ e ∷ []) (rows ++ new ∷ [])
rows-opened H e o rows new legal step is kept others next told out =
    let own : o.search ≡ length (openings H) + 1 = opened-number H e o step is in
    let long : length (rows ++ new ∷ []) ≡ length rows + 1 = length-append rows (new ∷ []) in
    let old : (k : ℕ) (row : Row) → k < length rows → row ≡ get_or (rows ++ new ∷ []) k row → row ≡ get_or rows k row =
    λ k row within at. at ∙ get_or_append_left rows (new ∷ []) row k within in
    let last : (k : ℕ) (row : Row) → k ≡ length rows → row ≡ get_or (rows ++ new ∷ []) k row → row ≡ new =
    λ k row end at.
    at ∙ ap (λ (n : ℕ). get_or (rows ++ new ∷ []) n row) end ∙ get_or-append_seam rows new [] row in
    record {
      few = omega (arith, longer-openings H e o is, kept.few, long);
      told = λ x k row there number within at.
          ⊎_elim
          (λ (before : k < length rows).
          ⊎_elim
          (λ (there_before : Contains (openings H) x).
          others.told x row there_before (kept.told x k row there_before number before (old k row before at)))
          (λ (now : opening_in e.what ≡ Some x).
          let same : x.search ≡ length (openings H) + 1 = opened-number H e x step now in
          absurd (omega (arith, same, number, before, kept.few)))
          (opened-cases H e x there))
          (λ (past : length rows ≤ k).
          let end : k ≡ length rows = omega (arith, within, long, past) in
          let x_is : x.search ≡ o.search = omega (arith, number, next, end) in
          ⊎_elim
          (λ (there_before : Contains (openings H) x).
          absurd (omega (arith, own, x_is, opening-low H x legal there_before)))
          (λ (now : opening_in e.what ≡ Some x).
          let it : x ≡ o = same_Some x o (sym now ∙ is) in
          subst (λ (r : Row). IsTold (H ++ e ∷ []) x r) (sym (last k row end at))
          (subst (λ (y : Opening). IsTold (H ++ e ∷ []) y new) (sym it) told))
          (opened-cases H e x there))
          (cases_lt k (length rows));
      out = λ k row within at.
          ⊎_elim
          (λ (before : k < length rows). others.out (k + 1) row (kept.out k row before (old k row before at)))
          (λ (past : length rows ≤ k).
          let end : k ≡ length rows = omega (arith, within, long, past) in
          let number : o.search ≡ k + 1 = omega (arith, next, end) in
          subst (λ (r : Row). IsOut (H ++ e ∷ []) (k + 1) r) (sym (last k row end at))
          (subst (λ (s : ℕ). IsOut (H ++ e ∷ []) s new) number out))
          (cases_lt k (length rows));
    }

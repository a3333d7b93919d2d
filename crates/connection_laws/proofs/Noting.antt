-- What is known by a link's notes stays known as more is put, noted and known.
use Rattle.std.proofs.Common.{ℕ, ◌≡◌, ◌+◌, ◌≤◌, List, [], ◌++◌, length, Option, Some, None, IfSome, arith, refl, subst, sym}
use Rattle.std.specs.Prelude.{⊤}
use Rattle.farm_entry.specs.declared.entry.Entry.{Entry}
use Rattle.link_io.specs.Links.{LinkState}
use Rattle.link_io.specs.Notes.{Note, TakesNotes}
use Rattle.common_types.proofs.Rows.{IsAmong-AreAmong, IsAmong-append_second}
use Rattle.common_types.specs.Rows.{AreAmong}
use Rattle.common_types.specs.declared.row.Row.{Row}
use Rattle.connection_laws.specs.Told.{IsNoted, noted_in}

pub TakesNotes-refl : (notes : Option (List Note)) → TakesNotes notes notes
TakesNotes-refl None = refl
TakesNotes-refl (Some notes) = ([], refl)

-- more rows and notes
pub noted-more : (rows all : List Row) (newer notes : List Note) (place : ℕ) (H : List Entry) → AreAmong rows all
    → IsNoted rows notes place H → IsNoted all (newer ++ notes) place H
noted-more rows all newer notes place H among n = record {
  note = n.note;
  noted = IsAmong-append_second newer notes n.note n.noted;
  before = n.before;
  row = n.row;
  known = IsAmong-AreAmong rows all n.row among n.known;
  holds = n.holds;
  same = n.same;
}

-- at a later place, and of a history that isn't longer
pub noted-later : (rows : List Row) (notes : List Note) (place later : ℕ) (H less : List Entry) → place ≤ later
    → length less ≤ length H → IsNoted rows notes place H → IsNoted rows notes later less
noted-later rows notes place later H less le shorter n =
    let before = n.before in
    let holds = n.holds in
    record {
      note = n.note;
      noted = n.noted;
      before = omega (arith, le, before);
      row = n.row;
      known = n.known;
      holds = omega (arith, shorter, holds);
      same = n.same;
    }

some-is : {A : Type 0} (x : Option A) (a : A) (P : A → Type 0) → x ≡ Some a → P a → IfSome x P
some-is {A} x a P is holds = subst (λ (o : Option A). IfSome o P) (sym is) holds

grown : (rows all : List Row) (old : Option (List ℕ)) (mid new : Option (List Note)) (place : ℕ) (H : List Entry)
    → AreAmong rows all → TakesNotes mid new
    → IfSome mid (λ notes. IfSome old (λ had. IsNoted rows notes (length had + place) H))
    → IfSome new (λ notes. IfSome old (λ had. IsNoted all notes (length had + place) H))
grown rows all old None new place H among takes holds =
    subst (λ (n : Option (List Note)). IfSome n (λ notes. IfSome old (λ had. IsNoted all notes (length had + place) H)))
    (sym takes) tt
grown rows all None (Some notes) new place H among (newer, is) holds =
    some-is new (newer ++ notes) (λ all_notes. ⊤) is tt
grown rows all (Some had) (Some notes) new place H among (newer, is) holds =
    some-is new (newer ++ notes) (λ all_notes. IsNoted all all_notes (length had + place) H) is
    (noted-more rows all newer notes (length had + place) H among holds)

-- what was known by one state of a link is known by a later one, and by more rows
pub noted_in-grown : (rows all : List Row) (old mid new : LinkState) (place : ℕ) (H : List Entry) → AreAmong rows all
    → TakesNotes mid.notes new.notes → noted_in rows old mid place H → noted_in all old new place H
noted_in-grown rows all old mid new place H among takes holds =
    grown rows all old.put mid.notes new.notes place H among takes holds

-- How many bytes entries have.
use Rattle.std.proofs.Common.{◌≡◌, ℕ, ◌+◌, ◌*◌, ◌≤◌, nat_eq, List, [], ◌∷◌, ◌++◌, length, refl, ◌∙◌, arith, inl, inr}
use Rattle.std.specs.List.{AllByRecursion, flat_map}
use Rattle.std.proofs.lemmas.Bool.{cases_Bool}
use Rattle.std.proofs.lemmas.List.{length-append}
use Rattle.std.proofs.lemmas.List.Elements.{recursion_from_All}
use Rattle.flake_rate.specs.Miss.{miss_numerator}
use Rattle.flake_rate.specs.declared.miss.Miss.{Miss}
use Rattle.farm_types.specs.CommitId.{id_bytes}
use Rattle.farm_types.specs.Moment.{moment_ms}
use Rattle.farm_types.specs.declared.commit_id.CommitId.{CommitId}
use Rattle.suspect_range.specs.declared.suspect.Suspect.{Suspect}
use Rattle.farm_entry.specs.declared.entry.Entry.{Entry}
use Rattle.farm_entry.specs.declared.entry.What.{What}
use Rattle.farm_entry.specs.declared.entry.What.TheVariants.{Founded, Opened, Leased, Reported, Skipped, Cancelled, Ordered, Carried, Closed}
use Rattle.farm_entry.specs.declared.opening.Opening.{Opening}
use Rattle.farm_entry.specs.declared.settings.Settings.{Settings}
use Rattle.entry_codec.specs.Grammar.{AreSpelled, HasSpelling, IsOpening}
use Rattle.entry_codec.specs.Spelling.{entry_bytes, fields_of, miss_bytes, number_bytes, opening_bytes, spelling, suspect_bytes, tag_of}
use Rattle.entry_codec.specs.declared.limits.TheConstants.{MAX_ENTRY_BYTES}
use Rattle.entry_codec.proofs.FieldLaws.{length-number_bytes}
use Rattle.entry_codec.proofs.EntryLaws.{IsSpelled}

length-id_bytes : (id : CommitId) → length (id_bytes id) ≡ 20
length-id_bytes id = id.whole

length-suspects : (suspects : List Suspect) → length (flat_map suspect_bytes suspects) ≡ 22 * length suspects
length-suspects [] = refl
length-suspects (s ∷ suspects) =
    omega (
      arith,
      length-append (suspect_bytes s) (flat_map suspect_bytes suspects),
      length-append (id_bytes s.commit) (number_bytes 2 s.weight),
      length-id_bytes s.commit,
      length-number_bytes 2 s.weight,
      length-suspects suspects,
    )

length-miss_bytes : (m : Miss) → length (miss_bytes m) ≤ 2
length-miss_bytes m = elim (cases_Bool (nat_eq (miss_numerator m) 0)) [
  | inl zero ↦ rw zero (omega arith)
  | inr above ↦ rw above (simp (length-append, length-number_bytes) (omega arith))
]

opening-short : (o : Opening) → IsOpening o → length (opening_bytes o) ≤ 22259
opening-short o h =
    simp (length-append, length-number_bytes, length-id_bytes, length-suspects)
    (omega (arith, h.test.few, h.range.few, length-miss_bytes o.miss))

fields-short : (what : What) → HasSpelling what → length (fields_of what) ≤ 22259
fields-short (Founded settings) h = simp (length-append, length-number_bytes) (omega arith)
fields-short (Opened o) h = opening-short o h
fields-short (Leased key worker run search stage position deadline) h =
    simp (length-append, length-number_bytes) (omega (arith, h.1.few))
fields-short (Reported run verdict _) h = simp (length-append, length-number_bytes) (omega arith)
fields-short (Skipped run _) h = simp (length-append, length-number_bytes) (omega arith)
fields-short (Cancelled key search) h = simp (length-append, length-number_bytes) (omega arith)
fields-short (Ordered key agent order commit search day) h =
    simp (length-append, length-number_bytes, length-id_bytes) (omega (arith, h.1.few))
fields-short (Carried commit day) h = simp (length-append, length-number_bytes, length-id_bytes) (omega arith)
fields-short Closed h = omega arith

length-entry_bytes : (e : Entry) → length (entry_bytes e) ≡ 9 + length (fields_of e.what)
length-entry_bytes e =
    let at : List ℕ = number_bytes 8 (moment_ms e.at) in
    let tag : List ℕ = number_bytes 1 (tag_of e.what) in
    omega (
      arith,
      length-append (at ++ tag) (fields_of e.what),
      length-append at tag,
      length-number_bytes 8 (moment_ms e.at),
      length-number_bytes 1 (tag_of e.what),
    )

pub entry-long : (e : Entry) → 9 ≤ length (entry_bytes e)
entry-long e = omega (arith, length-entry_bytes e)

-- a founding, and an order that was carried over
pub founded-length : (e : Entry) (settings : Settings) → e.what ≡ Founded settings → length (entry_bytes e) ≡ 17
founded-length e settings is =
    length-entry_bytes e ∙ rw is (simp (length-append, length-number_bytes) refl)

pub carried-length : (e : Entry) (commit : CommitId) (day : ℕ) → e.what ≡ Carried commit day →
    length (entry_bytes e) ≡ 33
carried-length e commit day is =
    length-entry_bytes e ∙ rw is (simp (length-append, length-number_bytes, length-id_bytes) refl)

pub entry-short : (e : Entry) → IsSpelled e → length (entry_bytes e) ≤ MAX_ENTRY_BYTES
entry-short e h = omega (arith, length-entry_bytes e, fields-short e.what h)

all-short : (entries : List Entry) → AllByRecursion IsSpelled entries →
    length (spelling entries) ≤ length entries * MAX_ENTRY_BYTES
all-short [] h = omega arith
all-short (e ∷ entries) h =
    omega (arith, length-append (entry_bytes e) (spelling entries), entry-short e h.0, all-short entries h.1)

pub spelling-short : (entries : List Entry) → AreSpelled entries →
    length (spelling entries) ≤ length entries * MAX_ENTRY_BYTES
spelling-short entries h = all-short entries (recursion_from_All IsSpelled entries h)

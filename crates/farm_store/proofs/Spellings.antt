-- What payloads spell.
use Rattle.std.proofs.Common.{◌≡◌, ◌≢◌, ℕ, ◌+◌, ◌*◌, ◌≤◌, ◌<◌, List, [], ◌∷◌, ◌++◌, length, map, refl, sym, ◌∙◌, ap, arith}
use Rattle.std.specs.List.{flat_map}
use Rattle.std.proofs.lemmas.Grind.{flat_map-append}
use Rattle.std.proofs.lemmas.List.{append-nil, map-append, length-append}
use Rattle.std.proofs.lemmas.List.Elements.{All-append, All-nil}
use Rattle.entry_codec.specs.Grammar.{AreSpelled, HasSpelling}
use Rattle.entry_codec.specs.Spelling.{entry_bytes, spelling}
use Rattle.entry_codec.specs.declared.limits.TheConstants.{MAX_ENTRY_BYTES}
use Rattle.entry_codec.proofs.ListLaws.{spelling-injective}
use Rattle.entry_codec.proofs.Sizes.{entry-long, spelling-short}
use Rattle.farm_entry.specs.Legal.{IsLegal}
use Rattle.farm_entry.specs.declared.entry.Entry.{Entry}
use Rattle.farm_entry.specs.declared.limits.TheConstants.{MAX_ENTRIES}
use Rattle.farm_laws.proofs.Bounds.{entries-bounded}
use Rattle.farm_journal.specs.Layout.{gate_of, IsPayload}
use Rattle.farm_journal.specs.declared.layout.TheConstants.{FIRST_GATE, GATE_LIMIT}
use Rattle.farm_journal.proofs.Scan.{gate_of-push}
use Rattle.farm_store.specs.Bytes.{Spells, joined}
use Rattle.farm_store.specs.StoreInside.{Keeps}
use Rattle.farm_store.specs.declared.asking.TheConstants.{MAX_RECORD_BYTES}

-- the bytes of all payloads, one after the other
abbrev all_bytes : List (List ℕ) → List ℕ
all_bytes payloads = flat_map (λ p. p) payloads

-- all parts together are spelled as their payloads one after the other
spelling-joined : (parts : List (List Entry)) → spelling (joined parts) ≡ all_bytes (map spelling parts)
spelling-joined [] = refl
spelling-joined (part ∷ parts) =
    flat_map-append entry_bytes part (joined parts)
    ∙ ap (λ (l : List ℕ). spelling part ++ l) (spelling-joined parts)

-- payloads spell one history
pub spells-unique : (payloads : List (List ℕ)) (H K : List Entry) → Spells payloads H → Spells payloads K → H ≡ K
spells-unique payloads H K one two = spelling-injective H K one.spelled two.spelled
    (ap spelling (sym one.whole)
    ∙ spelling-joined one.parts
    ∙ ap all_bytes (sym one.each ∙ two.each)
    ∙ sym (spelling-joined two.parts)
    ∙ ap spelling two.whole)

-- no payload spells no entry
pub spells-none : Spells [] []
spells-none = record {
  parts = [];
  each = refl;
  whole = refl;
  spelled = All-nil (λ (e : Entry). HasSpelling e.what);
}

joined-push : (parts : List (List Entry)) (part : List Entry) → joined (parts ++ part ∷ []) ≡ joined parts ++ part
joined-push parts part =
    flat_map-append (λ (l : List Entry). l) parts (part ∷ [])
    ∙ ap (λ (l : List Entry). joined parts ++ l) (append-nil part)

-- one payload more
pub spells-push : (payloads : List (List ℕ)) (H part : List Entry) (p : List ℕ) → Spells payloads H → AreSpelled part
    → p ≡ spelling part → Spells (payloads ++ p ∷ []) (H ++ part)
spells-push payloads H part p before spelled is = record {
  parts = before.parts ++ part ∷ [];
  each = ap (λ (l : List ℕ). payloads ++ l ∷ []) is
      ∙ ap (λ (l : List (List ℕ)). l ++ spelling part ∷ []) before.each
      ∙ sym (map-append spelling before.parts (part ∷ []));
  whole = joined-push before.parts part ∙ ap (λ (l : List Entry). l ++ part) before.whole;
  spelled = All-append (λ (e : Entry). HasSpelling e.what) H part before.spelled spelled;
}

-- entries take some bytes where there are some
pub spelling-some : (entries : List Entry) → entries ≢ [] → 1 ≤ length (spelling entries)
spelling-some [] some = absurd (some refl)
spelling-some (e ∷ more) some =
    omega (arith, entry-long e, length-append (entry_bytes e) (spelling more))

-- where a payload has a byte, there is an entry
pub spelling-nonempty : (p : List ℕ) (entries : List Entry) → p ≡ spelling entries → 1 ≤ length p → entries ≢ []
spelling-nonempty p entries is long none =
    let empty : p ≡ [] = is ∙ ap spelling none in
    let zero : length p ≡ 0 = ap length empty in
    omega (arith, zero, long)

entries-some : (entries : List Entry) → entries ≢ [] → 1 ≤ length entries
entries-some [] some = absurd (some refl)
entries-some (e ∷ more) some = omega arith

-- a history with a payload more is kept
pub keeps-push : (payloads : List (List ℕ)) (H part : List Entry) (p : List ℕ) → Keeps payloads H → AreSpelled part
    → p ≡ spelling part → part ≢ [] → IsLegal (H ++ part) → Keeps (payloads ++ p ∷ []) (H ++ part)
keeps-push payloads H part p before spelled is some legal =
    let gate = gate_of-push payloads p in
    let low = before.few in
    let size : length p ≡ length (spelling part) = ap length is in
    let short : length (spelling part) ≤ length part * MAX_ENTRY_BYTES = spelling-short part spelled in
    let one = entries-some part some in
    let more = length-append H part in
    record {
      spells = spells-push payloads H part p before.spells spelled is;
      legal = legal;
      few = omega (arith, gate, low, size, short, one, more);
    }

-- the first payload
pub keeps-first : (part : List Entry) (p : List ℕ) → AreSpelled part → p ≡ spelling part → part ≢ [] → IsLegal part
    → Keeps (p ∷ []) part
keeps-first part p spelled is some legal =
    let gate = gate_of-push [] p in
    let none : gate_of [] ≡ FIRST_GATE = refl in
    let size : length p ≡ length (spelling part) = ap length is in
    let short : length (spelling part) ≤ length part * MAX_ENTRY_BYTES = spelling-short part spelled in
    let one = entries-some part some in
    record {
      spells = spells-push [] [] part p spells-none spelled is;
      legal = legal;
      few = omega (arith, gate, none, size, short, one);
    }

-- there is always room for a record more
pub keeps-room : (payloads : List (List ℕ)) (H : List Entry) → Keeps payloads H → gate_of payloads < GATE_LIMIT
keeps-room payloads H keeps =
    let low = keeps.few in
    let few : length H ≤ MAX_ENTRIES + 1 = entries-bounded H keeps.legal in
    omega (arith, low, few)

-- entries that fit a record are a payload
pub record-fits : (entries : List Entry) (p : List ℕ) → p ≡ spelling entries → entries ≢ []
    → length (spelling entries) ≤ MAX_RECORD_BYTES → IsPayload p
record-fits entries p is some fits =
    let size : length p ≡ length (spelling entries) = ap length is in
    let one : 1 ≤ length (spelling entries) = spelling-some entries some in
    record { some = omega (arith, size, one); most = omega (arith, size, fits) }

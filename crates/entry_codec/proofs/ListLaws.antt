-- Lists of entries: where the spelling of one ends, and where some bytes stop being one.
use Rattle.std.proofs.Common.{◌≡◌, ℕ, ◌+◌, ◌-◌, ◌<◌, List, [], ◌∷◌, ◌++◌, get_or, length, take, drop, Some, None, refl, sym, ap, subst, ◌∙◌, append_assoc, arith, inl, inr}
use Rattle.std.specs.List.{AllByRecursion}
use Rattle.std.proofs.Math.Seq.{take-append-add}
use Rattle.std.proofs.lemmas.Bool.{cases_order}
use Rattle.std.proofs.lemmas.List.{append-nil, drop_at, flat_map_more, length-append, length-drop, length-take, take-append-drop, take_at, take_more}
use Rattle.std.proofs.lemmas.List.Concat.{flat_map-append}
use Rattle.std.proofs.lemmas.List.Elements.{All-more, All-push, recursion_from_All}
use Rattle.std.proofs.lemmas.Option.{some_pair_parts}
use Rattle.hex.specs.Hex.{IsBytes}
use Rattle.farm_types.specs.Moment.{moment_ms}
use Rattle.farm_entry.specs.declared.entry.Entry.{Entry}
use Rattle.entry_codec.specs.Grammar.{AreSpelled, IsBadAt, NoneBegins}
use Rattle.entry_codec.specs.Spelling.{entry_bytes, fields_of, number_bytes, spelling, tag_of}
use Rattle.entry_codec.specs.Reading.{entry_at}
use Rattle.entry_codec.proofs.FieldLaws.{IsBytes-drop, length-number_bytes}
use Rattle.entry_codec.proofs.EntryLaws.{IsSpelled, entry_is_read}

-- what two spellings of entries begin with is one entry
pub heads_agree : (e f : Entry) (a b : List ℕ) → IsSpelled e → IsSpelled f → entry_bytes e ++ a ≡ entry_bytes f ++ b →
    (e ≡ f) × (a ≡ b)
heads_agree e f a b he hf p =
    some_pair_parts e f a b (sym (entry_is_read.again e a he) ∙ ap entry_at p ∙ entry_is_read.again f b hf)

-- an entry has more bytes than its moment
long-entry : (e : Entry) → 8 < length (entry_bytes e)
long-entry e =
    let at : List ℕ = number_bytes 8 (moment_ms e.at) in
    let tag : List ℕ = number_bytes 1 (tag_of e.what) in
    omega (
      arith,
      length-append (at ++ tag) (fields_of e.what),
      length-append at tag,
      length-number_bytes 8 (moment_ms e.at),
      length-number_bytes 1 (tag_of e.what),
    )

-- a list begins with another one, and what is left is the spelling of the rest
pub record EndsIn (entries front : List Entry) (rest : List ℕ) : Type 0 where
  pub more : List Entry
  pub whole : entries ≡ front ++ more
  pub spelled : AllByRecursion IsSpelled more
  pub rest_is : rest ≡ spelling more

pub ends_in : (front entries : List Entry) (rest : List ℕ) → AllByRecursion IsSpelled entries →
    AllByRecursion IsSpelled front →
    spelling entries ≡ spelling front ++ rest → EndsIn entries front rest
ends_in [] entries rest he hf p = record { more = entries; whole = refl; spelled = he; rest_is = sym p }
ends_in (f ∷ front) [] rest he hf p =
    absurd (omega (
      arith,
      ap length p,
      length-append (entry_bytes f ++ spelling front) rest,
      length-append (entry_bytes f) (spelling front),
      long-entry f,
    ))
ends_in (f ∷ front) (e ∷ entries) rest he hf p =
    let h = heads_agree e f (spelling entries) (spelling front ++ rest) he.0 hf.0 (p
    ∙ append_assoc (entry_bytes f) (spelling front) rest) in
    let r = ends_in front entries rest he.1 hf.1 h.1 in
    record {
      more = r.more;
      whole = ap (λ (x : Entry). x ∷ entries) h.0 ∙ ap (λ (xs : List Entry). f ∷ xs) r.whole;
      spelled = r.spelled;
      rest_is = r.rest_is;
    }

-- one spelling for one list
pub spelling-injective : (entries others : List Entry) → AreSpelled entries → AreSpelled others →
    spelling entries ≡ spelling others → entries ≡ others
spelling-injective entries others he ho p =
    let r = ends_in others entries [] (recursion_from_All IsSpelled entries he)
    (recursion_from_All IsSpelled others ho) (p ∙ sym (append-nil (spelling others))) in
    let none : r.more ≡ [] = is_empty r.more r.rest_is in
    r.whole ∙ ap (λ (xs : List Entry). others ++ xs) none ∙ append-nil others
  where
    is_empty : (more : List Entry) → [] ≡ spelling more → more ≡ []
    is_empty [] e = refl
    is_empty (m ∷ more) e = absurd (omega (
      arith,
      ap length e,
      length-append (entry_bytes m) (spelling more),
      long-entry m,
    ))

-- bytes with which none begins are the spelling of no list but the empty one
none_or_empty : (more : List Entry) (rest : List ℕ) → AllByRecursion IsSpelled more → rest ≡ spelling more →
    NoneBegins rest → length rest ≡ 0
none_or_empty [] rest h e none = ap length e
none_or_empty (m ∷ more) rest h e none = absurd (none m (spelling more) h.0 e)

-- what stands before and after the offset of a fault
bad-front : (bytes : List ℕ) (offset : ℕ) (bad : IsBadAt bytes offset) →
    bytes ≡ spelling bad.entries ++ drop offset bytes
bad-front bytes offset bad =
    sym (take-append-drop offset bytes) ∙ ap (λ (t : List ℕ). t ++ drop offset bytes) bad.before

-- bytes with a fault are the spelling of no list
pub bad-not_spelled : (bytes : List ℕ) (offset : ℕ) (entries : List Entry) → IsBadAt bytes offset →
    AreSpelled entries → bytes ≡ spelling entries → ⊥
bad-not_spelled bytes offset entries bad he p =
    let r = ends_in bad.entries entries (drop offset bytes) (recursion_from_All IsSpelled entries he)
    (recursion_from_All IsSpelled bad.entries bad.spelled)
    (sym p ∙ bad-front bytes offset bad) in
    let empty = none_or_empty r.more (drop offset bytes) r.spelled r.rest_is bad.none_begins in
    let inside = bad.inside in
    omega (arith, length-drop offset bytes, empty)

-- the front of what no entry begins is the spelling of no list but the empty one
none_in_front : (more : List Entry) (bytes : List ℕ) (n : ℕ) → AllByRecursion IsSpelled more →
    take n bytes ≡ spelling more → NoneBegins bytes → length (take n bytes) ≡ 0
none_in_front [] bytes n h e none = ap length e
none_in_front (m ∷ more) bytes n h e none =
    absurd (none m (spelling more ++ drop n bytes) h.0
    (sym (take-append-drop n bytes) ∙ ap (λ (t : List ℕ). t ++ drop n bytes) e
    ∙ append_assoc (entry_bytes m) (spelling more) (drop n bytes)))

-- no fault stands behind another one
not_later : (bytes : List ℕ) (first later : ℕ) → IsBadAt bytes first → IsBadAt bytes later → first < later → ⊥
not_later bytes first later bad other lt =
    let rest : List ℕ = drop first bytes in
    let within = bad.inside in
    let beyond = other.inside in
    let len : length (spelling bad.entries) ≡ first = sym (ap length bad.before)
    ∙ omega (arith, length-take first bytes) in
    let sum : later ≡ length (spelling bad.entries) + (later - first) = omega arith in
    let cut : take later bytes ≡ spelling bad.entries ++ take (later - first) rest =
    ap (λ (n : ℕ). take n bytes) sum
    ∙ ap (λ (b : List ℕ). take (length (spelling bad.entries) + (later - first)) b) (bad-front bytes first bad)
    ∙ take-append-add (spelling bad.entries) rest (later - first) in
    let r = ends_in bad.entries other.entries (take (later - first) rest) (recursion_from_All IsSpelled other.entries
    other.spelled)
    (recursion_from_All IsSpelled bad.entries bad.spelled) (sym other.before ∙ cut) in
    let empty = none_in_front r.more rest (later - first) r.spelled r.rest_is bad.none_begins in
    omega (arith, length-drop first bytes, length-take (later - first) rest, empty)

-- there is one fault
pub bad-unique : (bytes : List ℕ) (a b : ℕ) → IsBadAt bytes a → IsBadAt bytes b → a ≡ b
bad-unique bytes a b bad other = elim (cases_order a b) [
  | inl same ↦ same
  | inr apart ↦ elim apart [
    | inl less ↦ absurd (not_later bytes a b bad other less)
    | inr more ↦ absurd (not_later bytes b a other bad more)
  ]
]

-- entries that were read so far, and what is left

pub record HasRead (bytes : List ℕ) (entries : List Entry) (rest : List ℕ) : Type 0 where
  pub parts : bytes ≡ spelling entries ++ rest
  pub spelled : AreSpelled entries

-- an entry appended to a list, at its index
module _ (entries : List Entry) (index : ℕ) (out : List ℕ) (e : Entry) (within : index < length entries)
    (is : e ≡ get_or entries index e) where
  pub writes_one : out ≡ spelling (take index entries) → out ++ entry_bytes e ≡ spelling (take (index + 1) entries)
  writes_one so_far =
      let longer : take (index + 1) entries ≡ take index entries ++ e ∷ [] =
      take_more entries index e within ∙ ap (λ (x : Entry). take index entries ++ x ∷ []) (sym is) in
      ap (λ (b : List ℕ). b ++ entry_bytes e) so_far ∙ flat_map_more entry_bytes [] (take index entries) e
      ∙ ap spelling (sym longer)

  pub spells_one : AreSpelled (take index entries) → IsSpelled e → AreSpelled (take (index + 1) entries)
  spells_one so_far spelled = All-more IsSpelled entries index e within so_far
      (subst (λ (x : Entry). IsSpelled x) is spelled)

-- what is left of bytes is bytes
rest-bytes : (bytes : List ℕ) (entries : List Entry) (rest : List ℕ) → IsBytes bytes → HasRead bytes entries rest →
    IsBytes rest
rest-bytes bytes entries rest fits so_far =
    let n : ℕ = length (spelling entries) in
    let same : drop n bytes ≡ rest = ap (drop n) so_far.parts ∙ drop_at (spelling entries) rest n refl in
    subst (λ (b : List ℕ). IsBytes b) same (IsBytes-drop n bytes fits)

module _ (bytes : List ℕ) (entries : List Entry) (rest : List ℕ) (fits : IsBytes bytes)
    (so_far : HasRead bytes entries rest) (e : Entry) (after : List ℕ) (read : entry_at rest ≡ Some (e, after)) where
  pub reads_one : HasRead bytes (entries ++ e ∷ []) after
  reads_one =
      let took = entry_is_read.takes rest e after (rest-bytes bytes entries rest fits so_far) read in
      let longer : spelling (entries ++ e ∷ []) ≡ spelling entries ++ entry_bytes e =
      flat_map-append entry_bytes entries (e ∷ []) ∙ ap (λ (t : List ℕ). spelling entries
      ++ t) (append-nil (entry_bytes e)) in
      record {
        parts = so_far.parts ∙ ap (λ (t : List ℕ). spelling entries ++ t) took.parts
            ∙ sym (append_assoc (spelling entries) (entry_bytes e) after)
            ∙ ap (λ (t : List ℕ). t ++ after) (sym longer);
        spelled = All-push IsSpelled entries e so_far.spelled took.fits;
      }

  pub reads_less : length after < length rest
  reads_less =
      let took = entry_is_read.takes rest e after (rest-bytes bytes entries rest fits so_far) read in
      omega (arith, ap length took.parts, length-append (entry_bytes e) after, long-entry e)

none_begins : (rest : List ℕ) → entry_at rest ≡ None → NoneBegins rest
none_begins rest none e after h p =
    let read : entry_at rest ≡ Some (e, after) = ap entry_at p ∙ entry_is_read.again e after h in absurd (cc)

pub reads_none : (bytes : List ℕ) (entries : List Entry) (rest : List ℕ) → HasRead bytes entries rest →
    entry_at rest ≡ None → 0 < length rest →
    IsBadAt bytes (length bytes - length rest)
reads_none bytes entries rest so_far none some =
    let sum : length bytes ≡ length (spelling entries) + length rest = ap length so_far.parts
    ∙ length-append (spelling entries) rest in
    let offset : length (spelling entries) ≡ length bytes - length rest = omega arith in
    record {
      inside = omega arith;
      entries = entries;
      spelled = so_far.spelled;
      before = ap (λ (b : List ℕ). take (length bytes - length rest) b) so_far.parts
          ∙ take_at (spelling entries) rest (length bytes - length rest) offset;
      none_begins = none_begins (drop (length bytes - length rest) bytes)
          (ap entry_at (ap (λ (b : List ℕ). drop (length bytes - length rest) b) so_far.parts
          ∙ drop_at (spelling entries) rest (length bytes - length rest) offset) ∙ none);
    }

pub reads_all : (bytes : List ℕ) (entries : List Entry) (rest : List ℕ) → HasRead bytes entries rest →
    length rest ≡ 0 → bytes ≡ spelling entries
reads_all bytes entries [] so_far empty = so_far.parts ∙ append-nil (spelling entries)
reads_all bytes entries (b ∷ rest) so_far empty = absurd (omega arith)

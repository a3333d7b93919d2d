-- The entries of a payload, read one after the other.
use Rattle.std.proofs.Common.{◌≡◌, ℕ, zero, suc, ◌-◌, ◌≤◌, ◌<◌, List, [], ◌∷◌, ◌++◌, length, Option, Some, None, refl, sym, ap, ◌∙◌, append_assoc, arith}
use Rattle.std.proofs.lemmas.List.{append-nil, length-append}
use Rattle.hex.specs.Hex.{IsBytes}
use Rattle.farm_entry.specs.declared.entry.Entry.{Entry}
use Rattle.entry_codec.specs.Reading.{◌>>=◌, entry_at}
use Rattle.entry_codec.specs.Spelling.{entry_bytes}
use Rattle.entry_codec.proofs.EntryLaws.{entry_is_read}
use Rattle.entry_codec.proofs.Sizes.{entry-long}
use Rattle.audit_check.specs.Told.{entries_in, entries_of}

-- entries before those that are read
abbrev pub with_part : List Entry → Option (List Entry) → Option (List Entry)
with_part part read = read >>= λ more. Some (part ++ more)

pub with_part-none : (read : Option (List Entry)) → with_part [] read ≡ read
with_part-none None = refl
with_part-none (Some more) = refl

regroup : (part : List Entry) (e : Entry) (read : Option (List Entry)) →
    with_part part (read >>= λ more. Some (e ∷ more)) ≡ with_part (part ++ e ∷ []) read
regroup part e None = refl
regroup part e (Some more) = ap (λ (H : List Entry). Some H) (simp append_assoc)

-- the entries that were added so far, and those that are still read
pub record IsAdding (payload : List ℕ) (old now : List Entry) (rest : List ℕ) : Type 0 where
  pub part : List Entry
  pub most : ℕ
  pub enough : length rest ≤ most
  pub bytes : IsBytes rest
  pub added : now ≡ old ++ part
  pub same : with_part part (entries_in most rest) ≡ entries_of payload

pub adding-none : (payload : List ℕ) (old : List Entry) → IsBytes payload → IsAdding payload old old payload
adding-none payload old fits = record {
  part = [];
  most = length payload;
  enough = omega arith;
  bytes = fits;
  added = sym (append-nil old);
  same = with_part-none (entries_in (length payload) payload);
}

-- one entry is read
pub reads_one : (most : ℕ) (rest behind : List ℕ) (e : Entry) (part : List Entry) → length rest ≤ most → 0 < length rest →
    entry_at rest ≡ Some (e, behind) →
    with_part part (entries_in most rest) ≡ with_part (part ++ e ∷ []) (entries_in (most - 1) behind)
reads_one zero [] behind e part le some read = absurd (omega arith)
reads_one zero (b ∷ rest) behind e part le some read = absurd (omega arith)
reads_one (suc most) [] behind e part le some read = absurd (omega arith)
reads_one (suc most) (b ∷ rest) behind e part le some read =
    let less : most ≡ suc most - 1 = omega arith in
    ap (λ (first : Option (Entry × List ℕ)). with_part part (first >>= λ x. entries_in most x.1 >>= λ others. Some (x.0 ∷ others))) read
    ∙ regroup part e (entries_in most behind)
    ∙ ap (λ (n : ℕ). with_part (part ++ e ∷ []) (entries_in n behind)) less

module _ (payload : List ℕ) (old now : List Entry) (rest : List ℕ) (so_far : IsAdding payload old now rest)
    (some : 0 < length rest) (e : Entry) (behind : List ℕ) (read : entry_at rest ≡ Some (e, behind)) where
  pub adding-less : length behind < length rest
  adding-less =
      let took = entry_is_read.takes rest e behind so_far.bytes read in
      omega (arith, ap length took.parts, length-append (entry_bytes e) behind, entry-long e)

  pub adding-one : IsAdding payload old (now ++ e ∷ []) behind
  adding-one =
      let took = entry_is_read.takes rest e behind so_far.bytes read in
      let less : length behind < length rest =
      omega (arith, ap length took.parts, length-append (entry_bytes e) behind, entry-long e) in
      record {
        part = so_far.part ++ e ∷ [];
        most = so_far.most - 1;
        enough = omega (arith, so_far.enough, less);
        bytes = took.rest_bytes;
        added = ap (λ (H : List Entry). H ++ e ∷ []) so_far.added ∙ append_assoc old so_far.part (e ∷ []);
        same = sym (reads_one so_far.most rest behind e so_far.part so_far.enough some read) ∙ so_far.same;
      }

-- no entry is read
reads_no : (most : ℕ) (rest : List ℕ) (part : List Entry) → 0 < length rest → entry_at rest ≡ None →
    with_part part (entries_in most rest) ≡ None
reads_no zero [] part some none = absurd (omega arith)
reads_no zero (b ∷ rest) part some none = refl
reads_no (suc most) [] part some none = absurd (omega arith)
reads_no (suc most) (b ∷ rest) part some none =
    ap (λ (first : Option (Entry × List ℕ)). with_part part (first >>= λ x. entries_in most x.1 >>= λ others. Some (x.0 ∷ others))) none

pub adding-stops : (payload : List ℕ) (old now : List Entry) (rest : List ℕ) → IsAdding payload old now rest →
    0 < length rest → entry_at rest ≡ None → entries_of payload ≡ None
adding-stops payload old now rest so_far some none =
    sym so_far.same ∙ reads_no so_far.most rest so_far.part some none

reads_all : (most : ℕ) (rest : List ℕ) (part : List Entry) → length rest ≡ 0 →
    with_part part (entries_in most rest) ≡ Some part
reads_all most [] part empty = ap (λ (H : List Entry). Some H) (append-nil part)
reads_all most (b ∷ rest) part empty = absurd (omega arith)

pub adding-all : (payload : List ℕ) (old now : List Entry) (rest : List ℕ) → IsAdding payload old now rest →
    length rest ≡ 0 → (part : List Entry) × (entries_of payload ≡ Some part) × (now ≡ old ++ part)
adding-all payload old now rest so_far empty =
    (so_far.part, sym so_far.same ∙ reads_all so_far.most rest so_far.part empty, so_far.added)

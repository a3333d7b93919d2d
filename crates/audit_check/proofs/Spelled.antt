-- The entries of a payload are those that are spelled so.
use Rattle.std.proofs.Common.{◌≡◌, ℕ, zero, suc, ◌-◌, ◌+◌, ◌≤◌, ◌<◌, List, [], ◌∷◌, ◌++◌, length, Option, Some, None, refl, sym, ap, subst, ◌∙◌, arith}
use Rattle.std.specs.List.{AllByRecursion}
use Rattle.std.proofs.lemmas.List.{length-append}
use Rattle.std.proofs.lemmas.Option.{same_Some}
use Rattle.hex.specs.Hex.{IsBytes}
use Rattle.farm_entry.specs.declared.entry.Entry.{Entry}
use Rattle.entry_codec.specs.Reading.{◌>>=◌, entry_at}
use Rattle.entry_codec.specs.Spelling.{entry_bytes, spelling}
use Rattle.entry_codec.proofs.EntryLaws.{IsSpelled, entry_is_read}
use Rattle.entry_codec.proofs.Sizes.{entry-long}
use Rattle.audit_check.specs.Told.{entries_in}
use Rattle.audit_check.proofs.Adding.{reads_one, with_part, with_part-none}

-- what is spelled is read

pub spelled-read : (most : ℕ) (H : List Entry) → AllByRecursion IsSpelled H → length (spelling H) ≤ most →
    entries_in most (spelling H) ≡ Some H
spelled-read most [] spelled le = refl
spelled-read most (e ∷ H) spelled le =
    let sum : length (entry_bytes e ++ spelling H) ≡ length (entry_bytes e) + length (spelling H) =
    length-append (entry_bytes e) (spelling H) in
    let some : 0 < length (entry_bytes e ++ spelling H) = omega (arith, sum, entry-long e) in
    let fewer : length (spelling H) ≤ most - 1 = omega (arith, sum, entry-long e, le) in
    sym (with_part-none (entries_in most (entry_bytes e ++ spelling H)))
    ∙ reads_one most (entry_bytes e ++ spelling H) (spelling H) e [] le some
    (entry_is_read.again e (spelling H) spelled.0)
    ∙ ap (with_part (e ∷ [])) (spelled-read (most - 1) H spelled.1 fewer)

-- what is read is spelled

-- the first entry that is read, and those behind it
record Reads (most : ℕ) (bytes : List ℕ) (H : List Entry) : Type 0 where
  pub first : Entry
  pub behind : List ℕ
  pub others : List Entry
  pub read : entry_at bytes ≡ Some (first, behind)
  pub more : entries_in most behind ≡ Some others
  pub whole : first ∷ others ≡ H

reads-others : (most : ℕ) (bytes behind : List ℕ) (e : Entry) (o : Option (List Entry)) (H : List Entry) →
    entry_at bytes ≡ Some (e, behind) → entries_in most behind ≡ o →
    (o >>= λ others. Some (e ∷ others)) ≡ Some H → Reads most bytes H
reads-others most bytes behind e None H read more h = absurd (cc)
reads-others most bytes behind e (Some others) H read more h = record {
  first = e;
  behind = behind;
  others = others;
  read = read;
  more = more;
  whole = same_Some (e ∷ others) H h;
}

reads-first : (most : ℕ) (bytes : List ℕ) (o : Option (Entry × List ℕ)) (H : List Entry) → entry_at bytes ≡ o →
    (o >>= λ x. entries_in most x.1 >>= λ others. Some (x.0 ∷ others)) ≡ Some H → Reads most bytes H
reads-first most bytes None H read h = absurd (cc)
reads-first most bytes (Some x) H read h = reads-others most bytes x.1 x.0 (entries_in most x.1) H read refl h

pub read-spelled : (most : ℕ) (bytes : List ℕ) (H : List Entry) → IsBytes bytes → entries_in most bytes ≡ Some H →
    AllByRecursion IsSpelled H × (bytes ≡ spelling H)
read-spelled most [] H fits h =
    let none : [] ≡ H = same_Some [] H h in
    subst (λ (K : List Entry). AllByRecursion IsSpelled K × ([] ≡ spelling K)) none (tt, refl)
read-spelled zero (b ∷ bytes) H fits h = absurd (cc)
read-spelled (suc most) (b ∷ bytes) H fits h =
    let r = reads-first most (b ∷ bytes) (entry_at (b ∷ bytes)) H refl h in
    let took = entry_is_read.takes (b ∷ bytes) r.first r.behind fits r.read in
    let more = read-spelled most r.behind r.others took.rest_bytes r.more in
    subst (λ (K : List Entry). AllByRecursion IsSpelled K × (b ∷ bytes ≡ spelling K)) r.whole
    ((took.fits, more.0), took.parts ∙ ap (λ (t : List ℕ). entry_bytes r.first ++ t) more.1)

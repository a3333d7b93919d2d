-- A text has no fault as a name exactly where its bytes are those of a name.
use Rattle.std.proofs.Common.{◌≡◌, ℕ, ◌≤◌, not, List, length, option_map, Option, Some, None, inl, inr, refl, sym, ap, ◌∙◌, arith}
use Rattle.std.proofs.lemmas.Bool.{cases_lt, not-false, not_from_true}
use Rattle.std.proofs.lemmas.Bool.Decides.{nat_tests}
use Rattle.farm_types.specs.Limits.{IsName, is_printable}
use Rattle.farm_types.specs.Name.{first_unprintable, name_fault}
use Rattle.farm_types.specs.declared.name.NameFault.TheVariants.{Byte}
use Rattle.farm_types.specs.declared.name.TheConstants.{NAME_MAX_BYTES}
use Rattle.farm_types.proofs.FirstIndex.{fails-from_none, position-none}

-- at a right length the bytes decide
name_fault-at_length : (text : List ℕ) → 1 ≤ length text → length text ≤ NAME_MAX_BYTES
    → name_fault text ≡ option_map Byte (first_unprintable text)
name_fault-at_length text some few = grind (arith, nat_tests)

-- no fault of a byte comes from no byte
none_within : (o : Option ℕ) → option_map Byte o ≡ None → o ≡ None
none_within None h = refl
none_within (Some i) h = cc h

-- a text with no fault is a name
pub IsName-from_no_fault : (text : List ℕ) → name_fault text ≡ None → IsName text
IsName-from_no_fault text none =
    elim (cases_lt (length text) 1) [
      | inl empty ↦ absurd (grind (arith, nat_tests))
      | inr some ↦
          elim (cases_lt NAME_MAX_BYTES (length text)) [
            | inl many ↦ absurd (grind (arith, nat_tests))
            | inr few ↦
                let printable = none_within (first_unprintable text) (sym (name_fault-at_length text some few) ∙ none) in
                record {
                  some = some;
                  few = few;
                  printable = λ k d l. not-false _ (fails-from_none (λ b. not (is_printable b)) text d printable k l);
                }
          ]
    ]

-- a name has no fault
pub no_fault-from_IsName : (text : List ℕ) → IsName text → name_fault text ≡ None
no_fault-from_IsName text name =
    name_fault-at_length text name.some name.few
    ∙ ap (option_map Byte) (position-none (λ b. not (is_printable b)) text 0 (λ k l. not_from_true _ (name.printable k 0 l)))

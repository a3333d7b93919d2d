-- Values that are made of plain numbers and bytes, where these keep the limits.
use Rattle.std.specs.Prelude.{◌≡◌, ℕ, zero, suc, List, [], ◌∷◌, length, slice_index, ◌==◌, ◌&&◌, ◌<◌, nat_lt, Bool}
use Rattle.std.specs.Prelude.{true, if◌then◌else◌, is_none, Option, None}
use Rattle.std.specs.List.{list_all}
use Rattle.std.specs.Option.{option_and_then}
use Rattle.std.specs.Result.{result_ok}
use Rattle.std.proofs.Math.Facts.{leb_yes}
use Rattle.std.proofs.lemmas.Bool.{and_parts, eqb-true, ltb-true}
use Rattle.hex.specs.Hex.{decode_of}
use Rattle.farm_entry.specs.Ask.{when_passed}
use Rattle.farm_types.specs.CommitId.{id_fault}
use Rattle.farm_types.specs.Limits.{is_moment}
use Rattle.farm_types.proofs.Limits.{moment-within}
use Rattle.farm_types.specs.declared.commit_id.CommitId.{CommitId}
use Rattle.farm_types.specs.declared.commit_id.TheConstants.{ID_BYTES}
use Rattle.farm_types.specs.declared.moment.Moment.{Moment}

-- the moment so many milliseconds after 1970-01-01, where that is one
unfoldable pub moment_at : ℕ → Option Moment
moment_at ms = when_passed (is_moment ms) (λ passed. record { ms = ms; in_range = moment-within ms passed })

-- whether these are the bytes of a commit's id
abbrev pub is_id : List ℕ → Bool
is_id bytes = (length bytes == ID_BYTES) && list_all (λ b. nat_lt b 256) bytes

pub below-each : (bytes : List ℕ) → list_all (λ b. nat_lt b 256) bytes ≡ true → (i : ℕ) → slice_index bytes i < 256
below-each [] passed i = leb_yes tt
below-each (b ∷ bytes) passed zero = ltb-true _ _ (and_parts _ _ passed).0
below-each (b ∷ bytes) passed (suc i) = below-each bytes (and_parts _ _ passed).1 i

-- the id with these bytes, where they are as many as an id has
unfoldable pub id_of : List ℕ → Option CommitId
id_of bytes =
    when_passed (is_id bytes)
    (λ passed. record {
      bytes = bytes;
      whole = eqb-true _ _ (and_parts _ _ passed).0;
      fits = below-each bytes (and_parts _ _ passed).1;
    })

-- the id that a text names, where the text has no fault
unfoldable pub id_named : List ℕ → Option CommitId
id_named text = if is_none (id_fault text) then option_and_then id_of (result_ok (decode_of text)) else None

-- Values that show the same are equal, since a fact that a value keeps has one proof.
use Rattle.std.proofs.Common.{◌≡◌, ◌↔◌, length, IsTrue, ap}
use Rattle.std.proofs.Props.{props}
use Rattle.std.proofs.lemmas.Slice.Eq.{bytes_eq-Decides}
use mathlib.Core.HLevel.{is_prop→PathP}
use Rattle.hex.specs.Hex.{IsBytes}
use Rattle.farm_types.specs.CommitId.{id_bytes, same_id}
use Rattle.farm_types.specs.Limits.{IsMoment}
use Rattle.farm_types.specs.Moment.{moment_ms}
use Rattle.farm_types.specs.declared.commit_id.CommitId.{CommitId}
use Rattle.farm_types.specs.declared.commit_id.TheConstants.{ID_BYTES}
use Rattle.farm_types.specs.declared.moment.Moment.{Moment}

pub id_bytes-injective : (a b : CommitId) → id_bytes a ≡ id_bytes b → a ≡ b
id_bytes-injective a b e = λ i. record {
  bytes = e i;
  whole = is_prop→PathP (λ j. length (e j) ≡ ID_BYTES) (λ j. hlevel props) a.whole b.whole i;
  fits = is_prop→PathP (λ j. IsBytes (e j)) (λ j. hlevel props) a.fits b.fits i;
}

-- the test of ids says so
pub same_id-Decides : (a b : CommitId) → IsTrue (same_id a b) ↔ (a ≡ b)
same_id-Decides a b = (
  λ h. id_bytes-injective a b ((bytes_eq-Decides (id_bytes a) (id_bytes b)).0 h),
  λ e. (bytes_eq-Decides (id_bytes a) (id_bytes b)).1 (ap id_bytes e),
)

pub moment_ms-injective : (a b : Moment) → moment_ms a ≡ moment_ms b → a ≡ b
moment_ms-injective a b e =
    λ i. record { ms = e i; in_range = is_prop→PathP (λ j. IsMoment (e j)) (λ j. hlevel props) a.in_range b.in_range i }

-- Values that the calls make are those that the definitions make.
use Rattle.std.proofs.Common.{◌≡◌, ◌↔◌, ℕ, zero, suc, ◌<◌, nat_lt, List, [], ◌∷◌, slice_index, true, IsOk, OnOk, IfOk}
use Rattle.std.proofs.Common.{IfErr, Some, None, Result, Ok, Err, refl, sym, subst, eq-eqb}
use Rattle.std.specs.List.{list_all}
use Rattle.std.specs.Result.{result_ok}
use Rattle.std.proofs.lemmas.Bool.{and_from, false≢true, lt-ltb}
use Rattle.hex.specs.Hex.{decode_of}
use Rattle.farm_entry.proofs.Asked.{when_passed-none, when_passed-same}
use Rattle.farm_types.proofs.SameValues.{id_bytes-injective, moment_ms-injective}
use Rattle.farm_types.specs.CommitId.{id_bytes, id_fault}
use Rattle.farm_types.specs.Limits.{IsMoment, is_moment}
use Rattle.farm_types.proofs.Limits.{moment-tested, moment-within}
use Rattle.farm_types.specs.Moment.{moment_ms}
use Rattle.farm_types.specs.declared.commit_id.CommitId.{CommitId}
use Rattle.farm_types.specs.declared.commit_id.IdFault.{IdFault}
use Rattle.farm_types.specs.declared.moment.Moment.{Moment}
use Rattle.farm_types.specs.declared.moment.MomentFault.{MomentFault}
use Rattle.farm_wire.specs.Made.{id_named, id_of, is_id, moment_at}

pub moment_at-of : (m : Moment) (ms : ℕ) → moment_ms m ≡ ms → moment_at ms ≡ Some m
unfolding moment_at
moment_at-of m ms is =
    when_passed-same (is_moment ms) _ m (moment-tested ms (subst IsMoment is m.in_range))
    (λ h. moment_ms-injective _ m (sym is))

pub moment_at-none : (ms : ℕ) → (IsMoment ms → ⊥) → moment_at ms ≡ None
unfolding moment_at
moment_at-none ms outside = when_passed-none (is_moment ms) _ (λ h. outside (moment-within ms h))

-- what a call that makes a moment answers, as an option
pub moment_at-result : (r : Result Moment MomentFault) (ms : ℕ) → (IsOk r ↔ IsMoment ms) →
    IfOk r (λ m. moment_ms m ≡ ms)
    → result_ok r ≡ moment_at ms
moment_at-result (Ok m) ms taken kept = sym (moment_at-of m ms kept)
moment_at-result (Err f) ms taken kept = sym (moment_at-none ms (λ within. false≢true (taken.1 within)))

all-below : (bytes : List ℕ) → ((i : ℕ) → slice_index bytes i < 256) → list_all (λ b. nat_lt b 256) bytes ≡ true
all-below [] each = refl
all-below (b ∷ bytes) each = and_from _ _ (lt-ltb b 256 (each zero)) (all-below bytes (λ i. each (suc i)))

pub id_of-bytes : (id : CommitId) → id_of (id_bytes id) ≡ Some id
unfolding id_of
id_of-bytes id =
    when_passed-same (is_id (id_bytes id)) _ id (and_from _ _ (eq-eqb _ _ id.whole) (all-below (id_bytes id) id.fits))
    (λ h. id_bytes-injective _ id refl)

-- what a call that reads an id answers, as an option
pub id_named-result : (r : Result CommitId IdFault) (text : List ℕ) → OnOk r (id_fault text ≡ None)
    → IfOk r (λ id. decode_of text ≡ Ok (id_bytes id)) → IfErr r (λ fault. id_fault text ≡ Some fault)
    → result_ok r ≡ id_named text
unfolding id_named
id_named-result (Ok id) text taken bytes refused = rw (taken, bytes) (sym (id_of-bytes id))
id_named-result (Err fault) text taken bytes refused = rw refused refl

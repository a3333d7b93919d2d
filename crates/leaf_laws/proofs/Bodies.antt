-- The bodies of a worker's requests, as they are written and as the farm reads them.
use Rattle.std.proofs.Common.{◌≡◌, ◌<◌, ◌≤◌, ◌^◌, ℕ, zero, suc, true, List, [], ◌∷◌, ◌++◌, length, codes, Some, Result}
use Rattle.std.proofs.Common.{Ok, inl, refl, sym, ap, ◌∙◌, arith, length-append}
use Rattle.std.specs.Int.{byte_at, bytes_high_first, to_be_bytes, w128}
use Rattle.std.specs.List.{All}
use Rattle.std.specs.Option.{is_some}
use Rattle.std.proofs.lemmas.List.Elements.{All-cons, All-nil}
use Rattle.uuid.proofs.OrderLemmas.{from_be_bytes-to_be_bytes_16}
use Rattle.uuid.proofs.RoundTrips.{parses_hyphenated}
use Rattle.uuid.proofs.TextLemmas.{by_index_length, hyphenated_ascii}
use Rattle.uuid.specs.Text.{lower, parsed}
use Rattle.std.proofs.lemmas.Str.{IsUtf8-from_ascii}
use Rattle.farm_entry.specs.declared.command.Command.TheVariants as command
use Rattle.farm_types.specs.Limits.{IsName}
use Rattle.farm_types.specs.declared.key.Key.{Key}
use Rattle.farm_wire.proofs.JsonObjects.{object_of-short}
use Rattle.farm_wire.specs.Forms as form
use Rattle.farm_wire.specs.Members.{with_member}
use Rattle.farm_wire.specs.Reading.{and_then, body_reading, field_in, lease_in, report_in}
use Rattle.farm_wire.specs.declared.fault.WireFault.{WireFault}
use Rattle.http_words.specs.declared.limits.TheConstants.{MAX_BODY_BYTES}
use Rattle.http_words.specs.declared.route.Route.TheVariants as route
use Rattle.json.proofs.Printed.Utf8.{IsUtf8-are_ascii}
use Rattle.json.specs.Print.{escape_byte, quoted}
use Rattle.serde_json.specs.Data.{Data, depth, string}
use Rattle.serde_json.specs.Find.{as_object}
use Rattle.serde_json.specs.Read.{max_depth}
use Rattle.serde_json.specs.Written.{compact_text}
use Rattle.weight_exact.specs.declared.run.Verdict.TheVariants.{Fail, Pass}
use Rattle.worker_core.specs.declared.tested.Tested.{Tested}
use Rattle.worker_core.specs.declared.tested.Tested.TheVariants.{Untestable, Verdict}
use Rattle.farm_entry.specs.declared.command.Command.{Command}
use Rattle.worker_agent.specs.Requests.{key_text, lease_data, report_data}
use Rattle.leaf_laws.proofs.JsonTexts.{IsSent, object_in-compact_text}
use Rattle.leaf_laws.proofs.LeaseReplies.{name-string}
use Rattle.leaf_laws.proofs.Texts.{IsUtf8-name, quoted-short}

-- ---- how long they are

pub lease_body-short : (key : Key) (worker : List ℕ) → IsName worker
    → length (compact_text (lease_data (key_text key) worker)) ≤ MAX_BODY_BYTES
unfolding lease_data with_member escape_byte
lease_body-short key worker is =
    let text = key_text key in
    let size : length text ≡ 36 = by_index_length 36 _ in
    let first = length-append (quoted text) (44 ∷ (quoted (codes "worker") ++ 58 ∷ (quoted worker ++ 125 ∷ []))) in
    let second = length-append (quoted worker) (125 ∷ []) in
    omega (arith, size, first, second, quoted-short text, quoted-short worker, is.few)

pub report_body-short : (tested : Tested) → length (compact_text (report_data tested)) ≤ MAX_BODY_BYTES
unfolding report_data with_member escape_byte
report_body-short (Verdict Pass) = omega arith
report_body-short (Verdict Fail) = omega arith
report_body-short Untestable = omega arith

-- ---- what is read of them

byte-small : (k n : ℕ) → byte_at k n < 256
byte-small zero n = omega arith
byte-small (suc k) n = omega arith

bytes-small : (k n : ℕ) → All (λ b. b < 256) (bytes_high_first k n)
bytes-small zero n = All-nil (λ b. b < 256)
bytes-small (suc k) n =
    All-cons (λ b. b < 256) (byte_at k n) (bytes_high_first k n) (byte-small k n) (bytes-small k n)

-- a key that is written is read
pub key-string : (key : Key) → key.0 < 2 ^ 128 → form.key (string (key_text key)) ≡ Some key
unfolding form.key
key-string key fits =
    let read : parsed (key_text key) ≡ Some (to_be_bytes w128 key.0) =
    sym (parses_hyphenated lower (to_be_bytes w128 key.0) (inl refl) refl (bytes-small 16 key.0)) in
    rw (read, from_be_bytes-to_be_bytes_16 key.0 fits) refl

lease_data-sent : (key : Key) (worker : List ℕ) → IsName worker → IsSent (lease_data (key_text key) worker)
unfolding lease_data with_member
lease_data-sent key worker is = (
  (
    IsUtf8-are_ascii (codes "key") refl,
    IsUtf8-from_ascii (key_text key) (hyphenated_ascii lower (to_be_bytes w128 key.0) (inl refl)),
    (IsUtf8-are_ascii (codes "worker") refl, IsUtf8-name worker is, tt),
  ),
  refl,
)

lease_data-object : (key worker : List ℕ)
    → (is_some (as_object (lease_data key worker)) ≡ true) × (depth (lease_data key worker) ≤ max_depth)
unfolding lease_data with_member
lease_data-object key worker = (refl, omega arith)

lease_data-in : (key : Key) (worker : List ℕ) → key.0 < 2 ^ 128 → IsName worker
    → lease_in (lease_data (key_text key) worker) ≡ Ok (command.Lease key worker)
unfolding lease_in field_in lease_data with_member
lease_data-in key worker fits is = rw (key-string key fits, name-string worker is) refl

-- the body of a worker's request for a run is read as that command
pub lease_body-read : (key : Key) (worker : List ℕ) → key.0 < 2 ^ 128 → IsName worker
    → body_reading route.Lease (compact_text (lease_data (key_text key) worker)) ≡ Ok (command.Lease key worker)
unfolding body_reading
lease_body-read key worker fits is =
    let d : Data = lease_data (key_text key) worker in
    let object = lease_data-object (key_text key) worker in
    let found = object_in-compact_text d object.0 (lease_data-sent key worker is) object.1 in
    ap (λ (read : Result Data WireFault). and_then read lease_in)
    (object_of-short (compact_text d) (Some d) (lease_body-short key worker is) found)
    ∙ lease_data-in key worker fits is

report_data-sent : (tested : Tested) → IsSent (report_data tested)
unfolding report_data with_member
report_data-sent (Verdict Pass) =
    ((IsUtf8-are_ascii (codes "verdict") refl, IsUtf8-are_ascii (codes "pass") refl, tt), refl)
report_data-sent (Verdict Fail) =
    ((IsUtf8-are_ascii (codes "verdict") refl, IsUtf8-are_ascii (codes "fail") refl, tt), refl)
report_data-sent Untestable =
    ((IsUtf8-are_ascii (codes "verdict") refl, IsUtf8-are_ascii (codes "skip") refl, tt), refl)

report_data-object : (tested : Tested)
    → (is_some (as_object (report_data tested)) ≡ true) × (depth (report_data tested) ≤ max_depth)
unfolding report_data with_member
report_data-object (Verdict Pass) = (refl, omega arith)
report_data-object (Verdict Fail) = (refl, omega arith)
report_data-object Untestable = (refl, omega arith)

-- the command that reports what came of a run
abbrev pub report_of : (run : ℕ) → Tested → Command
report_of run (Verdict verdict) = command.Report run verdict
report_of run Untestable = command.Skip run

report_data-in : (run : ℕ) (tested : Tested) → report_in run (report_data tested) ≡ Ok (report_of run tested)
unfolding report_in field_in form.report report_data with_member
report_data-in run (Verdict Pass) = refl
report_data-in run (Verdict Fail) = refl
report_data-in run Untestable = refl

-- and so is that of a report
pub report_body-read : (run : ℕ) (tested : Tested)
    → body_reading (route.Report run) (compact_text (report_data tested)) ≡ Ok (report_of run tested)
unfolding body_reading
report_body-read run tested =
    let d : Data = report_data tested in
    let object = report_data-object tested in
    let found = object_in-compact_text d object.0 (report_data-sent tested) object.1 in
    ap (λ (read : Result Data WireFault). and_then read (report_in run))
    (object_of-short (compact_text d) (Some d) (report_body-short tested) found)
    ∙ report_data-in run tested

-- The requests of a worker, in the bytes of HTTP (RFC 9112).
use Rattle.std.specs.Prelude.{ℕ, List, [], ◌∷◌, ◌++◌, codes, decimal}
use Rattle.std.specs.Int.{to_be_bytes, w128}
use Rattle.uuid.specs.Text.{hyphenated_text, lower}
use Rattle.serde_json.specs.Data.{Data, string}
use Rattle.serde_json.specs.Written.{compact_text}
use Rattle.farm_types.specs.declared.key.Key.{Key}
use Rattle.farm_wire.specs.Members.{object_with}
use Rattle.farm_wire.specs.Forms.{skip_word}
use Rattle.farm_wire.specs.Replies.{verdict_word}
use Rattle.http_exchange.specs.Requests.{post_request}
use Rattle.worker_core.specs.declared.tested.Tested.{Tested}
use Rattle.worker_core.specs.declared.tested.Tested.TheVariants.{Untestable, Verdict}

-- a key as it is sent: a UUID in its hyphenated form, in lower case
abbrev pub key_text : Key → List ℕ
key_text key = hyphenated_text lower (to_be_bytes w128 key.0)

unfoldable pub lease_path : List ℕ
lease_path = codes "/v1/leases"

unfoldable pub lease_data : (key worker : List ℕ) → Data
lease_data key worker = object_with ((codes "key", string key) ∷ (codes "worker", string worker) ∷ [])

-- the request for a run, under a key, by the worker of this name
abbrev pub lease_request : Key → (worker : List ℕ) → List ℕ
lease_request key worker = post_request lease_path (compact_text (lease_data (key_text key) worker))

unfoldable pub runs_path : List ℕ
runs_path = codes "/v1/runs/"

unfoldable pub report_end : List ℕ
report_end = codes "/report"

-- the word for what came of a run
abbrev pub tested_word : Tested → List ℕ
tested_word (Verdict verdict) = verdict_word verdict
tested_word Untestable = skip_word

unfoldable pub report_data : Tested → Data
report_data tested = object_with ((codes "verdict", string (tested_word tested)) ∷ [])

-- the request that reports what came of a run
abbrev pub report_request : (run : ℕ) → Tested → List ℕ
report_request run tested = post_request (runs_path ++ decimal run ++ report_end) (compact_text (report_data tested))

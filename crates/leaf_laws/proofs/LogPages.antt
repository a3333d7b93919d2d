-- A log page, as it is written and read, and the request for one.
use Rattle.std.proofs.Common.{◌≡◌, ◌-◌, ◌<◌, ◌≤◌, ◌^◌, ℕ, true, List, [], ◌++◌, length, drop, decimal, codes, Some}
use Rattle.std.proofs.Common.{refl, subst, arith}
use Rattle.std.specs.Option.{is_some}
use Rattle.std.proofs.lemmas.Fmt.{length-decimal-le}
use Rattle.entry_codec.proofs.LogPages.{front-longest}
use Rattle.entry_codec.specs.Grammar.{AreSpelled}
use Rattle.entry_codec.specs.LogPage.{log_page, page_entries}
use Rattle.entry_codec.specs.Spelling.{spelling}
use Rattle.entry_codec.specs.declared.limits.TheConstants.{LOG_PAGE_BYTES}
use Rattle.farm_entry.specs.declared.entry.Entry.{Entry}
use Rattle.farm_journal.specs.declared.layout.TheConstants.{MAX_PAYLOAD}
use Rattle.farm_wire.proofs.Quoted.{IsUtf8-encode_lower}
use Rattle.farm_wire.specs.Members.{with_member}
use Rattle.farm_wire.specs.Replies.{log_data}
use Rattle.hex.proofs.HexLemmas.{decode_of-encode_lower}
use Rattle.hex.specs.Hex.{IsBytes, encode_lower}
use Rattle.http_exchange.specs.Requests.{get_request}
use Rattle.http_words.specs.declared.endpoint.Endpoint.TheVariants as endpoint
use Rattle.journal_follow.specs.Asks.{ask_request, log_path}
use Rattle.journal_follow.specs.Pages.{IsPage, first_in, text_in}
use Rattle.json.proofs.Printed.Utf8.{IsUtf8-are_ascii}
use Rattle.serde_json.specs.Data.{Data, depth}
use Rattle.serde_json.specs.Find.{as_object}
use Rattle.serde_json.specs.Read.{max_depth}
use Rattle.serde_json.specs.Written.{compact_text}
use Rattle.leaf_laws.proofs.Decimals.{digits-decimal}
use Rattle.leaf_laws.proofs.Framed.{IsPath, get-asks}
use Rattle.leaf_laws.proofs.JsonTexts.{IsSent, object_in-compact_text}
use Rattle.leaf_laws.proofs.Paths.{page-asked, page_path, page_path-text, page_path-uri}
use Rattle.leaf_laws.specs.Sent.{IsOneRequest}

log-sent : (from : ℕ) (bytes : List ℕ) → from < 2 ^ 64 → IsSent (log_data from bytes)
unfolding log_data with_member
log-sent from bytes fits = (
  (
    IsUtf8-are_ascii (codes "entries") refl,
    IsUtf8-encode_lower bytes,
    (
      IsUtf8-are_ascii (codes "from") refl,
      fits,
      (IsUtf8-are_ascii (codes "reply") refl, IsUtf8-are_ascii (codes "log") refl, tt),
    ),
  ),
  refl,
)

log-object : (from : ℕ) (bytes : List ℕ)
    → (is_some (as_object (log_data from bytes)) ≡ true) × (depth (log_data from bytes) ≤ max_depth)
unfolding log_data with_member
log-object from bytes = (refl, omega arith)

log-first : (from : ℕ) (bytes : List ℕ) → first_in (log_data from bytes) ≡ Some from
unfolding first_in log_data with_member
log-first from bytes = refl

log-text : (from : ℕ) (bytes : List ℕ) → text_in (log_data from bytes) ≡ Some (encode_lower bytes)
unfolding text_in log_data with_member
log-text from bytes = refl

page-short : (from : ℕ) (history : List Entry) → length (spelling (page_entries from history)) ≤ MAX_PAYLOAD
unfolding page_entries
page-short from history = omega (arith, (front-longest LOG_PAGE_BYTES (drop (from - 1) history)).fits)

-- a page that the service writes is read by a follower as that page
pub page-read : (from : ℕ) (history : List Entry) → from < 2 ^ 64 → AreSpelled (page_entries from history)
    → IsBytes (log_page from history)
    → IsPage from (compact_text (log_data from (log_page from history))) (page_entries from history)
unfolding log_page
page-read from history fits spelled bytes =
    let page = log_page from history in
    let d : Data = log_data from page in
    let object = log-object from page in
    record {
      json = d;
      text = encode_lower page;
      is = object_in-compact_text d object.0 (log-sent from page fits) object.1;
      first = log-first from page;
      member = log-text from page;
      digits = record {
        decoded = decode_of-encode_lower page bytes;
        spelled = spelled;
        fits = page-short from history;
      };
    }

ask-path : (from : ℕ) → from < 2 ^ 32 → IsPath (page_path (decimal from))
ask-path from fits =
    let wide : from < 2 ^ 64 = omega (arith, fits) in
    let digits = length-decimal-le 10 from (omega arith) (omega (arith, fits)) wide in
    record {
      some = omega arith;
      short = omega (arith, digits);
      visible = page_path-uri (decimal from) (digits-decimal from wide);
      text = page_path-text from wide;
    }

ask-path_is : (from : ℕ) → page_path (decimal from) ≡ log_path ++ decimal from
unfolding log_path
ask-path_is from = refl

-- a follower's ask is one request for that page
pub page-requested : (from : ℕ) → 1 ≤ from → from < 2 ^ 32
    → IsOneRequest (endpoint.Log from) (ask_request from) []
page-requested from some fits =
    subst (λ (path : List ℕ). IsOneRequest (endpoint.Log from) (get_request path) []) (ask-path_is from)
    (get-asks (page_path (decimal from)) (endpoint.Log from) (ask-path from fits) (page-asked from some fits))

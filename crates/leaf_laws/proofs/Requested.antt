-- The requests of a worker, on a connection.
use Rattle.std.proofs.Common.{◌≡◌, ◌<◌, ◌≤◌, ◌^◌, ℕ, List, ◌++◌, decimal, codes, Ok, refl, subst, arith, length-append}
use Rattle.std.proofs.lemmas.Fmt.{length-decimal-le}
use Rattle.farm_types.specs.Limits.{IsName}
use Rattle.farm_types.specs.declared.key.Key.{Key}
use Rattle.http_exchange.specs.Requests.{post_request}
use Rattle.http_requests.specs.Texts.{same_text}
use Rattle.http_requests.specs.Paths.{path_of}
use Rattle.http_requests.specs.Routes.{endpoint_of, page_of}
use Rattle.http_words.specs.declared.endpoint.Endpoint.TheVariants as endpoint
use Rattle.http_words.specs.declared.route.Route.TheVariants as route
use Rattle.httparse.specs.Grammar.{is_uri_byte}
use Rattle.json.proofs.Printed.Utf8.{IsUtf8-are_ascii}
use Rattle.serde_json.specs.Written.{compact_text}
use Rattle.worker_core.specs.declared.tested.Tested.{Tested}
use Rattle.worker_agent.specs.Requests.{key_text, lease_data, lease_path, lease_request, report_data, report_end}
use Rattle.worker_agent.specs.Requests.{report_request, runs_path}
use Rattle.leaf_laws.proofs.Decimals.{digits-decimal, pass-each}
use Rattle.leaf_laws.proofs.Framed.{IsPath, post-asks}
use Rattle.leaf_laws.proofs.Paths.{report-asked, report_path, report_path-text, report_path-uri}
use Rattle.leaf_laws.proofs.Bodies.{lease_body-short, report_body-short}
use Rattle.leaf_laws.specs.Sent.{IsOneRequest}

lease-path : IsPath lease_path
unfolding lease_path
lease-path = record {
  some = omega arith;
  short = omega arith;
  visible = pass-each is_uri_byte (codes "/v1/leases") refl;
  text = IsUtf8-are_ascii (codes "/v1/leases") refl;
}

lease-asked : endpoint_of (codes "POST") lease_path ≡ Ok (endpoint.Command route.Lease)
unfolding endpoint_of page_of path_of same_text lease_path
lease-asked = refl

-- a worker's request for a run is one request of that route
pub lease-requested : (key : Key) (worker : List ℕ) → IsName worker
    → IsOneRequest (endpoint.Command route.Lease) (lease_request key worker)
    (compact_text (lease_data (key_text key) worker))
lease-requested key worker is =
    post-asks lease_path (compact_text (lease_data (key_text key) worker)) (endpoint.Command route.Lease) lease-path
    (lease_body-short key worker is) lease-asked

report-path : (run : ℕ) → run < 2 ^ 32 → IsPath (report_path (decimal run))
report-path run fits =
    let wide : run < 2 ^ 64 = omega (arith, fits) in
    let digits = length-decimal-le 10 run (omega arith) (omega (arith, fits)) wide in
    let size = length-append (decimal run) (codes "/report") in
    record {
      some = omega arith;
      short = omega (arith, digits, size);
      visible = report_path-uri (decimal run) (digits-decimal run wide);
      text = report_path-text run wide;
    }

report-path_is : (run : ℕ) → report_path (decimal run) ≡ runs_path ++ decimal run ++ report_end
unfolding runs_path report_end
report-path_is run = refl

-- a worker's report is one request of that run's route
pub report-requested : (run : ℕ) (tested : Tested) → 1 ≤ run → run < 2 ^ 32
    → IsOneRequest (endpoint.Command (route.Report run)) (report_request run tested)
    (compact_text (report_data tested))
report-requested run tested some fits =
    let body = compact_text (report_data tested) in
    subst (λ (path : List ℕ). IsOneRequest (endpoint.Command (route.Report run)) (post_request path body) body)
    (report-path_is run)
    (post-asks (report_path (decimal run)) body (endpoint.Command (route.Report run)) (report-path run fits)
    (report_body-short tested) (report-asked run some fits))

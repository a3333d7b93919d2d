-- What a path with a number asks for.
use Rattle.std.proofs.Common.{◌≡◌, ◌<◌, ◌≤◌, ◌^◌, ◌==◌, ℕ, Bool, true, false, not, List, [], ◌∷◌, ◌++◌, length, take}
use Rattle.std.proofs.Common.{decimal, codes, Option, Some, Ok, refl, ap, ◌∙◌, arith, nat_lt}
use Rattle.std.specs.Char.{is_ascii_digit}
use Rattle.std.specs.List.{All, slice_index_or}
use Rattle.std.specs.Str.{IsUtf8}
use Rattle.std.proofs.lemmas.Bool.{not-true}
use Rattle.std.proofs.lemmas.Fmt.{IsAscii-decimal}
use Rattle.std.proofs.lemmas.List.Elements.{All-append}
use Rattle.std.proofs.lemmas.List.Splits.{slice_split_at, slice_split_none}
use Rattle.std.proofs.lemmas.Str.{IsUtf8-append, IsUtf8-from_ascii}
use Rattle.http_requests.specs.Texts.{same_text}
use Rattle.http_requests.proofs.PathNumbers.{path_number-some}
use Rattle.http_requests.specs.Paths.{path_of, question_mark, scheme_bytes}
use Rattle.http_requests.specs.Routes.{endpoint_by, endpoint_of, number_at, numbered, page_of, path_number, path_table}
use Rattle.http_requests.specs.Routes.{text_at}
use Rattle.http_requests.specs.declared.page.Page.{Page}
use Rattle.http_requests.specs.declared.page.Page.TheVariants as page
use Rattle.http_words.specs.declared.endpoint.Endpoint.TheVariants as endpoint
use Rattle.http_words.specs.declared.fault.PathField.TheVariants as field
use Rattle.http_words.specs.declared.route.Route.TheVariants as route
use Rattle.httparse.specs.Grammar.{AllPass, is_uri_byte}
use Rattle.json.proofs.Printed.Utf8.{IsUtf8-are_ascii}
use Rattle.http_requests.specs.Segments.{parts, row_in, slash}
use Rattle.leaf_laws.proofs.Decimals.{digits-decimal, number-decimal, pass-each, question-digit, slash-digit}
use Rattle.leaf_laws.proofs.Decimals.{some-digit, uri-digit}

-- a path with a number in it, or at its end
abbrev pub report_path : (digits : List ℕ) → List ℕ
report_path digits = codes "/v1/runs/" ++ (digits ++ codes "/report")

abbrev pub page_path : (digits : List ℕ) → List ℕ
page_path digits = codes "/v1/log/" ++ digits

-- ---- the bytes of such paths

each-of : (test : ℕ → Bool) (digits : List ℕ) → AllPass is_ascii_digit digits
    → ((b : ℕ) → is_ascii_digit b ≡ true → test b ≡ true) → AllPass test digits
each-of test digits are by i d within = by _ (are i d within)

pub report_path-uri : (digits : List ℕ) → AllPass is_ascii_digit digits → AllPass is_uri_byte (report_path digits)
report_path-uri digits are =
    All-append (λ b. is_uri_byte b ≡ true) (codes "/v1/runs/") (digits ++ codes "/report")
    (pass-each is_uri_byte (codes "/v1/runs/") refl)
    (All-append (λ b. is_uri_byte b ≡ true) digits (codes "/report") (each-of is_uri_byte digits are uri-digit)
    (pass-each is_uri_byte (codes "/report") refl))

pub page_path-uri : (digits : List ℕ) → AllPass is_ascii_digit digits → AllPass is_uri_byte (page_path digits)
page_path-uri digits are =
    All-append (λ b. is_uri_byte b ≡ true) (codes "/v1/log/") digits (pass-each is_uri_byte (codes "/v1/log/") refl)
    (each-of is_uri_byte digits are uri-digit)

pub report_path-text : (n : ℕ) → n < 2 ^ 64 → IsUtf8 (report_path (decimal n))
report_path-text n fits =
    IsUtf8-append (codes "/v1/runs/") (decimal n ++ codes "/report") (IsUtf8-are_ascii (codes "/v1/runs/") refl)
    (IsUtf8-append (decimal n) (codes "/report") (IsUtf8-from_ascii (decimal n) (IsAscii-decimal n fits))
    (IsUtf8-are_ascii (codes "/report") refl))

pub page_path-text : (n : ℕ) → n < 2 ^ 64 → IsUtf8 (page_path (decimal n))
page_path-text n fits =
    IsUtf8-append (codes "/v1/log/") (decimal n) (IsUtf8-are_ascii (codes "/v1/log/") refl)
    (IsUtf8-from_ascii (decimal n) (IsAscii-decimal n fits))

-- ---- no question mark stands in them

question-free : (text : List ℕ) → AllPass (λ b. not (b == question_mark)) text
    → All (λ b. (b == question_mark) ≡ false) text
question-free text are i d within = not-true _ (are i d within)

digits-free : (digits : List ℕ) → AllPass is_ascii_digit digits → All (λ b. (b == question_mark) ≡ false) digits
digits-free digits are i d within = question-digit _ (are i d within)

kept : (target : List ℕ) → All (λ b. (b == question_mark) ≡ false) target
    → same_text (take scheme_bytes target) (codes "http://") ≡ false → path_of target ≡ target
unfolding path_of
kept target none other =
    rw other
    (ap (λ (cut : List (List ℕ)). slice_index_or cut 0 []) (slice_split_none (λ b. b == question_mark) target none))

report-kept : (digits : List ℕ) → AllPass is_ascii_digit digits → path_of (report_path digits) ≡ report_path digits
unfolding same_text
report-kept digits are =
    kept (report_path digits)
    (All-append (λ b. (b == question_mark) ≡ false) (codes "/v1/runs/") (digits ++ codes "/report")
    (question-free (codes "/v1/runs/") (pass-each (λ b. not (b == question_mark)) (codes "/v1/runs/") refl))
    (All-append (λ b. (b == question_mark) ≡ false) digits (codes "/report") (digits-free digits are)
    (question-free (codes "/report") (pass-each (λ b. not (b == question_mark)) (codes "/report") refl))))
    refl

page-kept : (digits : List ℕ) → AllPass is_ascii_digit digits → path_of (page_path digits) ≡ page_path digits
unfolding same_text
page-kept digits are =
    kept (page_path digits)
    (All-append (λ b. (b == question_mark) ≡ false) (codes "/v1/log/") digits
    (question-free (codes "/v1/log/") (pass-each (λ b. not (b == question_mark)) (codes "/v1/log/") refl))
    (digits-free digits are))
    refl

-- ---- their parts

digits-whole : (digits : List ℕ) → AllPass is_ascii_digit digits → All (λ b. (b == slash) ≡ false) digits
digits-whole digits are i d within = slash-digit _ (are i d within)

report-parts : (digits : List ℕ) → AllPass is_ascii_digit digits
    → parts (report_path digits) ≡ [] ∷ codes "v1" ∷ codes "runs" ∷ digits ∷ codes "report" ∷ []
report-parts digits are =
    ap (λ (rest : List (List ℕ)). [] ∷ codes "v1" ∷ codes "runs" ∷ rest)
    (slice_split_at (λ b. b == slash) digits slash (codes "report") (digits-whole digits are) refl)

page-parts : (digits : List ℕ) → AllPass is_ascii_digit digits
    → parts (page_path digits) ≡ [] ∷ codes "v1" ∷ codes "log" ∷ digits ∷ []
page-parts digits are =
    ap (λ (rest : List (List ℕ)). [] ∷ codes "v1" ∷ codes "log" ∷ rest)
    (slice_split_none (λ b. b == slash) digits (digits-whole digits are))

report-row : (digits : List ℕ) → nat_lt 0 (length digits) ≡ true
    → row_in path_table ([] ∷ codes "v1" ∷ codes "runs" ∷ digits ∷ codes "report" ∷ []) ≡ Some page.Report
report-row digits some = rw some refl

page-row : (digits : List ℕ) → nat_lt 0 (length digits) ≡ true
    → row_in path_table ([] ∷ codes "v1" ∷ codes "log" ∷ digits ∷ []) ≡ Some page.Log
page-row digits some = rw some refl

-- ---- what they ask for

asked-by : (path method : List ℕ) (row : Page) (cut : List (List ℕ)) → path_of path ≡ path → parts path ≡ cut
    → row_in path_table cut ≡ Some row → endpoint_of method path ≡ endpoint_by (Some row) path method
unfolding endpoint_of page_of
asked-by path method row cut same is found =
    ap (λ (p : List ℕ). endpoint_by (row_in path_table (parts p)) p method) same
    ∙ ap (λ (c : List (List ℕ)). endpoint_by (row_in path_table c) path method) is
    ∙ ap (λ (r : Option Page). endpoint_by r path method) found

-- where the number stands among the parts of these paths
abbrev number_place : ℕ
number_place = 3

number-in : (path digits : List ℕ) (n : ℕ) → slice_index_or (parts path) number_place [] ≡ digits
    → path_number digits ≡ Some n → number_at number_place path ≡ Some n
unfolding text_at
number-in path digits n is read = ap (λ (t : List ℕ). path_number t) is ∙ read

number-read : (n : ℕ) → 1 ≤ n → n < 2 ^ 32 → path_number (decimal n) ≡ Some n
number-read n some fits =
    path_number-some (decimal n) n (number-decimal n (omega (arith, some)) (omega (arith, fits)))
    (omega (arith, some)) fits

-- a report is asked for by its path
pub report-asked : (run : ℕ) → 1 ≤ run → run < 2 ^ 32
    → endpoint_of (codes "POST") (report_path (decimal run)) ≡ Ok (endpoint.Command (route.Report run))
report-asked run some fits =
    let wide : run < 2 ^ 64 = omega (arith, fits) in
    let are = digits-decimal run wide in
    let parted = report-parts (decimal run) are in
    asked-by (report_path (decimal run)) (codes "POST") page.Report _ (report-kept (decimal run) are) parted
    (report-row (decimal run) (some-digit run wide))
    ∙ ap (numbered field.Run (λ (n : ℕ). endpoint.Command (route.Report n)))
    (number-in (report_path (decimal run)) (decimal run) run
    (ap (λ (cut : List (List ℕ)). slice_index_or cut number_place []) parted) (number-read run some fits))

-- and so is a page of the log
pub page-asked : (from : ℕ) → 1 ≤ from → from < 2 ^ 32
    → endpoint_of (codes "GET") (page_path (decimal from)) ≡ Ok (endpoint.Log from)
page-asked from some fits =
    let wide : from < 2 ^ 64 = omega (arith, fits) in
    let are = digits-decimal from wide in
    let parted = page-parts (decimal from) are in
    asked-by (page_path (decimal from)) (codes "GET") page.Log _ (page-kept (decimal from) are) parted
    (page-row (decimal from) (some-digit from wide))
    ∙ ap (numbered field.From (λ (n : ℕ). endpoint.Log n))
    (number-in (page_path (decimal from)) (decimal from) from
    (ap (λ (cut : List (List ℕ)). slice_index_or cut number_place []) parted) (number-read from some fits))

-- What the program's words ask for.
use Rattle.std.specs.Prelude.{ℕ, ℤ, pos, neg_ℤ, Bool, false, true, ◌&&◌, ◌||◌, ◌++◌, ◌≤◌, ⊤, List, [], ◌∷◌, length, take, drop, Option, Some, None, is_none, is_some, if◌then◌else◌, codes, nat_le, nat_lt, slice_get, unwrap_or}
use Rattle.std.specs.List.{list_any}
use Rattle.std.specs.Option.{option_and_then, option_map}
use Rattle.std.specs.Str.{bytes_eq}
use Rattle.farm_entry.specs.Settings.{settings_daily, settings_fault, settings_lease_ms, settings_zone_minutes}
use Rattle.farm_entry.specs.declared.limits.TheConstants.{MAX_SEARCHES}
use Rattle.farm_types.specs.Name.{name_fault}
use Rattle.drill_plan.specs.declared.limits.TheConstants.{MAX_WORKERS}
use Rattle.common_types.specs.Decimals.{number}
use Rattle.finder_words.specs.Forms.{fits}
use Rattle.finder_words.specs.declared.counts.TheConstants.{MAX_HANDLERS, MAX_LINKS, MAX_NUMBER, MAX_ROUNDS, MAX_RUNS}
use Rattle.finder_words.specs.declared.subcommand.Subcommand.{Subcommand}
use Rattle.finder_words.specs.declared.subcommand.Subcommand.TheVariants as sub

-- What is asked for: a search judged; a script run over a farm in memory; a journal founded, with how long a lease
-- lasts in milliseconds, how many orders a day may have, and how far its zone lies east of UTC in minutes; a journal
-- shown; a script run over a journal; the bytes of a journal audited; a journal served by so many handlers, until so
-- many accepts were made; work done under a name, for so many runs; the rates that a journal tells of; a drill of so
-- many searches and workers; a service followed in so many rounds; the evidence of the search of a number; the farm of
-- a journal closed; a journal founded with such numbers and with the orders that an input hands over.
pub data Asked : Type 0 where
  judge : Asked
  run : Asked
  found : ℕ → ℕ → ℤ → Asked
  show : Asked
  run_journal : Asked
  audit : Asked
  serve : (handlers links : ℕ) → Asked
  work : (worker : List ℕ) → (runs : ℕ) → Asked
  rates : Asked
  drill : (searches workers : ℕ) → Asked
  follow : (rounds : ℕ) → Asked
  evidence : (search : ℕ) → Asked
  close : Asked
  inherit : ℕ → ℕ → ℤ → Asked

-- what a subcommand does
abbrev pub asked_by : Subcommand → Asked
asked_by sub.Judge = judge
asked_by sub.Run = run
asked_by (sub.Found settings) =
    found (settings_lease_ms settings) (settings_daily settings) (settings_zone_minutes settings)
asked_by sub.Show = show
asked_by sub.RunJournal = run_journal
asked_by sub.Audit = audit
asked_by (sub.Serve handlers links) = serve handlers links
asked_by (sub.Work worker runs) = work worker runs
asked_by sub.Rates = rates
asked_by (sub.Drill searches workers) = drill searches workers
asked_by (sub.Follow rounds) = follow rounds
asked_by (sub.Evidence search) = evidence search
asked_by sub.Close = close
asked_by (sub.Inherit settings) =
    inherit (settings_lease_ms settings) (settings_daily settings) (settings_zone_minutes settings)

-- how far a zone lies east of UTC, in minutes: `east:` or `west:` and a number
abbrev pub zone_named : List ℕ → Option ℤ
zone_named word =
    if bytes_eq (take 5 word) (codes "east:") then option_map pos (number (drop 5 word))
    else if bytes_eq (take 5 word) (codes "west:") then option_map (λ minutes. neg_ℤ (pos minutes)) (number (drop 5 word))
    else None

-- what is asked for with these numbers, where they are settings
abbrev pub settings_asked : (ℕ → ℕ → ℤ → Asked) → Option ℕ → Option ℕ → Option ℤ → Option Asked
settings_asked ask (Some lease_ms) (Some daily) (Some zone) =
    if is_none (settings_fault lease_ms daily zone) then Some (ask lease_ms daily zone) else None
settings_asked ask _ _ _ = None

-- a journal to be founded with these numbers, where they are settings
abbrev pub founding_asked : Option ℕ → Option ℕ → Option ℤ → Option Asked
founding_asked lease_ms daily zone = settings_asked found lease_ms daily zone

-- the same of a journal that carries orders over
abbrev pub inheriting_asked : Option ℕ → Option ℕ → Option ℤ → Option Asked
inheriting_asked lease_ms daily zone = settings_asked inherit lease_ms daily zone

-- the number that a word writes, where it is from 1 to `most`
abbrev pub count_named : (most : ℕ) → List ℕ → Option ℕ
count_named most word =
    option_and_then (λ count. if nat_le 1 count && nat_le count most then Some count else None) (number word)

-- a journal served with these numbers
abbrev pub serve_asked : Option ℕ → Option ℕ → Option Asked
serve_asked handlers links = option_and_then (λ h. option_map (λ l. serve h l) links) handlers

-- the word names a runner: `table:` or `host:` and what follows
abbrev pub names_runner : List ℕ → Bool
names_runner word =
    (bytes_eq (take 6 word) (codes "table:") && nat_lt 6 (length word))
    || (bytes_eq (take 5 word) (codes "host:") && nat_lt 5 (length word))

-- work under this name, where it is one, by this runner
abbrev pub work_asked : (worker : List ℕ) → Option ℕ → (runner : List ℕ) → Option Asked
work_asked worker runs runner =
    if is_none (name_fault worker) && names_runner runner then option_map (λ n. work worker n) runs else None

-- a drill of these numbers
abbrev pub drill_asked : Option ℕ → Option ℕ → Option Asked
drill_asked searches workers = option_and_then (λ s. option_map (λ w. drill s w) workers) searches

-- a service followed in this number of rounds
abbrev pub follow_asked : Option ℕ → Option Asked
follow_asked rounds = option_map (λ n. follow n) rounds

-- the evidence of the search of this number
abbrev pub evidence_asked : Option ℕ → Option Asked
evidence_asked search = option_map (λ n. evidence n) search

-- a word alone
abbrev pub asked_alone : List ℕ → Option Asked
asked_alone word =
    if bytes_eq word (codes "judge") then Some judge
    else if bytes_eq word (codes "run") then Some run
    else if bytes_eq word (codes "audit") then Some audit else None

-- a word before the name of a journal
abbrev pub asked_of_journal : List ℕ → Option Asked
asked_of_journal word =
    if bytes_eq word (codes "show") then Some show
    else if bytes_eq word (codes "run") then Some run_journal
    else if bytes_eq word (codes "rates") then Some rates
    else if bytes_eq word (codes "close") then Some close else None

-- a word before two others
abbrev pub asked_of_two : (word first second : List ℕ) → Option Asked
asked_of_two word first second =
    if bytes_eq word (codes "drill")
    then drill_asked (count_named MAX_SEARCHES first) (count_named MAX_WORKERS second)
    else if bytes_eq word (codes "evidence") then evidence_asked (count_named MAX_NUMBER second) else None

-- a word before four others
abbrev pub asked_of_four : (word first second third fourth : List ℕ) → Option Asked
asked_of_four word first second third fourth =
    if bytes_eq word (codes "found") then founding_asked (number second) (number third) (zone_named fourth)
    else if bytes_eq word (codes "inherit") then inheriting_asked (number second) (number third) (zone_named fourth)
    else if bytes_eq word (codes "serve")
    then serve_asked (count_named MAX_HANDLERS third) (count_named MAX_LINKS fourth)
    else if bytes_eq word (codes "work") then work_asked second (count_named MAX_RUNS third) fourth else None

-- what words ask for that fit a command, if their numbers are in range
abbrev pub asked_of : List (List ℕ) → Option Asked
asked_of (word ∷ []) = asked_alone word
asked_of (word ∷ journal ∷ []) = asked_of_journal word
asked_of (word ∷ first ∷ second ∷ []) = asked_of_two word first second
asked_of (word ∷ journal ∷ address ∷ rounds ∷ []) =
    if bytes_eq word (codes "follow") then follow_asked (count_named MAX_ROUNDS rounds) else None
asked_of (word ∷ first ∷ second ∷ third ∷ fourth ∷ []) = asked_of_four word first second third fourth
asked_of _ = None

-- what a list of words asks for, if it asks for anything: none of them is empty or begins with a dash, they are the
-- name of a command and as many words as it takes, and their numbers are in range
abbrev pub asked : List (List ℕ) → Option Asked
asked words = if fits words then asked_of words else None

-- the word at this place behind a command's name, if it is one of these commands, or nothing
abbrev pub word_of : (place : ℕ) → (commands : List (List ℕ)) → List (List ℕ) → List ℕ
word_of place commands [] = []
word_of place commands (name ∷ words) = if list_any (bytes_eq name) commands then unwrap_or (slice_get words place) [] else []

-- what words name outside: the path of a journal, an address, and a runner, each empty where they name none
pub record PlacesNamed : Type 0 where
  pub journal : List ℕ
  pub address : List ℕ
  pub runner : List ℕ

-- nothing
abbrev pub nowhere : PlacesNamed
nowhere = record { journal = []; address = []; runner = [] }

-- what words that fit a command name
abbrev pub places_in : List (List ℕ) → PlacesNamed
places_in words = record {
  journal = word_of 0
      (codes "run" ∷ codes "found" ∷ codes "show" ∷ codes "serve" ∷ codes "rates" ∷ codes "follow" ∷ codes "evidence"
      ∷ codes "close" ∷ codes "inherit" ∷ [])
      words;
  address = word_of 0 (codes "work" ∷ []) words ++ word_of 1 (codes "serve" ∷ codes "follow" ∷ []) words;
  runner = word_of 3 (codes "work" ∷ []) words;
}

-- the same, where they ask for something
abbrev pub places_asked : List (List ℕ) → PlacesNamed
places_asked words = if is_some (asked_of words) then places_in words else nowhere

-- what a list of words names outside, where it asks for something
abbrev pub places_named : List (List ℕ) → PlacesNamed
places_named words = if fits words then places_asked words else nowhere

-- whether what is asked for uses the input
abbrev pub uses_input : Option Asked → Bool
uses_input None = false
uses_input (Some judge) = true
uses_input (Some run) = true
uses_input (Some (found lease_ms daily zone)) = false
uses_input (Some show) = false
uses_input (Some run_journal) = true
uses_input (Some audit) = true
uses_input (Some (serve handlers links)) = false
uses_input (Some (work worker runs)) = false
uses_input (Some rates) = false
uses_input (Some (drill searches workers)) = false
uses_input (Some (follow rounds)) = false
uses_input (Some (evidence search)) = false
uses_input (Some close) = false
uses_input (Some (inherit lease_ms daily zone)) = true

-- whether it uses a disk
abbrev pub uses_disk : Option Asked → Bool
uses_disk None = false
uses_disk (Some judge) = false
uses_disk (Some run) = false
uses_disk (Some (found lease_ms daily zone)) = true
uses_disk (Some show) = true
uses_disk (Some run_journal) = true
uses_disk (Some audit) = false
uses_disk (Some (serve handlers links)) = true
uses_disk (Some (work worker runs)) = false
uses_disk (Some rates) = true
uses_disk (Some (drill searches workers)) = false
uses_disk (Some (follow rounds)) = true
uses_disk (Some (evidence search)) = true
uses_disk (Some close) = true
uses_disk (Some (inherit lease_ms daily zone)) = true

-- whether it uses the network
abbrev pub uses_network : Option Asked → Bool
uses_network None = false
uses_network (Some judge) = false
uses_network (Some run) = false
uses_network (Some (found lease_ms daily zone)) = false
uses_network (Some show) = false
uses_network (Some run_journal) = false
uses_network (Some audit) = false
uses_network (Some (serve handlers links)) = true
uses_network (Some (work worker runs)) = true
uses_network (Some rates) = false
uses_network (Some (drill searches workers)) = false
uses_network (Some (follow rounds)) = true
uses_network (Some (evidence search)) = false
uses_network (Some close) = false
uses_network (Some (inherit lease_ms daily zone)) = false

-- whether it uses the runner and the keys
abbrev pub uses_runner : Option Asked → Bool
uses_runner None = false
uses_runner (Some judge) = false
uses_runner (Some run) = false
uses_runner (Some (found lease_ms daily zone)) = false
uses_runner (Some show) = false
uses_runner (Some run_journal) = false
uses_runner (Some audit) = false
uses_runner (Some (serve handlers links)) = false
uses_runner (Some (work worker runs)) = true
uses_runner (Some rates) = false
uses_runner (Some (drill searches workers)) = false
uses_runner (Some (follow rounds)) = false
uses_runner (Some (evidence search)) = false
uses_runner (Some close) = false
uses_runner (Some (inherit lease_ms daily zone)) = false

-- the numbers of a subcommand are within their limits
abbrev pub HasRanges : Subcommand → Type 0
HasRanges (sub.Serve handlers links) = (1 ≤ handlers) × (handlers ≤ MAX_HANDLERS) × (1 ≤ links) × (links ≤ MAX_LINKS)
HasRanges (sub.Work worker runs) = (1 ≤ runs) × (runs ≤ MAX_RUNS)
HasRanges (sub.Drill searches workers) =
    (1 ≤ searches) × (searches ≤ MAX_SEARCHES) × (1 ≤ workers) × (workers ≤ MAX_WORKERS)
HasRanges (sub.Follow rounds) = (1 ≤ rounds) × (rounds ≤ MAX_ROUNDS)
HasRanges (sub.Evidence search) = (1 ≤ search) × (search ≤ MAX_NUMBER)
HasRanges _ = ⊤

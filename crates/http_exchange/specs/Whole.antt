-- The whole response with which bytes begin.
use Rattle.std.specs.Prelude.{◌≡◌, ◌≤◌, ℕ, ◌==◌, Bool, true, false, List, [], ◌∷◌, length, take, drop, Some}
use Rattle.httparse.specs.Grammar.{ReadsResponse, ResponseHead, print_response, status_code}
use Rattle.http_exchange.specs.Framing.{body_length}
use Rattle.http_exchange.specs.declared.interim.TheConstants.{INTERIM_STATUS}
use Rattle.http_words.specs.declared.limits.TheConstants.{MAX_FIELDS, MAX_HEAD_BYTES}

-- bytes begin with a head, within the limits
pub record HasHead (bytes : List ℕ) (head : ResponseHead) : Type 0 where
  pub rest : List ℕ
  pub reads : ReadsResponse (take MAX_HEAD_BYTES bytes) head rest
  pub few_fields : length head.fields ≤ MAX_FIELDS

-- how many bytes a head has
abbrev pub head_size : ResponseHead → ℕ
head_size head = length (print_response head)

-- another response follows the head
abbrev pub is_interim : ResponseHead → Bool
is_interim head = status_code head == INTERIM_STATUS

-- bytes begin with a head that is no interim one, and the body behind it
pub record IsFinal (bytes : List ℕ) (head : ResponseHead) (body : List ℕ) : Type 0 where
  pub has : HasHead bytes head
  pub final : is_interim head ≡ false
  pub len : ℕ
  pub framed : body_length head ≡ Some len
  pub there : len ≤ length (drop (head_size head) bytes)
  pub body_is : body ≡ take len (drop (head_size head) bytes)

-- bytes begin with interim heads, a final one, and its body
abbrev pub IsResponse : List ℕ → List ResponseHead → ResponseHead → List ℕ → Type 0
IsResponse bytes [] head body = IsFinal bytes head body
IsResponse bytes (interim ∷ more) head body =
    HasHead bytes interim × (is_interim interim ≡ true) × IsResponse (drop (head_size interim) bytes) more head body

-- bytes begin with a whole response: its status and its body
pub record IsWhole (bytes : List ℕ) (status : ℕ) (body : List ℕ) : Type 0 where
  pub interims : List ResponseHead
  pub head : ResponseHead
  pub is : IsResponse bytes interims head body
  pub status_is : status ≡ status_code head

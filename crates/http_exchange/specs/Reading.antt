-- What a reader may say of the bytes held, while more may come.
use Rattle.std.specs.Prelude.{◌≡◌, ◌↔◌, ◌⊎◌, ◌+◌, ◌-◌, ◌<◌, ◌≤◌, ◌==◌, ℕ, false, List, ◌++◌, drop, length, nat_lt, slice_range, Option, Some, None, if◌then◌else◌}
use Rattle.httparse.specs.Grammar.{MayBecomeResponse, ResponseHead}
use Rattle.http_exchange.specs.Framing.{body_length}
use Rattle.http_exchange.specs.Whole.{HasHead, IsWhole, head_size, is_interim}
use Rattle.http_exchange.specs.declared.interim.TheConstants.{INTERIM_STATUS}
use Rattle.http_words.specs.declared.limits.TheConstants.{MAX_HEAD_BYTES}
use Rattle.http_exchange.specs.declared.progress.ResponseProgress.{ResponseProgress}
use Rattle.http_exchange.specs.declared.progress.ResponseProgress.TheVariants.{Interim, More, Never, Whole}

-- the body behind a head isn't whole
pub record IsCut (held : List ℕ) : Type 0 where
  pub head : ResponseHead
  pub has : HasHead held head
  pub final : is_interim head ≡ false
  pub len : ℕ
  pub framed : body_length head ≡ Some len
  pub short : length held < head_size head + len

-- bytes may follow that end the head, or the body behind it
abbrev pub IsBegun : List ℕ → Type 0
IsBegun held = ((length held < MAX_HEAD_BYTES) × MayBecomeResponse held) ⊎ IsCut held

-- no response is whole yet, one has begun, and none is whole before so many bytes are held
pub record IsUnfinished (held : List ℕ) (size : ℕ) : Type 0 where
  pub begun : IsBegun held
  pub ahead : length held < size
  pub none : (more : List ℕ) (status : ℕ) (body : List ℕ) →
      length held + length more < size → ¬ IsWhole (held ++ more) status body

-- so many bytes stand before the response, whatever follows
pub record IsBefore (held : List ℕ) (size : ℕ) : Type 0 where
  pub some : 1 ≤ size
  pub within : size ≤ length held
  pub same : (more : List ℕ) (status : ℕ) (body : List ℕ) →
      IsWhole (held ++ more) status body ↔ IsWhole (drop size held ++ more) status body

abbrev pub Says : List ℕ → ResponseProgress → Type 0
Says held (More size) = IsUnfinished held size
Says held (Interim size) = IsBefore held size
Says held (Whole r) =
    (r.body ≤ r.end) × (r.end ≤ length held)
    × ((more : List ℕ) → IsWhole (held ++ more) r.status (slice_range held r.body r.end))
Says held Never = (more : List ℕ) (status : ℕ) (body : List ℕ) → ¬ IsWhole (held ++ more) status body

-- what stands behind a final head, by the length that it states
abbrev pub behind_final : (status size : ℕ) → Option ℕ → (held : ℕ) → ResponseProgress
behind_final status size None held = Never
behind_final status size (Some len) held =
    if nat_lt (held - size) len then More (size + len) else Whole (record { status = status; body = size; end = size + len })

-- what stands at the front of so many bytes that begin with a head of this status and size
abbrev pub progress_of : (status size : ℕ) → Option ℕ → (held : ℕ) → ResponseProgress
progress_of status size len held = if status == INTERIM_STATUS then Interim size else behind_final status size len held

-- What the bytes that were taken of a source come to.
use Rattle.std.specs.Prelude.{◌≡◌, ◌≤◌, ◌⊎◌, ℕ, Bool, List, [], ◌++◌, length, Result, Ok, Err, ⊤}
use Rattle.http_exchange.specs.Whole.{IsWhole}
use Rattle.http_exchange.specs.Received.{IsOver}
use Rattle.link_io.specs.declared.sink.PutFault.{PutFault}
use Rattle.link_io.specs.declared.sink.PutFault.TheVariants as put_fault
use Rattle.link_io.specs.declared.source.TheConstants.{PIECE}
use Rattle.http_exchange.specs.declared.response.NoResponse.{NoResponse}
use Rattle.http_exchange.specs.declared.response.NoResponse.TheVariants.{Broken, Failed, Memory}
use Rattle.http_exchange.specs.declared.response.Response.{Response}

-- the bytes begin with no whole response
abbrev pub HasNone : List ℕ → Type 0
HasNone bytes = (status : ℕ) (body : List ℕ) → ¬ IsWhole bytes status body

-- nor do any that go on from them
abbrev pub NeverHasOne : List ℕ → Type 0
NeverHasOne bytes = (more : List ℕ) → HasNone (bytes ++ more)

-- No more was taken once a whole response was there: the last bytes, no more of them than one take gives, made it whole,
-- and those before them begin with none.
pub record HasJustCome (bytes : List ℕ) : Type 0 where
  pub before : List ℕ
  pub last : List ℕ
  pub is : bytes ≡ before ++ last
  pub few : length last ≤ PIECE
  pub none : (before ≡ []) ⊎ HasNone before

-- The other end sent no whole response: these bytes are none, and they can't be continued to one, or the input has
-- ended, or as many were taken as are taken at most
pub record IsBroken (bytes : List ℕ) (ended : Bool) : Type 0 where
  pub none : HasNone bytes
  pub over : IsOver ended (length bytes) ⊎ NeverHasOne bytes

-- what the bytes that were taken come to, whether the input has ended then
abbrev pub ComesTo : List ℕ → (ended : Bool) → Result Response NoResponse → Type 0
ComesTo bytes ended (Ok response) = IsWhole bytes response.status response.body
ComesTo bytes ended (Err Broken) = IsBroken bytes ended
ComesTo bytes ended (Err Failed) = HasNone bytes
ComesTo bytes ended (Err Memory) = ⊤

-- why no response came, where a put wasn't done
abbrev pub unput : PutFault → NoResponse
unput put_fault.Failed = Failed
unput put_fault.Memory = Memory

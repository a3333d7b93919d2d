-- Commands that stand whole at the front of the bytes held.
use Rattle.std.specs.Prelude.{ℕ, ◌≡◌, ◌≤◌, Bool, List, [], ◌∷◌, length, ⊤}
use Rattle.connection_laws.specs.Batches.{AreAsked, AreAtOnce}
use Rattle.farm_store.specs.declared.asking.Ask.{Ask}
use Rattle.farm_store.specs.declared.asking.TheConstants.{MAX_BATCH}
use Rattle.connection_laws.specs.Moments.{Given}
use Rattle.http_requests.specs.Items.{Item}
use Rattle.http_requests.specs.declared.request.Request.{Request}
use Rattle.farm_http.specs.Fronts.{AreFront}
use Rattle.farm_http.specs.declared.front.Answered.{Answered}

-- the commands of a batch, the request of each, how many bytes the requests take, and whether the last one closes
pub record BatchState : Type 0 where
  pub asks : List Ask
  pub requests : List Request
  pub size : ℕ
  pub closes : Bool

-- a request is put as its item is
pub record IsPutAs (item : Item) (request : Request) : Type 0 where
  pub interim : item.interim ≡ request.interim
  pub withheld : item.withheld ≡ request.withheld
  pub closes : item.closes ≡ request.closes

abbrev pub ArePutAs : List Item → List Request → Type 0
ArePutAs [] [] = ⊤
ArePutAs (item ∷ items) (request ∷ requests) = IsPutAs item request × ArePutAs items requests
ArePutAs _ _ = ⊥

-- what answering all of a batch comes to
abbrev pub all_answered : BatchState → Answered
all_answered b = record { requests = length b.asks; size = b.size; closes = b.closes }

-- The batch has the commands of the items at the front, asked at moments that the clock may give. None of them but the
-- first has an interim answer, and none but the last closes.
pub record IsBatch (gives : Given → Type 0) (complete : Bool) (held : List ℕ) (b : BatchState) : Type 0 where
  pub first : Item
  pub others : List Item
  pub front : AreFront complete held (first ∷ others) (all_answered b)
  pub asked : AreAsked gives (first ∷ others) b.asks
  pub put_as : ArePutAs (first ∷ others) b.requests
  pub at_once : AreAtOnce others
  pub few : length b.asks ≤ MAX_BATCH

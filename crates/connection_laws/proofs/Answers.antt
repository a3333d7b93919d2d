-- The bytes of answers, as they are put.
use Rattle.std.proofs.Common.{◌≡◌, ◌++◌, ◌∷◌, [], append-nil}
use Rattle.http_requests.specs.Items.{Item}
use Rattle.common_types.specs.Prefix.{IsPrefix}
use Rattle.connection_laws.specs.Outcomes.{Step}
use Rattle.connection_laws.specs.Answers.{item_bytes, response_bytes, interim_of, response_of, transcript}

-- what is put for one item
pub one_answer : (item : Item) (step : Step)
    → transcript (item ∷ []) (step ∷ []) ≡ interim_of item.interim ++ response_bytes item (response_of step)
unfolding item_bytes
one_answer item step = append-nil (interim_of item.interim ++ response_bytes item (response_of step))

pub interim-part : (item : Item) (step : Step) → IsPrefix (interim_of item.interim) (transcript (item ∷ []) (step ∷ []))
interim-part item step = (response_bytes item (response_of step), one_answer item step)

-- What a host that was asked says.
use Rattle.std.proofs.Common.{◌≡◌, ℕ, Bool, List, Option, Some, None, inr, refl, ap, ◌∙◌}
use Rattle.std.specs.Io.KnownBytes.{append_known}
use Rattle.worker_core.specs.declared.tested.Tested.{Tested}
use Rattle.test_runners.specs.Host.{IsAsked, Says}

-- bytes that are taken after a call that took none
pub known-over : (before mid after : Option (List ℕ)) (taken : List ℕ) → mid ≡ before → after ≡ append_known mid taken →
    after ≡ append_known before taken
known-over before mid after taken kept took = took ∙ ap (λ (k : Option (List ℕ)). append_known k taken) kept

-- where the whole question was put, what the answer says was said
pub asked-says : (question taken : List ℕ) (ended : Bool) (count : ℕ) (said : Option Tested) →
    Says taken ended count said → IsAsked question question taken ended count said
asked-says question taken ended count (Some tested) says = (refl, says)
asked-says question taken ended count None says = inr (refl, says)

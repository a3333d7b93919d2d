pub mod Kept
pub mod StandsFor
pub mod Counted
pub mod KeptWeight
pub mod BeliefFacts
pub mod BeliefInside
pub mod Middle
pub mod Walk

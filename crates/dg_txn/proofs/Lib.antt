-- Pins and own changes.
pub mod PinLaws
pub mod OneOffer
pub mod ComposedOps
pub mod OwnSteps
pub mod BegunPins
pub mod SomeListed
pub mod Scanning
pub mod SpanLaws
pub mod Walking
pub mod FoundNodes
pub mod StandingKeys
pub mod StoredWalk
pub mod LookedUp

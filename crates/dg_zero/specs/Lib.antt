-- Which histories are legal, and what a history says at each place.
pub mod Counters
pub mod Worlds
pub mod Listings
pub mod Places
pub mod Verdicts
pub mod Offers
pub mod Legal
pub mod Exact
pub mod Laws
pub mod ExactLaws
pub mod Chains
pub mod Pasts
pub mod Records
pub mod States
pub mod TabletLaws
pub mod Altering
pub mod Examples

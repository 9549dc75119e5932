-- The printed form of queries and upsert blocks.
pub mod Depth
pub mod Printed
pub mod PrintedQuery
pub mod Printing
pub mod Laws
pub mod PrintedUpsert

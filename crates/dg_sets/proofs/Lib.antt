pub mod MadeOrders
pub mod Merges
pub mod OnceEach
pub mod Places
pub mod Sets

pub mod Data
pub mod Lit
pub mod Sets
pub mod SetsTo
pub mod Renews

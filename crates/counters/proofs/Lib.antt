pub mod Turnover
pub mod Compared

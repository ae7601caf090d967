pub mod Deals
pub mod Failures
pub mod Stocks

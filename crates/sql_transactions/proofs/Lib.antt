pub mod Results
pub mod Keeping
pub mod Ran
pub mod Transactions

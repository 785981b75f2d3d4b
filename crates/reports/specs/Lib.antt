pub mod Numbers
pub mod Accounts

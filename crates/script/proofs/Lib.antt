mod Digits
mod Tables
mod Sayings

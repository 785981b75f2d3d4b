pub mod RowFirsts

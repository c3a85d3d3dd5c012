pub mod SubRows

pub mod Want

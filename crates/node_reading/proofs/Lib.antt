pub mod NodeReads

pub mod Canon
pub mod Decoding
pub mod Exact
pub mod Faults
pub mod Judgement
pub mod Orders
pub mod Progressing
pub mod Verdict

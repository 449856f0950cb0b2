pub mod Sheets
pub mod Works
pub mod Printed
pub mod Cases

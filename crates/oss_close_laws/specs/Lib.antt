pub mod Printed
pub mod Tabled

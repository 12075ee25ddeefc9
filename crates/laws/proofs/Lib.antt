pub mod Tests
pub mod Bits
pub mod Lists
pub mod Modulo

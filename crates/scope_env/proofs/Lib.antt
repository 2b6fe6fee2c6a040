pub mod Entries
pub mod Found
pub mod Mapped
pub mod Opening

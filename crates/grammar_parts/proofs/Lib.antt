pub mod Fine
pub mod Taking
pub mod Following
pub mod Sets
pub mod Productions
pub mod Exactness

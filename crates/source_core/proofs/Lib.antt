pub mod Joined
pub mod Known
pub mod Keeps
pub mod Same
pub mod SameParts
pub mod SameWalk

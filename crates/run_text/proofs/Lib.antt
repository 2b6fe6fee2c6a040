mod Gates
mod Labels
mod Prints
mod Shows

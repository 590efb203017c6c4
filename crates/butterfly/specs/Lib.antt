pub mod Listing
pub mod Halves
pub mod Colours
pub mod Placing
pub mod Network
pub mod Colouring
pub mod Halving

mod Happening
mod Lengths

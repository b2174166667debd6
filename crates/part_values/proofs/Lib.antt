mod Dates
mod FirstKinds
mod Numerals

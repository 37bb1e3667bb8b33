pub mod Sums
pub mod Squares
pub mod LowerBound
pub mod Totals
pub mod Slots
pub mod CommonUnits
pub mod NoCheaper
pub mod Rates
pub mod Rounding
pub mod Stretches
pub mod ExactRival
pub mod Lists
mod Wrong
mod Worked
pub mod Wholes

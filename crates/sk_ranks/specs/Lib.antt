pub mod Numbers
pub mod RankMachine
pub mod Order
pub mod Sums
pub mod NumberSet
pub mod Followers
pub mod Kept

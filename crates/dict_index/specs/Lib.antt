pub mod Cheapest
pub mod Heads
pub mod Order
pub mod Packed
pub mod Spans

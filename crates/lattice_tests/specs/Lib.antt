pub mod ExampleUser
pub mod Spans

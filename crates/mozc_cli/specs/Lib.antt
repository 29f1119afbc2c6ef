pub mod Args
pub mod Programs
pub mod Replays
pub mod Reported
pub mod Settles
pub mod Reports

pub mod CitedLaws
pub mod Clients
pub mod Codes
pub mod Delivery
pub mod Events
pub mod Lines
pub mod Serving
pub mod Traffic

pub mod Batches
pub mod Flights
pub mod Queues
pub mod Sent

pub mod Plan
pub mod Look

pub mod Seeing
pub mod Tables
pub mod Sightings

pub mod Tables
pub mod Sightings

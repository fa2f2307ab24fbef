-- Theorems that speak of every call of a host.
pub mod Demand1

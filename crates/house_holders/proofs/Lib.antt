pub mod Picking

pub mod Upgrade

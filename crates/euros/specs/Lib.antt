pub mod Euros

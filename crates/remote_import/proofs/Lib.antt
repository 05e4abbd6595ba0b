pub mod BroughtRows
mod Ends
mod Opening

pub mod Tables
pub mod Html
pub mod Reports
pub mod Paging
pub mod Portions
pub mod Parts

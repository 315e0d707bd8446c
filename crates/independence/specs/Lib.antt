pub mod ReadsFrom
pub mod Hearing
pub mod Independence
pub mod Enlarging
pub mod Reports
pub mod Courses
pub mod Renumbered

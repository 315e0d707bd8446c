pub mod AtOne
pub mod Calls
pub mod Courses
pub mod Laws

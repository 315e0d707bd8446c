pub use Rattle.expressions.specs.Views
pub mod Laws
pub mod SuitedQueries
pub mod Suits

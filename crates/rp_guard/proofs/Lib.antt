pub mod Lists
pub mod Forms
pub mod StatementForms
pub mod Laws

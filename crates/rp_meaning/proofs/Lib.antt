pub mod BindingLaws
pub mod Laws

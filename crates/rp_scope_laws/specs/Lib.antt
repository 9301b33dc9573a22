pub mod ByText

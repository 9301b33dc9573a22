pub mod KindsByForm
pub mod Places
pub mod Spelled
pub mod Written

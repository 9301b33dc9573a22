mod Lines
mod Reviews

mod Digits
mod Found
mod Given
mod Ids
mod Matches
mod WordExamples

pub mod TellingArenas

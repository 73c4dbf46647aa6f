mod Alike
mod Compacted
mod Flushed
mod Gathered
mod Places
mod Rewritten
mod Survived

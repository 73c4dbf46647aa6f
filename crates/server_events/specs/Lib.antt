pub mod Crashes
pub mod Effects
pub mod Kept
pub mod NextLog
pub mod Ready
pub mod SealedLog

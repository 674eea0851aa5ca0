-- laws
pub mod Frames
pub mod ListsWords
pub mod ListsSteps
pub mod UseBits
pub mod SearchesAllowed
pub mod SearchesStored
pub mod SearchesLook
pub mod SearchesLooks
pub mod SearchesTurns
pub mod WalksUses
pub mod WalksTaken
pub mod WalksMates
pub mod WalksSteps
pub mod WalksWay
pub mod WalksWritten
pub mod WalksBack
pub mod Passes

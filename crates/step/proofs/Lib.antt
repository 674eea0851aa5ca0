pub mod Judgements
pub mod Carries
pub mod Exchanges
pub mod Steps
pub mod Replies
pub mod Tables

pub mod KeyOrders
pub mod StableSorts
pub mod OrderLaws
pub mod AskedLaws
pub mod WholeLaws
mod KeyTurns
mod Beside
mod Behind
mod Turns
mod ShownTurns
mod FlatLaws
mod FlattenTurns
mod TallyLaws
mod LongTexts

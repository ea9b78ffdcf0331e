pub mod Common
pub mod Places
pub mod OneLine
pub mod Members
pub mod PlainValues
pub mod AnswerSizes
pub mod ScreenLength

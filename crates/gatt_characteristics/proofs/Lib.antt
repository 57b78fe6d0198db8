pub mod RisingLaws
pub mod ArrayLaws
pub mod AnswerLaws
pub mod AsRust
pub mod Keeps

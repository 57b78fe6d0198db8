pub mod Numbers
pub mod Frame

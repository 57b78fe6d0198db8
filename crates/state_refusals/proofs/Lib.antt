pub mod RefusalLaws
pub mod RefusedLaws

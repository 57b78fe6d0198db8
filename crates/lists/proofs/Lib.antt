pub mod CutLaws
pub mod TableLaws
pub mod TakenLaws
pub mod ScanLaws
pub mod QueueLaws
pub mod BlockLaws

pub mod KeptLaws
pub mod AdvertisingLaws
pub mod ResponseLaws

pub mod SplitLaws
pub mod FragmentLaws
pub mod RoundTrip

pub mod FitGoesToFit
pub mod FragmentLasts

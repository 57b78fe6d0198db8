pub mod ParamsLaws

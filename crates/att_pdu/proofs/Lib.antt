pub mod PduLaws

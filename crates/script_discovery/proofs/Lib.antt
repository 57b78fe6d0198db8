pub mod DiscoveryLaws

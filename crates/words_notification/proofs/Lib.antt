pub mod NotificationLaws
pub mod SearchLaws

pub mod FrameLaws
pub mod RoomLaws
pub mod WriteLaws

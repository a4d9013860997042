-- Full and short.
pub mod TableRoom
pub mod RoomLaws

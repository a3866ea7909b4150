pub mod UsedLemmas
pub mod CopyLemmas
pub mod RoomLemmas

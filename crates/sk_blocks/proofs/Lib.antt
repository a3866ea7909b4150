pub mod Examples
pub mod SettingLaws
pub mod Tiles

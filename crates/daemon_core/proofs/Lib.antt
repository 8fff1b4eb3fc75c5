pub mod RoomLemmas
pub mod DaemonLemmas
pub mod SameRun
pub mod Histories
pub mod Response
pub mod Fullness

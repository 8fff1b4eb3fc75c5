pub mod Arguments
pub mod Results
pub mod Call
pub mod Messages

pub mod FaultOf
pub mod Answered
pub mod Pipe
pub mod Table

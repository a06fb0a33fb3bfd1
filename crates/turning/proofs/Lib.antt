pub mod Turning
pub mod Results

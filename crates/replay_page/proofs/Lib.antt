pub mod Captures
pub mod Datas
pub mod Files
pub mod Names
pub mod Quiets
pub mod Spelled

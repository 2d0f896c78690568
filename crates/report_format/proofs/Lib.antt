pub mod Files
mod Reader

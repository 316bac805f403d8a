pub mod Format
pub mod Standing
pub mod Grammar

pub mod Count
pub mod Legal

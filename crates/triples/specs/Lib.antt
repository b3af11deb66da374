pub mod Triple
pub mod At

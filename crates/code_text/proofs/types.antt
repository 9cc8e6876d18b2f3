pub mod Binders
pub mod Scopes
pub mod Stack
pub mod Params
pub mod Types
pub mod ParamRows

pub mod Lists
pub mod IndexForms
pub mod ParamForms
pub mod CodeForms

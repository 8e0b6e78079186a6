pub mod Programs
pub mod ControlRows
pub mod CellRows
pub mod BinderRows

pub mod ControlRuns
pub mod CellRuns
pub mod BinderRuns

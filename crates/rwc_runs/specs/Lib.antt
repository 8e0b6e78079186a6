pub mod Executions

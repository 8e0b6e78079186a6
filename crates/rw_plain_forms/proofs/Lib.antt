pub mod SignatureFields
mod IndexRows

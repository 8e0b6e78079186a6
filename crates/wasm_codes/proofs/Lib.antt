pub mod ListSteps
pub mod OpeningSteps
pub mod ListEnds
pub mod LocalSteps
pub mod SizeSteps
pub mod PlainSteps
pub mod WantsBytes
pub mod Answering

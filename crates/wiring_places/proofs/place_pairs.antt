pub mod LayerSteps
pub mod BindingSteps
pub mod ClassSteps

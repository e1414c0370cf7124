pub mod SpanSteps
pub mod CountSteps
pub mod ContainerSteps
pub mod SlotSteps
pub mod RowSteps

pub mod ChartTree
pub mod MappingTree
pub mod Values
pub mod Trees
pub mod Tokens
pub mod Found
pub mod model_parts

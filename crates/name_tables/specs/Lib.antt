pub mod distinct_names
pub mod name_index
pub mod name_numbers
pub mod reserved_names

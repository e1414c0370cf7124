pub mod Tokens
pub mod Written
pub mod ExprReading
pub mod StmtReading

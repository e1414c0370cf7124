pub mod EndsOfThree

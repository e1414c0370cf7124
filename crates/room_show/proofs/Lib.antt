pub mod ShowGoing

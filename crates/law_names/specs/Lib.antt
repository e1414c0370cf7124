pub mod Asking
pub mod Created
pub mod Registrations
pub mod Links
pub mod Unjoined
pub mod Agreed

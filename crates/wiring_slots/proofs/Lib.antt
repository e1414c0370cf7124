pub mod wired_laws

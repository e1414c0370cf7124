mod Codes
mod Importable
mod Imported
mod Owners
mod Places
mod Slots

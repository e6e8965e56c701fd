-- What an entry does on octets that spell no table.
pub mod NoTable
pub mod Entries

mod Numbers
mod Forms
mod Asking
mod Readable
mod Runs
mod Orders
mod Along
mod Writers
mod Exact
pub mod Meant
pub mod Dividing
pub mod Faults
pub mod Endings

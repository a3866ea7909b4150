mod Assignments
pub mod Fault
mod Forms
mod Local
pub mod OneFault
mod Operands
mod Operators
mod Programs
pub mod Refused
mod Statements
mod Steps
mod Strict
mod viable

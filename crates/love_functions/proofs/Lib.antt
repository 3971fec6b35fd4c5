mod Steps
mod ByName
mod Machine

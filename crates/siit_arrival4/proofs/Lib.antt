mod Routes
mod Tables
mod Joined
mod Left

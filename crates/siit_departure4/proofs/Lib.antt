mod Fields
mod Shapes
mod Sent
mod Bodies
mod Errors
mod Uppers
mod Heads

mod Alone
mod Uppers
mod Sent
mod KeptIs
mod Messages
mod ErrorIs

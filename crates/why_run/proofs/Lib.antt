mod Asking
mod Giving
mod Answering
mod Running

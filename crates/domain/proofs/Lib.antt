mod Heads
mod Takings

-- Lemmas on what is known between rows, and on what stands beside a state of Zero.
mod Knowing
mod Mirroring
mod Bare

-- What is known between rows.
mod Knowing

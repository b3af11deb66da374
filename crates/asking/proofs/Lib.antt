mod Named
mod Spaces
mod Handing
mod Trips
mod Runs

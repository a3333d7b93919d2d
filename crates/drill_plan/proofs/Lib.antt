mod Apart
mod Asked
mod Openings
mod Taken

mod Asked
mod InDatabases
mod Many
mod Served
mod Taken
mod Unasked

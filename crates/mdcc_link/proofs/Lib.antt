mod Firsts
mod Pieces
mod Queues
mod Storing

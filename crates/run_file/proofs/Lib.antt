mod Laws
mod Sequences

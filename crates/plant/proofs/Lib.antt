mod Firsts
mod Fitting

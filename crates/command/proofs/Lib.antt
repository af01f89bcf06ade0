mod Filling
mod Firsts
mod Offering
mod Written

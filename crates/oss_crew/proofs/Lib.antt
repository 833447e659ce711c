mod Numbers
mod Homes

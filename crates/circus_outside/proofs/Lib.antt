mod Answerable
mod Whole

mod Numbers
mod Scans
mod Whole

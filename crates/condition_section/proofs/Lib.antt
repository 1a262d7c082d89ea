mod Opening
mod Marked

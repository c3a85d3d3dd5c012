mod Adding
mod Bounds
mod Columns
mod Pages
mod Placing
mod Reading

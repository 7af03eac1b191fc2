mod Commands
mod Serving

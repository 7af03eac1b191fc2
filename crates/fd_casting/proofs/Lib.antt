mod Verdicts
mod Courses
mod Lanes

mod Staffing
mod Handing
mod Crewing
mod Telling
mod Lasting
mod Opening

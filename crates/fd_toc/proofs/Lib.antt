mod SlotSteps
mod Filled
mod LoadSteps
mod Fronts
mod Meanwhile
mod CallSteps
mod Patterns

mod RunVectors
mod TableReads
mod FillSteps
mod FailSteps
mod CrashSteps
mod CallSteps

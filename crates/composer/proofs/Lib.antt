mod Backspaces
mod KanaSteps
mod Moves

mod SlotsMade
mod Fronts

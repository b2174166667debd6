mod DepthLemmas
mod Fronts
mod Halving
mod LawProofs
mod Sound
mod Levels
mod ShownFiles
mod TableLemmas

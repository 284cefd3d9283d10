mod Cuts
mod Figures

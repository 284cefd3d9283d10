mod Layers

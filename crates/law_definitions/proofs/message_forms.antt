mod Inner
mod Beside
mod Serving
mod Walking
mod OnTrails
mod Runs

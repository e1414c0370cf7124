pub mod port_counts

pub mod PortCounts

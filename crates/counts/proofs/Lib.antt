pub mod FourCounts

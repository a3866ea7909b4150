pub mod MainMeans

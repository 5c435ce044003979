pub mod StoppingVectors

-- To be believed by reading: what `ecat segment` prints on the output and on the fault stream.
pub mod Opening
pub mod Serving

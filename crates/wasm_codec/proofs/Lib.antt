pub mod ContentLengths
pub mod SameBytes
pub mod RoundTrips

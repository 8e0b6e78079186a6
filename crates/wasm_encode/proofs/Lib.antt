pub mod FirstLong

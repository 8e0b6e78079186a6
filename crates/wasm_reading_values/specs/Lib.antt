pub mod Exactness
pub mod ValuesRead
pub mod TypesRead
pub mod EntriesRead

mod Demanded
mod Scoped

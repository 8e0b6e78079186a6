pub mod Worked
pub mod SameTypes
pub mod TypePlaces
pub mod TypeOrder
pub mod TypeLaws
pub mod PlainBodies
